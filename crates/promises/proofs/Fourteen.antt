-- 14 at a sound table: two configured regions that meet are one, and the zone's own set does not hold it, since 13 comes
-- before.
use Prim.Native.Nat.{ℕ, suc, ◌+◌, ◌<◌}
use native.Mathlib.Decide.{ℕ_discrete}
use native.Mathlib.Omega.{arith}
use mathlib.Core.Bool.{true}
use mathlib.Core.List.{List, [], ◌∷◌, ◌++◌}
use mathlib.Core.Logic.{◌⊎◌, ⊎_elim}
use mathlib.Core.Path.{◌≡◌, sym, ap, subst, ◌∙◌}
use lib.ListN.{length, get_or, length-append, get_or-append}
use Rattle.rules.specs.Changes.{region_set}
use Rattle.rules.specs.Configuration.{config_of, StoredConfig}
use Rattle.rules.specs.Limits.{Limits}
use Rattle.rules.specs.Regions.{no_region}
use Rattle.rules.specs.Requests.{find, held_in, insert, refusal}
use Rattle.rules.specs.Tables.{configured, no_zone, regions_of, side_of, Zone}
use Rattle.rules.specs.declared.Region.{Region}
use Rattle.rules.specs.declared.Side.{Side}
use Rattle.rules.specs.declared.Side.TheVariants.{Cpu, Iommu}
use Rattle.rules.proofs.Addresses.{overlap_shared}
use Rattle.rules.proofs.Configuration.{passed}
use Rattle.rules.proofs.Tables.{overlap_same, position_configured}
use Rattle.promises.specs.Answers.{ForbiddenFor, MeetsPhys, RequestSays}
use Rattle.promises.specs.Neighbours.{FourteenIsAnothers, HeldElsewhere}
use Rattle.promises.specs.Tables.{In, SoundUnder}
use Rattle.promises.proofs.Answers.{refusal_is_exact, tells_in, tells_other, twice}
use Rattle.promises.proofs.Tables.{inv_regions_in_all_regions}

-- ---- what the lines say
past : (n : ℕ) (P R : Type 0) → (n ≡ 14 → ⊥) → ((P × (n ≡ 14)) ⊎ ((P → ⊥) × R)) → (P → ⊥) × R
past n P R ne h = ⊎_elim (λ x. absurd (ne x.1)) (λ x. x) h

-- the region is configured, the zone's own set does not hold it, and it is forbidden
says : (l : Limits) (c : StoredConfig) (t : List Zone) (id : ℕ) (s : Side) (r : Region)
    → RequestSays l (config_of c) t (insert s r id) 14
    → ((In r (config_of c).regions → ⊥) → ⊥)
    × ((In r (region_set t (find id t) s) → ⊥) × ForbiddenFor (config_of c) (find id t) s r t)
says l c t id s r h0 =
    let h1 = (past 3 _ _ (λ e. omega arith) h0).1 in
    let h2 = (past 4 _ _ (λ e. omega arith) h1).1 in
    let h3 = (past 6 _ _ (λ e. omega arith) h2).1 in
    let h4 = (past 9 _ _ (λ e. omega arith) h3).1 in
    let h5 = (past 10 _ _ (λ e. omega arith) h4).1 in
    let h6 = past 11 _ _ (λ e. omega arith) h5 in
    let h7 = (past 19 _ _ (λ e. omega arith) h6.1).1 in
    let h8 = (past 12 _ _ (λ e. omega arith) h7).1 in
    let h9 = past 13 _ _ (λ e. omega arith) h8 in
    (h6.0, (h9.0, ⊎_elim (λ x. x.0) (λ x. absurd (later x.1)) h9.1))
  where
    later : {P Q : Type 0}
        → ((P × (◌≡◌ {A = ℕ} 15 14))
        ⊎ ((P → ⊥) × ((Q × (◌≡◌ {A = ℕ} 16 14)) ⊎ ((Q → ⊥) × (◌≡◌ {A = ℕ} 0 14))))) → ⊥
    later h = ⊎_elim (λ x. omega (arith, x.1)) (λ x. ⊎_elim (λ y. omega (arith, y.1)) (λ y. omega (arith, y.1)) x.1) h

-- ---- what a zone holds is what either set holds
in_left : (x : Region) (xs ys : List Region) → In x xs → In x (xs ++ ys)
in_left x xs ys (i, h, q) = (i, omega (arith, length-append xs ys), get_or-append xs ys no_region i h ∙ q)

step_on : (us : List Region) (k : ℕ) → suc (length us) + k ≡ suc (length us + k)
step_on us k = omega arith

in_right : (x : Region) (xs ys : List Region) → In x ys → In x (xs ++ ys)
in_right x xs ys (i, h, q) = (length xs + i, omega (arith, length-append xs ys), get_d_past xs ys i ∙ q)
  where
    get_d_past : (us bs : List Region) (k : ℕ) → get_or (us ++ bs) (length us + k) no_region ≡ get_or bs k no_region
    get_d_past [] bs k = ap (λ (j : ℕ). get_or bs j no_region) (omega arith)
    get_d_past (a ∷ us) bs k = ap (λ (j : ℕ). get_or (a ∷ (us ++ bs)) j no_region) (step_on us k) ∙ get_d_past us bs k

module _ (lim : Limits) (s : StoredConfig) (t : List Zone) (ok : SoundUnder lim s t) where
  -- two configured regions that meet are one
  one_region : (r x : Region) (z : ℕ) → z < length t → ((In r (config_of s).regions → ⊥) → ⊥)
      → In x (regions_of (get_or t z no_zone)) → MeetsPhys r x → (r ≡ x → ⊥) → ⊥
  one_region r x z h c m meets ne =
      c (λ a. ne (
      let (i, l, q) = a in
      let (j, k, p) = inv_regions_in_all_regions lim s t ok z x h m in
      let good = passed lim s ok.config.0 ok.config.1 in
      overlap_same lim (config_of s) good r x
      (subst (λ (y : Region). configured (config_of s) y ≡ true) q (position_configured lim (config_of s) good i l))
      (subst (λ (y : Region). configured (config_of s) y ≡ true) p (position_configured lim (config_of s) good j k))
      ((overlap_shared _ _ _ _).1 meets)))

  -- the region is held elsewhere: that is tested, so it is enough that it cannot fail
  tested : (id : ℕ) (r : Region) → ((HeldElsewhere t id r → ⊥) → ⊥) → HeldElsewhere t id r
  tested id r n =
      let tells =
      tells_other (λ (y : Zone). held_in r (regions_of y)) (λ y. In r (regions_of y)) (λ y. tells_in r (regions_of y)) t
      (find id t) in
      tells.0 (twice _ tells n)

  fourteen : (side : Side) (r : Region) (id : ℕ) → refusal lim (config_of s) t (insert side r id) ≡ 14
      → (HeldElsewhere t id r → ⊥) → ⊥
  unfolding region_set side_of
  fourteen Cpu r id e never =
      let (c, rest) = says lim s t id Cpu r ((refusal_is_exact lim (config_of s) t _ 14).0 e) in
      let (new, f) = rest in
      ⊎_elim
      (λ a. let (z, h, some) = a in
      let (x, m, meets) = some in
      let both = in_left x (get_or t z no_zone).cpu (get_or t z no_zone).iommu m in
      one_region r x z h c both meets (λ same.
      elim (ℕ_discrete z (find id t)) [
        | yes q ↦ new (subst (λ (k : ℕ). In r (get_or t k no_zone).cpu) q
            (subst (λ (y : Region). In y (get_or t z no_zone).cpu) (sym same) m))
        | no ne ↦ never (z, h, (ne, subst (λ (y : Region). In y (regions_of (get_or t z no_zone))) (sym same) both))
      ]))
      (λ a. let (z, h, two) = a in
      let (ne, some) = two in
      let (x, m, meets) = some in
      let both = in_right x (get_or t z no_zone).cpu (get_or t z no_zone).iommu m in
      one_region r x z h c both meets
      (λ same. never (z, h, (ne, subst (λ (y : Region). In y (regions_of (get_or t z no_zone))) (sym same) both))))
      f
  fourteen Iommu r id e never =
      let (c, rest) = says lim s t id Iommu r ((refusal_is_exact lim (config_of s) t _ 14).0 e) in
      let (new, f) = rest in
      let (z, h, two) = f in
      let (ne, some) = two in
      let (x, m, g) = some in
      let (a, b) = g in
      let (k, meets) = b in
      one_region r x z h c m meets
      (λ same. never (z, h, (ne, subst (λ (y : Region). In y (regions_of (get_or t z no_zone))) (sym same) m)))

pub fourteen_is_anothers : (lim : Limits) → FourteenIsAnothers lim
fourteen_is_anothers lim s t ok side r id e = tested lim s t ok id r (fourteen lim s t ok side r id e)
