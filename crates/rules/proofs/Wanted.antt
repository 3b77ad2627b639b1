-- What a table holds, as a list: each holding stands in it once, and it stands there exactly when the table holds it.
use Prim.Native.Nat.{ℕ, suc}
use mathlib.Core.Bool.{Bool, true, false, cond, ◌&&◌, ◌||◌, true≢false}
use mathlib.Core.List.{List, [], ◌∷◌, ◌++◌, map, flat_map}
use mathlib.Core.Logic.{⊎_elim}
use mathlib.Core.Path.{◌≡◌, refl, sym, ap, ap₂, ◌∙◌}
use borrow.Author.Tests.{eqb-true, eqb-false, eq-eqb, not-true}
use lib.Dec.{eqb}
use lib.ListN.{get_or}
use Rattle.lists.specs.First.{first_index, any, all}
use Rattle.lists.specs.Pairs.{pairwise}
use Rattle.lists.proofs.Distinct.{Distinct, distinct_append, Decides}
use Rattle.lists.proofs.Every.{all_at, any_append, any_and, none_make}
use Rattle.lists.proofs.Kept.{any_map}
use Rattle.lists.proofs.Tests.{both_true, true_both, both_false, holds_or_fails, false_of, parts}
use Rattle.rules.specs.Changes.{region_set}
use Rattle.rules.specs.Configuration.{Configuration}
use Rattle.rules.specs.Limits.{Limits}
use Rattle.rules.specs.Regions.{region_eq, guest_overlap, no_region}
use Rattle.rules.specs.Requests.{find, present, held_in}
use Rattle.rules.specs.Tables.{no_zone, side_of, has_id, configured, guest_apart, sound_set, sound_zone, ids_differ}
use Rattle.rules.specs.Tables.{Zone}
use Rattle.rules.specs.Wanted.{holding, held_on, holdings, ids_of, holds, Holding}
use Rattle.rules.specs.declared.Region.{Region}
use Rattle.rules.specs.declared.Side.{Side}
use Rattle.rules.specs.declared.Side.TheVariants.{Cpu, Iommu}
use Rattle.rules.proofs.Configuration.{SoundConfiguration}
use Rattle.rules.proofs.Regions.{equal_same, equal_refl}
use Rattle.rules.proofs.Tables.{guest_overlaps_itself}

-- ---- tests of equality: ids, regions, holdings
abbrev pub same_id : ℕ → ℕ → Bool
same_id a b = eqb b a

pub same_id_law : Decides same_id
same_id_law = record { equal = λ a b e. sym (eqb-true b a e); itself = λ a. eq-eqb a a refl }

pub same_region : Decides region_eq
same_region = record { equal = equal_same; itself = equal_refl }

unfoldable pub same_side : Side → Side → Bool
same_side Cpu Cpu = true
same_side Cpu Iommu = false
same_side Iommu Cpu = false
same_side Iommu Iommu = true

unfoldable pub same_holding : Holding → Holding → Bool
same_holding k h = eqb h.zone k.zone && (same_side k.side h.side && region_eq k.region h.region)

pub side_equal : (a b : Side) → same_side a b ≡ true → a ≡ b
unfolding same_side
side_equal Cpu Cpu e = refl
side_equal Cpu Iommu e = absurd (true≢false (sym e))
side_equal Iommu Cpu e = absurd (true≢false (sym e))
side_equal Iommu Iommu e = refl

side_itself : (a : Side) → same_side a a ≡ true
unfolding same_side
side_itself Cpu = refl
side_itself Iommu = refl

holding_equal : (k h : Holding) → same_holding k h ≡ true → k ≡ h
unfolding same_holding
holding_equal k h e =
    let a = both_true _ _ e in
    let b = both_true _ _ a.1 in
    let z : k.zone ≡ h.zone = sym (eqb-true _ _ a.0) in
    let s : k.side ≡ h.side = side_equal _ _ b.0 in
    let r : k.region ≡ h.region = equal_same _ _ b.1 in
    (λ i. record { zone = z i; side = s i; region = r i })

holding_itself : (h : Holding) → same_holding h h ≡ true
unfolding same_holding
holding_itself h =
    true_both _ _ (eq-eqb h.zone h.zone refl)
    (true_both _ _ (side_itself h.side) (equal_refl h.region))

pub same_holding_law : Decides same_holding
same_holding_law = record { equal = holding_equal; itself = holding_itself }

-- ---- ids
pub in_ids : (id : ℕ) (t : List Zone) → any (same_id id) (ids_of t) ≡ present id t
in_ids id t = any_map (λ (z : Zone). z.id) (same_id id) t

-- an id that differs from those of all zones is not there
pub id_fresh : (z : Zone) (t : List Zone) → all (ids_differ z) t ≡ true → present z.id t ≡ false
id_fresh z t h =
    none_make (has_id z.id) t no_zone
    (λ i l. false_of _
    (λ p. eqb-false z.id (get_or t i no_zone).id (not-true _ (all_at (ids_differ z) t no_zone h i l))
    (sym (eqb-true (get_or t i no_zone).id z.id p))))

pub ids_distinct : (t : List Zone) → pairwise ids_differ t ≡ true → Distinct same_id (ids_of t)
unfolding pairwise
ids_distinct [] e = tt
ids_distinct (z ∷ t) e =
    let h = both_true (all (ids_differ z) t) (pairwise ids_differ t) e in
    (in_ids z.id t ∙ id_fresh z t h.0, ids_distinct t h.1)

-- ---- what a table holds, zone by zone
holds_first : (k : Holding) (z : Zone) (t : List Zone)
    → holds (z ∷ t) k ≡ cond (eqb z.id k.zone) (held_in k.region (side_of k.side z)) (holds t k)
unfolding holds region_set first_index
holds_first k z t = by (eqb z.id k.zone)
  where
    by : (b : Bool)
        → held_in k.region (side_of k.side (get_or (z ∷ t) (cond b 0 (suc (find k.zone t))) no_zone))
        ≡ cond b (held_in k.region (side_of k.side z))
        (held_in k.region (side_of k.side (get_or t (find k.zone t) no_zone)))
    by true = refl
    by false = refl

side_empty : (r : Region) (s : Side) → held_in r (side_of s no_zone) ≡ false
unfolding side_of any
side_empty r Cpu = refl
side_empty r Iommu = refl

empty_holds : (k : Holding) → holds [] k ≡ false
unfolding holds region_set
empty_holds k = side_empty k.region k.side

-- a table without the zone does not hold it
pub absent_holds : (k : Holding) (t : List Zone) → present k.zone t ≡ false → holds t k ≡ false
unfolding any
absent_holds k [] e = empty_holds k
absent_holds k (z ∷ t) e =
    let h = both_false (eqb z.id k.zone) (present k.zone t) e in
    holds_first k z t
    ∙ ap (λ (b : Bool). cond b (held_in k.region (side_of k.side z)) (holds t k)) h.0
    ∙ absent_holds k t h.1

pub held_present : (k : Holding) (t : List Zone) → holds t k ≡ true → present k.zone t ≡ true
held_present k t e =
    ⊎_elim (λ p. p) (λ p. absurd (true≢false (sym e ∙ absent_holds k t p))) (holds_or_fails (present k.zone t))

-- ---- the list of what a table holds
-- a holding among those of one side of a zone
in_side : (k : Holding) (s : Side) (z : Zone)
    → any (same_holding k) (held_on s z)
    ≡ (eqb z.id k.zone && (same_side k.side s && held_in k.region (side_of s z)))
unfolding same_holding
in_side k s z =
    any_map (holding z.id s) (same_holding k) (side_of s z)
    ∙ any_and (eqb z.id k.zone) (λ (r : Region). same_side k.side s && region_eq k.region r) (side_of s z)
    ∙ ap (λ (b : Bool). eqb z.id k.zone && b)
    (any_and (same_side k.side s) (region_eq k.region) (side_of s z))

-- among those of a zone
in_zone : (k : Holding) (z : Zone)
    → any (same_holding k) (held_on Cpu z ++ held_on Iommu z)
    ≡ (eqb z.id k.zone && held_in k.region (side_of k.side z))
unfolding same_side
in_zone k z =
    any_append (same_holding k) (held_on Cpu z) (held_on Iommu z)
    ∙ ap₂ (λ (a b : Bool). a || b) (in_side k Cpu z) (in_side k Iommu z)
    ∙ one_side (eqb z.id k.zone) k.side
  where
    off : (b : Bool) → (b || false) ≡ b
    off true = refl
    off false = refl

    one_side : (b : Bool) (s : Side)
        → ((b && (same_side s Cpu && held_in k.region (side_of Cpu z)))
        || (b && (same_side s Iommu && held_in k.region (side_of Iommu z))))
        ≡ (b && held_in k.region (side_of s z))
    one_side false s = refl
    one_side true Cpu = off (held_in k.region (side_of Cpu z))
    one_side true Iommu = refl

-- it stands in the list exactly when the table holds it
pub in_holdings : (t : List Zone) → pairwise ids_differ t ≡ true → (k : Holding)
    → any (same_holding k) (holdings t) ≡ holds t k
unfolding holdings pairwise any flat_map
in_holdings [] e k = sym (empty_holds k)
in_holdings (z ∷ t) e k =
    let h = both_true (all (ids_differ z) t) (pairwise ids_differ t) e in
    any_append (same_holding k) (held_on Cpu z ++ held_on Iommu z) (holdings t)
    ∙ ap₂ (λ (a b : Bool). a || b) (in_zone k z) (in_holdings t h.1 k)
    ∙ by (eqb z.id k.zone) refl (held_in k.region (side_of k.side z)) (id_fresh z t h.0)
    ∙ sym (holds_first k z t)
  where
    off : (u v : Bool) → v ≡ false → (u || v) ≡ u
    off true v q = refl
    off false v q = q

    by : (b : Bool) → eqb z.id k.zone ≡ b → (u : Bool) → present z.id t ≡ false
        → ((b && u) || holds t k) ≡ cond b u (holds t k)
    by true q u f = off u (holds t k) (absent_holds k t (ap (λ (n : ℕ). present n t) (sym (eqb-true _ _ q)) ∙ f))
    by false q u f = refl

-- ---- nothing is held twice
module _ (lim : Limits) (c : Configuration) (ok : SoundConfiguration lim c) where
  regions_distinct : (xs : List Region) → all (configured c) xs ≡ true → pairwise guest_apart xs ≡ true
      → Distinct region_eq xs
  unfolding all pairwise
  regions_distinct [] a e = tt
  regions_distinct (x ∷ xs) a e =
      let d = both_true (configured c x) (all (configured c) xs) a in
      let h = both_true (all (guest_apart x) xs) (pairwise guest_apart xs) e in (
        none_make (region_eq x) xs no_region
            (λ i l. false_of _
            (λ p. true≢false
            (sym (guest_overlaps_itself lim c ok x d.0)
            ∙ ap (guest_overlap x) (equal_same x _ p)
            ∙ not-true _ (all_at (guest_apart x) xs no_region h.0 i l)))),
        regions_distinct xs d.1 h.1,
      )

  pub set_distinct : (xs : List Region) → sound_set lim c xs ≡ true → Distinct region_eq xs
  unfolding sound_set
  set_distinct xs e = let h = parts _ e in regions_distinct xs h.1.0 h.1.1.0

  side_distinct : (id : ℕ) (s : Side) (xs : List Region) → Distinct region_eq xs
      → Distinct same_holding (map (holding id s) xs)
  unfolding same_holding
  side_distinct id s [] d = tt
  side_distinct id s (x ∷ xs) d = (by, side_distinct id s xs d.1)
    where
      by : any (same_holding (holding id s x)) (map (holding id s) xs) ≡ false
      by =
          any_map (holding id s) (same_holding (holding id s x)) xs
          ∙ any_and (eqb id id) (λ (r : Region). same_side s s && region_eq x r) xs
          ∙ ap₂ (λ (a b : Bool). a && b) (eq-eqb id id refl)
          (any_and (same_side s s) (region_eq x) xs ∙ ap₂ (λ (a b : Bool). a && b) (side_itself s) d.0)

  zone_distinct : (z : Zone) → sound_zone lim c z ≡ true → Distinct same_holding (held_on Cpu z ++ held_on Iommu z)
  unfolding sound_zone side_of same_side
  zone_distinct z e =
      let h = parts _ e in
      distinct_append same_holding_law (held_on Cpu z) (held_on Iommu z)
      (side_distinct z.id Cpu z.cpu (set_distinct z.cpu h.1.0))
      (side_distinct z.id Iommu z.iommu (set_distinct z.iommu h.1.1.0))
      (λ k q. apart k (eqb z.id k.zone) k.side (held_in k.region (side_of Cpu z))
      (held_in k.region (side_of Iommu z)) (in_side k Iommu z) (sym (in_side k Cpu z) ∙ q))
    where
      apart : (k : Holding) (b : Bool) (s : Side) (u v : Bool)
          → any (same_holding k) (held_on Iommu z) ≡ (b && (same_side s Iommu && v)) → (b && (same_side s Cpu && u)) ≡ true
          → any (same_holding k) (held_on Iommu z) ≡ false
      apart k false s u v f q = f
      apart k true Cpu u v f q = f
      apart k true Iommu u v f q = absurd (true≢false (sym q))

  pub holdings_distinct : (t : List Zone) → all (sound_zone lim c) t ≡ true → pairwise ids_differ t ≡ true
      → Distinct same_holding (holdings t)
  unfolding holdings all pairwise flat_map
  holdings_distinct [] a e = tt
  holdings_distinct (z ∷ t) a e =
      let d = both_true (sound_zone lim c z) (all (sound_zone lim c) t) a in
      let h = both_true (all (ids_differ z) t) (pairwise ids_differ t) e in
      distinct_append same_holding_law (held_on Cpu z ++ held_on Iommu z) (holdings t) (zone_distinct z d.0)
      (holdings_distinct t d.1 h.1)
      (λ k q. in_holdings t h.1 k
      ∙ absent_holds k t
      (ap (λ (n : ℕ). present n t) (sym (eqb-true _ _ (both_true _ _ (sym (in_zone k z) ∙ q)).0))
      ∙ id_fresh z t h.0))
