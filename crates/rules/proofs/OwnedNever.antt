-- With owners 12 and 14 never occur: a region that a zone may hold is its own or the GIC, and two configured regions that
-- overlap are one; so what it would overlap is held by the same zone, where 13 comes first.
use Prim.Native.Nat.{ℕ, ◌≤◌, ◌<◌}
use native.Mathlib.Decide.{dec_lt}
use native.Mathlib.Omega.{arith}
use mathlib.Core.Bool.{Bool, true, false, not, ◌&&◌, ◌||◌, true≢false}
use mathlib.Core.List.{List}
use mathlib.Core.Logic.{◌⊎◌, inl, inr, ⊎_elim}
use mathlib.Core.Path.{◌≡◌, refl, sym, ap, ◌∙◌}
use borrow.Author.Tests.{eqb-true, eqb-false, ltb-false, not-false, not-true}
use lib.ListN.{length, get_or, length-append, get_or-append}
use Rattle.lists.specs.First.{any, all}
use Rattle.lists.specs.Rules.{first_rule}
use Rattle.lists.proofs.Every.{all_at, all_append, all_from, any_make, any_append, none_make, none_others_make}
use Rattle.lists.proofs.Pairs.{pairs_at}
use Rattle.lists.proofs.Rules.{test_of, silent, up_to, number_told}
use Rattle.lists.proofs.Tests.{both_true, both_false, false_both, one_true, or_left, false_of, parts}
use Rattle.rules.specs.Changes.{region_set}
use Rattle.rules.specs.Configuration.{gic_of, Configuration}
use Rattle.rules.specs.Limits.{highest_id, Limits}
use Rattle.rules.specs.Owners.{gic_owner, owner_of, may_hold, holds_own, stranger, eleven_too, owned_rules}
use Rattle.rules.specs.Owners.{owned_refusal, Owned}
use Rattle.rules.specs.Regions.{region_eq, phys_overlap, no_region}
use Rattle.rules.specs.Requests.{find, present, held_in, on_gic, forbidden, add_rules, remove_zone_rules, insert_rules}
use Rattle.rules.specs.Requests.{region_rules, set_rules, remove_rules, kind_rules, request_rules}
use Rattle.rules.specs.Tables.{no_zone, side_of, regions_of, configured, clash, sound_set, sound_zone, ids_differ, Zone}
use Rattle.rules.specs.declared.Kind.{Kind}
use Rattle.rules.specs.declared.Kind.TheVariants.{AddZone, RemoveZone, Insert, Remove, NoRequest}
use Rattle.rules.specs.declared.Region.{Region}
use Rattle.rules.specs.declared.Request.{Request}
use Rattle.rules.specs.declared.Side.{Side}
use Rattle.rules.specs.declared.Side.TheVariants.{Cpu, Iommu}
use Rattle.rules.proofs.Keeps.{found}
use Rattle.rules.proofs.OwnedCheck.{gic_owned, SoundOwned}
use Rattle.rules.proofs.Owners.{found_id, owned_numbered, OwnedTable}
use Rattle.rules.proofs.Regions.{equal_same, equal_refl}
use Rattle.rules.proofs.Tables.{overlap_same, position_configured}

-- a clash: the first is not the GIC, and the two overlap
clash_says : (c : Configuration) (a b : Region) → clash c a b ≡ true
    → (region_eq a (gic_of c) ≡ false) × (phys_overlap a b ≡ true)
unfolding clash
clash_says c a b e =
    let (x, f) = both_true (not (region_eq a (gic_of c))) (not (region_eq b (gic_of c)) && phys_overlap a b) e in
    (not-true _ x, (both_true (not (region_eq b (gic_of c))) (phys_overlap a b) f).1)

module _ (lim : Limits) (o : Owned) (ok : SoundOwned lim o) where
  pub gic_configured : configured o.config (gic_of o.config) ≡ true
  unfolding gic_of
  gic_configured = position_configured lim o.config ok.config o.config.gic ok.config.gic

  -- what an id owns is not the GIC
  pub not_gic : (id : ℕ) (r : Region) → id ≤ highest_id → configured o.config r ≡ true → owner_of o r ≡ id
      → r ≡ gic_of o.config → ⊥
  not_gic id r h e own g = let q : owner_of o r ≡ gic_owner = gic_owned lim o ok r e g in omega arith

  -- 12
  not_on_gic : (id : ℕ) (s : Side) (r : Region) → id ≤ highest_id → configured o.config r ≡ true
      → may_hold o id s r ≡ true → on_gic o.config s r ≡ false
  unfolding on_gic may_hold
  not_on_gic id Cpu r h e may =
      false_of _ (λ p. not_gic id r h e (eqb-true _ _ may)
      (overlap_same lim o.config ok.config r (gic_of o.config) e gic_configured p))
  not_on_gic id Iommu r h e may = refl

  module _ (t : List Zone) (tab : OwnedTable lim o t) where
    -- an id names one zone
    one_zone_law : (j k : ℕ) → j < length t → k < length t → (get_or t j no_zone).id ≡ (get_or t k no_zone).id → j ≡ k
    one_zone_law j k h l e =
        elim (dec_lt j k) [
          | yes a ↦
              absurd (eqb-false _ _ (not-true _ (pairs_at ids_differ t no_zone tab.table.ids j k a l)) e)
          | no a ↦
              elim (dec_lt k j) [
                | yes b ↦ absurd
                    (eqb-false _ _ (not-true _ (pairs_at ids_differ t no_zone tab.table.ids k j b h)) (sym e))
                | no b ↦ omega arith
              ]
        ]

    -- every region of a zone is configured, and the zone may hold it, at least on the IOMMU side
    all_configured : (j : ℕ) → j < length t → all (configured o.config) (regions_of (get_or t j no_zone)) ≡ true
    unfolding sound_zone sound_set
    all_configured j h =
        let p = parts _ (all_at (sound_zone lim o.config) t no_zone tab.table.zones j h) in
        all_append (configured o.config) (get_or t j no_zone).cpu (get_or t j no_zone).iommu
        (parts _ p.1.0).1.0 (parts _ p.1.1.0).1.0

    all_held : (j : ℕ) → j < length t
        → all (may_hold o (get_or t j no_zone).id Iommu) (regions_of (get_or t j no_zone)) ≡ true
    unfolding holds_own may_hold
    all_held j h =
        let z : Zone = get_or t j no_zone in
        let p = parts _ (all_at (holds_own o) t no_zone tab.own j h) in
        all_append (may_hold o z.id Iommu) z.cpu z.iommu
        (all_from (may_hold o z.id Cpu) (may_hold o z.id Cpu) (may_hold o z.id Iommu) (λ x a b. or_left _ _ a)
        z.cpu p.0 p.0) p.1.0

    -- a region that overlaps one that a zone holds is that zone's, or it is the GIC
    whose : (j m : ℕ) (r : Region) → j < length t → m < length (regions_of (get_or t j no_zone))
        → configured o.config r ≡ true → phys_overlap r (get_or (regions_of (get_or t j no_zone)) m no_region) ≡ true
        → (owner_of o r ≡ (get_or t j no_zone).id) ⊎ (r ≡ gic_of o.config)
    unfolding may_hold
    whose j m r h l e p =
        let xs : List Region = regions_of (get_or t j no_zone) in
        let x : Region = get_or xs m no_region in
        let q : r ≡ x =
        overlap_same lim o.config ok.config r x e
        (all_at (configured o.config) xs no_region (all_configured j h) m l) p in
        ⊎_elim (λ a. inl (ap (owner_of o) q ∙ eqb-true _ _ a)) (λ b. inr (q ∙ equal_same x (gic_of o.config) b))
        (one_true _ _ (all_at (may_hold o (get_or t j no_zone).id Iommu) xs no_region (all_held j h) m l))

    -- 14
    module _ (id : ℕ) (low : id ≤ highest_id) (there : present id t ≡ true) (r : Region)
        (conf : configured o.config r ≡ true) where
      abbrev k : ℕ
      k = find id t

      inside : k < length t
      inside = found id t there

      -- a zone whose region the owned r overlaps is zone k
      is_here : (j m : ℕ) → j < length t → m < length (regions_of (get_or t j no_zone)) → owner_of o r ≡ id
          → phys_overlap r (get_or (regions_of (get_or t j no_zone)) m no_region) ≡ true → j ≡ k
      is_here j m h l own p =
          ⊎_elim (λ a. one_zone_law j k h inside (sym a ∙ own ∙ sym (found_id id t there)))
          (λ g. absurd (not_gic id r low conf own g)) (whose j m r h l conf p)

      in_cpu : (j m : ℕ) → j < length t → m < length (get_or t j no_zone).cpu → owner_of o r ≡ id
          → phys_overlap r (get_or (get_or t j no_zone).cpu m no_region) ≡ true
          → any (region_eq r) (get_or t k no_zone).cpu ≡ false → ⊥
      in_cpu j m h l own p free =
          let z : Zone = get_or t j no_zone in
          let w : m < length (regions_of z) = omega (arith, length-append z.cpu z.iommu) in
          let e : get_or (regions_of z) m no_region ≡ get_or z.cpu m no_region =
          get_or-append z.cpu z.iommu no_region m l in
          let here : j ≡ k = is_here j m h w own (ap (phys_overlap r) e ∙ p) in
          let same : r ≡ get_or z.cpu m no_region =
          overlap_same lim o.config ok.config r (get_or z.cpu m no_region) conf
          (ap (configured o.config) (sym e)
          ∙ all_at (configured o.config) (regions_of z) no_region (all_configured j h) m w) p in
          true≢false
          (sym (any_make (region_eq r) z.cpu no_region m l (ap (region_eq r) (sym same) ∙ equal_refl r))
          ∙ ap (λ (i : ℕ). any (region_eq r) (get_or t i no_zone).cpu) here ∙ free)

      none_over : (j : ℕ) → j < length t → (j ≡ k → ⊥) → owner_of o r ≡ id
          → any (phys_overlap r) (regions_of (get_or t j no_zone)) ≡ false
      none_over j h ne own =
          none_make (phys_overlap r) (regions_of (get_or t j no_zone)) no_region
          (λ m l. false_of _ (λ p. ne (is_here j m h l own p)))

      not_forbidden : (s : Side) → may_hold o id s r ≡ true → held_in r (region_set t k s) ≡ false
          → forbidden o.config k s r t ≡ false
      unfolding may_hold forbidden clash region_set side_of
      not_forbidden Cpu may free =
          let own : owner_of o r ≡ id = eqb-true _ _ may in
          false_both _ _
          (none_make (λ (z : Zone). any (phys_overlap r) z.cpu) t no_zone
          (λ j h. none_make (phys_overlap r) (get_or t j no_zone).cpu no_region
          (λ m l. false_of _ (λ p. in_cpu j m h l own p free))))
          (none_others_make (λ (z : Zone). any (phys_overlap r) z.iommu) t k no_zone
          (λ j h ne. (both_false (any (phys_overlap r) (get_or t j no_zone).cpu) _
          (sym (any_append (phys_overlap r) (get_or t j no_zone).cpu (get_or t j no_zone).iommu) ∙ none_over j h ne own)).1))
      not_forbidden Iommu may free =
          none_others_make (λ (z : Zone). any (clash o.config r) (regions_of z)) t k no_zone
          (λ j h ne. none_make (clash o.config r) (regions_of (get_or t j no_zone)) no_region
          (λ m l. false_of _ (λ p.
          let (other, over) = clash_says o.config r (get_or (regions_of (get_or t j no_zone)) m no_region) p in
          ne (is_here j m h l
          (⊎_elim (λ e. eqb-true _ _ e) (λ g. absurd (true≢false (sym g ∙ other))) (one_true _ _ may)) over))))

-- any other rule than that of 11 is as it was
was : (t : Bool) → (t || false) ≡ false → t ≡ false
was t e = (both_false t false e).0

still : (t : Bool) → (t || false) ≡ true → t ≡ true
still true e = refl
still false e = e

module _ (lim : Limits) (o : Owned) (ok : SoundOwned lim o) (t : List Zone) (tab : OwnedTable lim o t) where
  -- a number that no rule of a kind has
  absent : (k : Kind) (id n : ℕ) → test_of (λ m. m) n (owned_rules lim o k id t) ≡ false → (0 ≡ n → ⊥)
      → first_rule (owned_rules lim o k id t) 0 ≡ n → ⊥
  absent k id n none z e =
      true≢false (sym (number_told (owned_rules lim o k id t) (owned_numbered lim o k id t) n z e).0 ∙ none)

  never_12 : (k : Kind) (id : ℕ) → first_rule (owned_rules lim o k id t) 0 ≡ 12 → ⊥
  unfolding owned_rules eleven_too stranger request_rules kind_rules add_rules remove_zone_rules insert_rules region_rules
      set_rules remove_rules test_of up_to
  never_12 AddZone id e = absent AddZone id 12 refl (λ z. omega arith) e
  never_12 RemoveZone id e = absent RemoveZone id 12 refl (λ z. omega arith) e
  never_12 (Insert s r) id e =
      let (told, before) = number_told _ (owned_numbered lim o (Insert s r) id t) 12 (λ z. omega arith) e in
      let h = silent (λ m. m) (up_to 12 (owned_rules lim o (Insert s r) id t)) before in
      let (conf, may) = both_false (not (configured o.config r)) (not (may_hold o id s r)) (h 11) in
      true≢false
      (sym (still _ told)
      ∙ not_on_gic lim o ok id s r (ltb-false _ _ (was _ (h 4))) (not-false _ conf) (not-false _ may))
  never_12 (Remove s r) id e = absent (Remove s r) id 12 refl (λ z. omega arith) e
  never_12 NoRequest id e = absent NoRequest id 12 refl (λ z. omega arith) e

  never_14 : (k : Kind) (id : ℕ) → first_rule (owned_rules lim o k id t) 0 ≡ 14 → ⊥
  unfolding owned_rules eleven_too stranger request_rules kind_rules add_rules remove_zone_rules insert_rules region_rules
      set_rules remove_rules test_of up_to
  never_14 AddZone id e = absent AddZone id 14 refl (λ z. omega arith) e
  never_14 RemoveZone id e = absent RemoveZone id 14 refl (λ z. omega arith) e
  never_14 (Insert s r) id e =
      let (told, before) = number_told _ (owned_numbered lim o (Insert s r) id t) 14 (λ z. omega arith) e in
      let h = silent (λ m. m) (up_to 14 (owned_rules lim o (Insert s r) id t)) before in
      let (conf, may) = both_false (not (configured o.config r)) (not (may_hold o id s r)) (h 11) in
      true≢false
      (sym (still _ told)
      ∙ not_forbidden lim o ok t tab id (ltb-false _ _ (was _ (h 4))) (not-false _ (was _ (h 6))) r (not-false _ conf) s
      (not-false _ may) (was _ (h 13)))
  never_14 (Remove s r) id e = absent (Remove s r) id 14 refl (λ z. omega arith) e
  never_14 NoRequest id e = absent NoRequest id 14 refl (λ z. omega arith) e

  pub no_twelve : (q : Request) → owned_refusal lim o t q ≡ 12 → ⊥
  unfolding owned_refusal
  no_twelve q e = never_12 q.kind q.zone e

  pub no_fourteen : (q : Request) → owned_refusal lim o t q ≡ 14 → ⊥
  unfolding owned_refusal
  no_fourteen q e = never_14 q.kind q.zone e
