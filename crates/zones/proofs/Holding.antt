-- That two zones share no region, by which zones hold each configured one.
use Prim.Native.Nat.{ℕ, ◌<◌}
use native.Mathlib.Decide.{ℕ_discrete}
use native.Mathlib.Omega.{arith}
use mathlib.Core.Bool.{Bool, true, false, not, ◌&&◌, ◌||◌, true≢false}
use mathlib.Core.List.{List}
use mathlib.Core.Path.{◌≡◌, refl, sym, ap, ◌∙◌}
use borrow.Author.Tests.{eqb-true, not-true, eq-eqb, ne_eqb}
use lib.Dec.{eqb}
use lib.ListN.{length, get_or}
use Rattle.lists.specs.First.{first_index, any, all}
use Rattle.lists.specs.Pairs.{pairwise}
use Rattle.lists.specs.Places.{places}
use Rattle.lists.proofs.Every.{all_at, all_make, all_append, any_make, any_at, none_at, none_make}
use Rattle.lists.proofs.First.{before_fails, first_is}
use Rattle.lists.proofs.Pairs.{pairs_at, pairs_make}
use Rattle.lists.proofs.Places.{every_at, every_make}
use Rattle.lists.proofs.Tests.{both_true, true_both, or_left, or_right, not_fails, false_of, same_test, parts}
use Rattle.rules.specs.Limits.{limits}
use Rattle.rules.specs.Configuration.{gic_of, Configuration}
use Rattle.rules.specs.Regions.{region_eq, no_region}
use Rattle.rules.specs.Tables.{no_zone, has_id, regions_of, configured, clash, sound_set, sound_zone, ids_differ, zones_apart}
use Rattle.rules.specs.Tables.{Zone}
use Rattle.rules.specs.declared.Region.{Region}
use Rattle.rules.proofs.Configuration.{SoundConfiguration}
use Rattle.rules.proofs.Regions.{equal_same, equal_refl}
use Rattle.rules.proofs.Tables.{configured_at, overlaps_itself, overlap_same, gic_position}
use Rattle.zones.specs.Holding.{holds, held_once, held_at, held_apart, new_id}

-- ---- the ids of a table differ exactly when each is new
pub new_ids : (t : List Zone) → pairwise ids_differ t ≡ all (new_id t) (places 0 (length t))
unfolding new_id
new_ids t =
    same_test (pairwise ids_differ t) (all (new_id t) (places 0 (length t)))
    (λ e. every_make (new_id t) 0 (length t) (λ z h l. fresh e z (omega arith)))
    (λ e. pairs_make ids_differ t no_zone (λ y z h l. other e y z h l))
  where
    id : ℕ → ℕ
    id z = (get_or t z no_zone).id

    itself : (z : ℕ) → has_id (id z) (get_or t z no_zone) ≡ true
    itself z = eq-eqb (get_or t z no_zone).id (get_or t z no_zone).id refl

    fresh : pairwise ids_differ t ≡ true → (z : ℕ) → z < length t
        → eqb (first_index (has_id (get_or t z no_zone).id) t) z ≡ true
    fresh e z h =
        eq-eqb _ z (first_is (has_id (id z)) t no_zone z h (itself z)
        (λ j l. not-true _ (pairs_at ids_differ t no_zone e j z l h)))

    other : all (new_id t) (places 0 (length t)) ≡ true → (y z : ℕ) → y < z → z < length t
        → ids_differ (get_or t y no_zone) (get_or t z no_zone) ≡ true
    other e y z h l =
        let q : first_index (has_id (id z)) t ≡ z =
        eqb-true _ _ (every_at (new_id t) 0 (length t) e z (omega arith) (omega arith)) in
        ap not (before_fails (has_id (id z)) t no_zone y (omega arith))

-- ---- zones share nothing but the GIC exactly when each other configured region is held once
module _ (c : Configuration) (ok : SoundConfiguration limits c) (t : List Zone)
    (each : all (sound_zone limits c) t ≡ true) where
  -- every region of a zone is configured
  zone_configured : (z : ℕ) → z < length t → all (configured c) (regions_of (get_or t z no_zone)) ≡ true
  unfolding sound_zone sound_set
  zone_configured z h =
      let s = parts _ (all_at (sound_zone limits c) t no_zone each z h) in
      all_append (configured c) (get_or t z no_zone).cpu (get_or t z no_zone).iommu (parts _ s.1.0).1.0
      (parts _ s.1.1.0).1.0

  -- a zone that holds a region has it among its regions
  held_among : (r : Region) (z : Zone) → holds r z ≡ true
      → (i : ℕ) × (i < length (regions_of z)) × (r ≡ get_or (regions_of z) i no_region)
  unfolding holds
  held_among r z e =
      let (i, h, q) = any_at (region_eq r) (regions_of z) no_region e in
      (i, h, equal_same r (get_or (regions_of z) i no_region) q)

  among_held : (r : Region) (z : Zone) (i : ℕ) → i < length (regions_of z) → r ≡ get_or (regions_of z) i no_region
      → holds r z ≡ true
  unfolding holds
  among_held r z i h q = any_make (region_eq r) (regions_of z) no_region i h (ap (region_eq r) (sym q) ∙ equal_refl r)

  -- two zones that hold one region other than the GIC clash
  not_gic : (k : ℕ) → k < length c.regions → (k ≡ c.gic → ⊥)
      → region_eq (get_or c.regions k no_region) (gic_of c) ≡ false
  not_gic k h ne = false_of _ (λ e. ne (gic_position limits c ok k h (equal_same _ _ e)))

  region_there : (k : ℕ) → k < length c.regions → configured c (get_or c.regions k no_region) ≡ true
  unfolding configured
  region_there k h =
      any_make (region_eq (get_or c.regions k no_region)) c.regions no_region k h
      (equal_refl (get_or c.regions k no_region))

  self_clash : (k : ℕ) → k < length c.regions → (k ≡ c.gic → ⊥)
      → clash c (get_or c.regions k no_region) (get_or c.regions k no_region) ≡ true
  unfolding clash
  self_clash k h ne =
      true_both _ _ (not_fails _ (not_gic k h ne))
      (true_both _ _ (not_fails _ (not_gic k h ne))
      (overlaps_itself limits c ok (get_or c.regions k no_region) (region_there k h)))

  shared_clash : (k : ℕ) → k < length c.regions → (k ≡ c.gic → ⊥) → (y z : Zone)
      → holds (get_or c.regions k no_region) y ≡ true → holds (get_or c.regions k no_region) z ≡ true
      → zones_apart c y z ≡ true → ⊥
  unfolding zones_apart
  shared_clash k h ne y z hy hz e =
      let r : Region = get_or c.regions k no_region in
      let (i, li, qi) = held_among r y hy in
      let (j, lj, qj) = held_among r z hz in
      let none : any (clash c r) (regions_of z) ≡ false =
      ap (λ (a : Region). any (clash c a) (regions_of z)) qi
      ∙ not-true _ (all_at (λ (a : Region). not (any (clash c a) (regions_of z))) (regions_of y) no_region e i li) in
      true≢false (sym (self_clash k h ne) ∙ ap (clash c r) qj ∙ none_at (clash c r) (regions_of z) no_region none j lj)

  -- two regions that clash are one configured region other than the GIC, and both zones hold it
  clash_shared : (y z : ℕ) → y < length t → z < length t → (a b : Region) → configured c a ≡ true
      → configured c b ≡ true → clash c a b ≡ true
      → (k : ℕ) × (k < length c.regions) × (k ≡ c.gic → ⊥) × (a ≡ get_or c.regions k no_region)
      × (b ≡ get_or c.regions k no_region)
  unfolding clash gic_of
  clash_shared y z hy hz a b ea eb e =
      let p = both_true (not (region_eq a (gic_of c))) _ e in
      let q = both_true (not (region_eq b (gic_of c))) _ p.1 in
      let same : a ≡ b = overlap_same limits c ok a b ea eb q.1 in
      let (k, h, r) = configured_at limits c ok a ea in (
        k,
        h,
        (λ g. true≢false (sym (equal_refl (gic_of c))
            ∙ ap (λ (x : Region). region_eq x (gic_of c)) (sym (r ∙ ap (λ (j : ℕ). get_or c.regions j no_region) g))
            ∙ not-true _ p.0)),
        r,
        sym same ∙ r,
      )

  pub apart_held : pairwise (zones_apart c) t ≡ held_apart c t
  unfolding held_apart held_at held_once zones_apart
  apart_held = same_test (pairwise (zones_apart c) t) (held_apart c t) to_held to_apart
    where
      once : pairwise (zones_apart c) t ≡ true → (k : ℕ) → k < length c.regions → (k ≡ c.gic → ⊥)
          → pairwise (λ (y z : Zone). not (holds (get_or c.regions k no_region) y
          && holds (get_or c.regions k no_region) z)) t
          ≡ true
      once e k h ne =
          pairs_make (λ (y z : Zone). not (holds (get_or c.regions k no_region) y
          && holds (get_or c.regions k no_region) z)) t no_zone
          (λ i j a b. not_fails _ (false_of _ (λ q. let w =
          both_true (holds (get_or c.regions k no_region) (get_or t i no_zone)) _ q in
          shared_clash k h ne (get_or t i no_zone) (get_or t j no_zone) w.0 w.1
          (pairs_at (zones_apart c) t no_zone e i j a b))))

      to_held : pairwise (zones_apart c) t ≡ true → held_apart c t ≡ true
      to_held e =
          every_make (held_at c t) 0 (length c.regions)
          (λ k h l. elim (ℕ_discrete k c.gic) [
            | yes g ↦ or_left (eqb k c.gic) _ (eq-eqb k c.gic g)
            | no ne ↦ or_right (eqb k c.gic) _ (once e k (omega arith) ne)
          ])

      no_clash : held_apart c t ≡ true → (y z : ℕ) → y < z → z < length t → (i j : ℕ)
          → i < length (regions_of (get_or t y no_zone)) → j < length (regions_of (get_or t z no_zone))
          → clash c (get_or (regions_of (get_or t y no_zone)) i no_region) (get_or (regions_of (get_or t z no_zone)) j no_region)
          ≡ false
      no_clash e y z h l i j hi hj =
          false_of _
          (λ q.
          let a : Region = get_or (regions_of (get_or t y no_zone)) i no_region in
          let b : Region = get_or (regions_of (get_or t z no_zone)) j no_region in
          let ea : configured c a ≡ true =
          all_at (configured c) (regions_of (get_or t y no_zone)) no_region (zone_configured y (omega arith)) i hi in
          let eb : configured c b ≡ true =
          all_at (configured c) (regions_of (get_or t z no_zone)) no_region (zone_configured z l) j hj in
          let (k, hk, ne, ra, rb) = clash_shared y z (omega arith) l a b ea eb q in
          let r : Region = get_or c.regions k no_region in
          let both : (holds r (get_or t y no_zone) && holds r (get_or t z no_zone)) ≡ true =
          true_both _ _ (among_held r (get_or t y no_zone) i hi (sym ra)) (among_held r (get_or t z no_zone) j hj (sym rb)) in
          let test : (eqb k c.gic || held_once r t) ≡ true =
          every_at (held_at c t) 0 (length c.regions) e k (omega arith) (omega arith) in
          let one : held_once r t ≡ true = ap (λ (x : Bool). x || held_once r t) (sym (ne_eqb k c.gic ne)) ∙ test in
          true≢false (sym both
          ∙ not-true _ (pairs_at (λ (u v : Zone). not (holds r u && holds r v)) t no_zone one y z h l)))

      to_apart : held_apart c t ≡ true → pairwise (zones_apart c) t ≡ true
      to_apart e =
          pairs_make (zones_apart c) t no_zone
          (λ y z h l.
          all_make (λ (a : Region). not (any (clash c a) (regions_of (get_or t z no_zone))))
          (regions_of (get_or t y no_zone)) no_region
          (λ i hi. not_fails _ (none_make (clash c (get_or (regions_of (get_or t y no_zone)) i no_region))
          (regions_of (get_or t z no_zone)) no_region (λ j hj. no_clash e y z h l i j hi hj))))
