-- Who may hold what, as the code asks it: the owner of a region is found by the first index of one that equals it, and
-- the loops over a set and over the zones have one test of the definition each turn.
use Prim.Native.Nat.{ℕ, ◌+◌, ◌*◌, ◌≤◌, ◌<◌}
use native.Mathlib.Nat.{sub-zero}
use native.Mathlib.Decide.{dec_lt}
use native.Mathlib.Omega.{arith}
use mathlib.Core.Bool.{Bool, true, false, ◌||◌, true≢false}
use mathlib.Core.List.{List}
use mathlib.Core.Path.{◌≡◌, sym, ap, ap₂, ◌∙◌}
use lib.Dec.{eqb, leb}
use lib.ListN.{length, get_or, get_or-eq_default}
use Rattle.std.specs.Prelude.{Option, Some, None, MatchOption}
use Rattle.std.specs.declared.ops.Range.{Range}
use denote.Param.Members.{Mut}
use Rattle.lists.specs.First.{first_index, all}
use Rattle.lists.proofs.First.{first_passes, first_is}
use Rattle.zones.proofs.Ranges.{RanOver, Tells, every_place}
use Rattle.lists.specs.Places.{places}
use Rattle.lists.specs.Room.{room}
use Rattle.lists.proofs.Places.{length_tab, get_d_tab, take_tab, all_tab}
use Rattle.lists.proofs.Room.{length_room, room_tab, room_take}
use Rattle.lists.proofs.Tests.{or_left, all_miss, all_pass, all_last}
use Rattle.rules.specs.Configuration.{gic_of, config_of}
use Rattle.rules.specs.Limits.{most_regions, most_zones, most_in_set}
use Rattle.rules.specs.Owners.{gic_owner, owned_of, owner_of, may_hold}
use Rattle.rules.specs.Regions.{region_eq, no_region}
use Rattle.rules.specs.declared.Region.{Region}
use Rattle.rules.specs.declared.Side.{Side}
use Rattle.rules.specs.declared.Side.TheVariants.{Cpu, Iommu}
use Rattle.zones.specs.Layout.{region_words, config_count, config_gic, config_records, set_words, zone_base, zone_start, set_base}
use Rattle.zones.specs.Records.{region_at, record_at, records_at}
use Rattle.zones.specs.View.{all_records, config_in, set_in, zone_in, zones_in}
use Rattle.zones.proofs.Readers.{start_is}
use Rattle.zones.proofs.Records.{record_read}
use Rattle.owners.specs.Fitting.{own_set, own_zone, own_table, Ranged}
use Rattle.owners.specs.View.{owned_in}

-- ---- the owner of a region
module _ (c o : List ℕ) (e : Ranged c) where
  abbrev count : ℕ
  count = get_or c config_count 0

  -- the configured regions are the first records
  regions_are : (config_in c).regions ≡ records_at c config_records count
  unfolding config_of records_at
  regions_are =
      room_take count no_region (all_records c)
      (omega (arith, length_tab most_regions (record_at c config_records), e.count))
      ∙ take_tab most_regions count (record_at c config_records) e.count

  module _ (r : Region) where
    abbrev place : ℕ
    place = first_index (region_eq r) (records_at c config_records count)

    owner_is : owner_of (owned_in c o) r ≡ get_or (room count 0 o) place gic_owner
    unfolding owner_of owned_of
    owner_is = ap (λ (rs : List Region). get_or (room count 0 o) (first_index (region_eq r) rs) gic_owner) regions_are

    -- what `find` says of the positions, and the owner at the one that it gives
    pub owner_told : (n : ℕ) (f : Option ℕ) (k : ℕ) → n ≡ count
        → MatchOption f ((j : ℕ) → 0 ≤ j → j < n → region_eq r (record_at c config_records j) ≡ false)
        (λ i. (0 ≤ i) × (i < n) × (region_eq r (record_at c config_records i) ≡ true)
        × ((j : ℕ) → 0 ≤ j → j < i → region_eq r (record_at c config_records j) ≡ false))
        → MatchOption f (k ≡ gic_owner) (λ i. k ≡ get_or o i 0) → k ≡ owner_of (owned_in c o) r
    unfolding records_at
    owner_told n None k en h e =
        let far : count ≤ place =
        elim (dec_lt place count) [
          | yes l ↦ absurd
              (true≢false
              (sym (first_passes (region_eq r) (records_at c config_records count) no_region (omega (arith, many)))
              ∙ ap (region_eq r) (get_d_tab count (record_at c config_records) place no_region l)
              ∙ h place (omega arith) (omega arith)))
          | no l ↦ omega arith
        ] in
        e ∙ sym (owner_is ∙ get_or-eq_default (room count 0 o) gic_owner (omega (arith, length_room count 0 o)))
      where
        many : length (records_at c config_records count) ≡ count
        many = length_tab count (record_at c config_records)
    owner_told n (Some i) k en (z, l, hit, before) e =
        let q : place ≡ i =
        first_is (region_eq r) (records_at c config_records count) no_region i (omega (arith, many))
        (ap (region_eq r) (get_d_tab count (record_at c config_records) i no_region (omega arith)) ∙ hit)
        (λ j x. ap (region_eq r) (get_d_tab count (record_at c config_records) j no_region (omega arith))
        ∙ before j (omega arith) x) in
        e ∙ sym (owner_is
        ∙ ap (λ (k : ℕ). get_or (room count 0 o) k gic_owner) q
        ∙ ap (λ (l : List ℕ). get_or l i gic_owner) (room_tab count 0 o)
        ∙ get_d_tab count (λ j. get_or o j 0) i gic_owner (omega arith))
      where
        many : length (records_at c config_records count) ≡ count
        many = length_tab count (record_at c config_records)

    pub gic_asked : (g : ℕ) (x : Region) (t : Bool) → g ≡ get_or c config_gic 0
        → x ≡ region_at c (config_records + g * region_words) → t ≡ region_eq r x → t ≡ region_eq r (gic_of (config_in c))
    unfolding gic_of records_at config_of
    gic_asked g x t eg ex et =
        et ∙ ap (region_eq r)
        (record_read c config_records g x ex
        ∙ sym (ap₂ (λ (rs : List Region) (k : ℕ). get_or rs k no_region) regions_are (sym eg)
        ∙ get_d_tab count (record_at c config_records) g no_region (omega (arith, e.gic))))

-- ---- whether a zone may hold a region: k is its owner
module _ (c o : List ℕ) (id : ℕ) (s : Side) (r : Region) (k : ℕ) (ek : k ≡ owner_of (owned_in c o) r) where
  abbrev owns : Bool
  owns = eqb k id

  same : owns ≡ eqb (owner_of (owned_in c o) r) id
  same = ap (λ (n : ℕ). eqb n id) ek

  pub may_own : owns ≡ true → owns ≡ may_hold (owned_in c o) id s r
  unfolding may_hold
  may_own h = by s
    where
      by : (x : Side) → owns ≡ may_hold (owned_in c o) id x r
      by Cpu = same
      by Iommu = h ∙ sym (or_left (eqb (owner_of (owned_in c o) r) id) _ (sym same ∙ h))

  module _ (h : owns ≡ false) where
    other : eqb (owner_of (owned_in c o) r) id ≡ false
    other = sym same ∙ h

    pub may_cpu : s ≡ Cpu → false ≡ may_hold (owned_in c o) id s r
    unfolding may_hold
    may_cpu q = sym (ap (λ (x : Side). may_hold (owned_in c o) id x r) q ∙ other)

    pub may_iommu : s ≡ Iommu → (t : Bool) → t ≡ region_eq r (gic_of (config_in c)) → t ≡ may_hold (owned_in c o) id s r
    unfolding may_hold owned_of
    may_iommu q t e =
        e ∙ sym (ap (λ (x : Side). may_hold (owned_in c o) id x r) q
        ∙ ap (λ (b : Bool). b || region_eq r (gic_of (config_in c))) other)

-- ---- a set, record by record
-- the zone may hold record i of those whose count stands in word k
unfoldable pub may_at : List ℕ → List ℕ → List ℕ → ℕ → Side → ℕ → ℕ → Bool
may_at c o t id s k i = may_hold (owned_in c o) id s (record_at t (k + 1) i)

module _ (c o t : List ℕ) (id : ℕ) (s : Side) (k n : ℕ) (en : n ≡ get_or t k 0) where
  abbrev held : List Region
  held = records_at t (k + 1) (get_or t k 0)

  many : length held ≡ n
  unfolding records_at
  many = length_tab (get_or t k 0) (record_at t (k + 1)) ∙ sym en

  pub set_over : leb n most_in_set ≡ false
      → leb n most_in_set ≡ own_set (owned_in c o) id s (records_at t (k + 1) (get_or t k 0))
  unfolding own_set
  set_over h = h ∙ all_miss _ _ (ap (λ (m : ℕ). leb m most_in_set) many ∙ h)

  pub set_told : {F : Type 0} {g : Mut F (ℕ × Unit {0}) Bool} {f : F} (u : Range ℕ) (r : Bool) → leb n most_in_set ≡ true
      → RanOver g f 0 n u r → Tells g f (may_at c o t id s k)
      → r ≡ own_set (owned_in c o) id s (records_at t (k + 1) (get_or t k 0))
  unfolding own_set may_at records_at
  set_told u r h ran told =
      every_place (may_at c o t id s k) 0 n u r ran told
      ∙ all_pass _ _ _ (ap (λ (m : ℕ). leb m most_in_set) many ∙ h)
      (all_last _ _ (ap (λ (m : ℕ). all (may_at c o t id s k) (places 0 m)) (sub-zero n ∙ en)
      ∙ sym (all_tab (may_hold (owned_in c o) id s) (get_or t k 0) (record_at t (k + 1)))))

-- ---- a zone: j is the word where it begins
module _ (c o t : List ℕ) (z j id : ℕ) (ej : j ≡ zone_start z) (h : z < most_zones) (ei : id ≡ get_or t j 0) where
  begins : j ≡ zone_base z
  begins = start_is z j ej h

  id_same : id ≡ (zone_in t z).id
  unfolding zone_in
  id_same = ei ∙ ap (λ (k : ℕ). get_or t k 0) begins

  set_at : (s : Side) (k : ℕ) → k ≡ set_base z s → records_at t (k + 1) (get_or t k 0) ≡ set_in t z s
  unfolding set_in
  set_at s k e = ap (λ (b : ℕ). records_at t (b + 1) (get_or t b 0)) e

  cpu_same : (b : Bool) → b ≡ own_set (owned_in c o) id Cpu (records_at t (j + 1 + 1) (get_or t (j + 1) 0))
      → b ≡ own_set (owned_in c o) (zone_in t z).id Cpu (zone_in t z).cpu
  unfolding zone_in set_base
  cpu_same b e =
      let q : j + 1 ≡ set_base z Cpu = omega (arith, begins) in
      e ∙ ap₂ (λ (m : ℕ) (xs : List Region). own_set (owned_in c o) m Cpu xs) id_same (set_at Cpu (j + 1) q)

  iommu_same : (b : Bool)
      → b ≡ own_set (owned_in c o) id Iommu (records_at t (j + 1 + set_words + 1) (get_or t (j + 1 + set_words) 0))
      → b ≡ own_set (owned_in c o) (zone_in t z).id Iommu (zone_in t z).iommu
  unfolding zone_in set_base
  iommu_same b e =
      let q : j + 1 + set_words ≡ set_base z Iommu = omega (arith, begins) in
      e ∙ ap₂ (λ (m : ℕ) (xs : List Region). own_set (owned_in c o) m Iommu xs) id_same (set_at Iommu (j + 1 + set_words) q)

  module _ (a : Bool) (ea : a ≡ own_set (owned_in c o) id Cpu (records_at t (j + 1 + 1) (get_or t (j + 1) 0))) where
    pub zone_stop : a ≡ false → a ≡ own_zone (owned_in c o) (zone_in t z)
    unfolding own_zone
    zone_stop f = f ∙ all_miss _ _ (sym (cpu_same a ea) ∙ f)

    pub zone_told : a ≡ true → (b : Bool)
        → b ≡ own_set (owned_in c o) id Iommu (records_at t (j + 1 + set_words + 1) (get_or t (j + 1 + set_words) 0))
        → b ≡ own_zone (owned_in c o) (zone_in t z)
    unfolding own_zone
    zone_told f b e = all_pass b _ _ (sym (cpu_same a ea) ∙ f) (all_last b _ (iommu_same b e))

-- ---- the zones
unfoldable pub own_at : List ℕ → List ℕ → List ℕ → ℕ → Bool
own_at c o t z = own_zone (owned_in c o) (zone_in t z)

module _ (c o t : List ℕ) (n : ℕ) (en : n ≡ get_or t 0 0) where
  zones_many : length (zones_in t) ≡ n
  unfolding zones_in
  zones_many = length_tab (get_or t 0 0) (zone_in t) ∙ sym en

  pub zones_over : leb n most_zones ≡ false → leb n most_zones ≡ own_table (owned_in c o) (zones_in t)
  unfolding own_table
  zones_over h = h ∙ all_miss _ _ (ap (λ (m : ℕ). leb m most_zones) zones_many ∙ h)

  pub zones_told : {F : Type 0} {g : Mut F (ℕ × Unit {0}) Bool} {f : F} (u : Range ℕ) (r : Bool) → leb n most_zones ≡ true
      → RanOver g f 0 n u r → Tells g f (own_at c o t) → r ≡ own_table (owned_in c o) (zones_in t)
  unfolding own_table own_at zones_in
  zones_told u r h ran told =
      every_place (own_at c o t) 0 n u r ran told
      ∙ all_pass _ _ _ (ap (λ (m : ℕ). leb m most_zones) zones_many ∙ h)
      (all_last _ _ (ap (λ (m : ℕ). all (own_at c o t) (places 0 m)) (sub-zero n ∙ en)
      ∙ sym (all_tab (own_zone (owned_in c o)) (get_or t 0 0) (zone_in t))))
