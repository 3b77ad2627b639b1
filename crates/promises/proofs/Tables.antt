-- Sound tables: the check's tests, taken one by one, are the document's conditions at the zones and records where they
-- lie; what follows of addresses follows from two regions that do not clash.
use Prim.Native.Nat.{ℕ, ◌+◌, ◌≤◌, ◌<◌}
use native.Mathlib.Decide.{dec_lt}
use native.Mathlib.Omega.{arith}
use mathlib.Core.Bool.{Bool, true, false, not, ◌&&◌, true≢false}
use mathlib.Core.List.{List, [], ◌∷◌, ◌++◌}
use mathlib.Core.Logic.{◌⊎◌, inl, inr, ⊎_elim}
use mathlib.Core.Path.{◌≡◌, refl, sym, ap, ap₂, subst, ◌∙◌}
use borrow.Author.Tests.{leb-true, leb-false, eqb-true, eqb-false, not-true, le-leb, eq-eqb, ne_eqb}
use lib.Dec.{eqb}
use lib.ListN.{length, get_or, drop, length-append, get_or-append}
use lib.Seq.{get_or-append-add}
use Rattle.lists.specs.First.{any, all}
use Rattle.lists.specs.Pairs.{pairwise}
use Rattle.lists.specs.Room.{room}
use Rattle.lists.specs.Tests.{all_of}
use Rattle.lists.proofs.Every.{all_at, all_make, all_below, all_below_make, all_beyond, all_beyond_make, all_append}
use Rattle.lists.proofs.Every.{any_at, any_make, any_append, none_at, none_make, none_all}
use Rattle.lists.proofs.Pairs.{pairs_at, pairs_make}
use Rattle.lists.proofs.Room.{length_room, room_read}
use Rattle.lists.proofs.Tests.{false_both, holds_or_fails, false_of, not_fails, parts, whole, Holds}
use Rattle.rules.specs.Limits.{highest_id, Limits, page_of}
use Rattle.rules.specs.Configuration.{gic_of, config_of, check, is_sound, Configuration, StoredConfig}
use Rattle.rules.specs.Regions.{well_formed, in_reach, region_eq, phys_overlap, guest_overlap}
use Rattle.rules.specs.Regions.{no_region, used}
use Rattle.rules.specs.Tables.{no_zone, no_stored, side_of, regions_of, set_of, zone_of, table_of, rest_zero, zero_set, tidy_zone}
use Rattle.rules.specs.Tables.{zero_zone, tidy, configured, guest_apart, off_gic, clash, sound_set, sound_zone, ids_differ}
use Rattle.rules.specs.Tables.{excessive, modest, zones_apart, sound, check_table, Zone, StoredSet, StoredTable}
use Rattle.rules.specs.declared.Checked.TheVariants.{Sound}
use Rattle.rules.specs.declared.Region.{Region}
use Rattle.rules.specs.declared.Side.{Side}
use Rattle.rules.specs.declared.Side.TheVariants.{Cpu, Iommu}
use Rattle.rules.proofs.Addresses.{overlap_shared, overlap_symmetric}
use Rattle.rules.proofs.Configuration.{c1_faulty, c2_faulty, sound_is, sound_answer, gives_c1, gives_c2, passed}
use Rattle.rules.proofs.Configuration.{SoundConfiguration}
use Rattle.rules.proofs.Keeps.{clash_symmetric, parts_sound}
use Rattle.rules.proofs.Regions.{equal_same, equal_refl}
use Rattle.rules.proofs.Stored.{length_table, zone_read}
use Rattle.rules.proofs.Tables.{configured_at}
use Rattle.promises.specs.Configuration.{at, Passed}
use Rattle.promises.specs.Tables.{zone_at, set_in, count_at, record_at, Held, TableCheckIsExact, In, CoversPhys}
use Rattle.promises.specs.Tables.{NoAddressInTwoZones, NoCpuOnGic, InvZoneIds, InvZonesWf, InvRegionsInAllRegions}
use Rattle.promises.specs.Tables.{InvCpuDisjointFromGic, InvCrossZoneNonGicDisjoint, EmptyIsSound, Conditions}
use Rattle.promises.proofs.Configuration.{zero_unused, unused_zero}

-- the zero record is not used
unused_record : not (used no_region) ≡ true
unused_record = not_fails _ (zero_unused no_region refl)

-- past the end of the stored zones all is zero
past_tidy : tidy_zone no_stored ≡ true
unfolding tidy_zone rest_zero all_of any
past_tidy = refl

past_zero : zero_zone no_stored ≡ true
unfolding zero_zone zero_set all_of any
past_zero = refl

-- one region stands in a part of a list, so it stands in the whole
in_left : (xs ys : List Region) (r : Region) → In r xs → In r (xs ++ ys)
in_left xs ys r (i, h, q) = (i, omega (arith, length-append xs ys), get_or-append xs ys no_region i h ∙ q)

in_right : (xs ys : List Region) (r : Region) → In r ys → In r (xs ++ ys)
in_right xs ys r (i, h, q) = (length xs + i, omega (arith, length-append xs ys), get_or-append-add xs ys i no_region ∙ q)

in_zone : (z : Zone) (side : Side) (r : Region) → In r (side_of side z) → In r (regions_of z)
unfolding side_of
in_zone z Cpu r m = in_left z.cpu z.iommu r m
in_zone z Iommu r m = in_right z.cpu z.iommu r m

-- what every element passes, each one that stands there passes
among : (p : Region → Bool) (xs : List Region) (r : Region) → all p xs ≡ true → In r xs → p r ≡ true
among p xs r e (i, h, q) = ap p (sym q) ∙ all_at p xs no_region e i h

-- ---- two regions that do not clash: one is the GIC, or they do not overlap
module _ (c : Configuration) (a b : Region) where
  no_clash_means : clash c a b ≡ false → (a ≡ gic_of c → ⊥) → (b ≡ gic_of c → ⊥) → phys_overlap a b ≡ false
  unfolding clash
  no_clash_means e na nb =
      rw (false_of _ (λ q. na (equal_same a (gic_of c) q)), false_of _ (λ q. nb (equal_same b (gic_of c) q))) at e

  -- a region that differs from the GIC is not equal to it
  differs : (r : Region) → region_eq r (gic_of c) ≡ false → r ≡ gic_of c → ⊥
  differs r q d = true≢false (sym (ap (λ (g : Region). region_eq g (gic_of c)) d ∙ equal_refl (gic_of c)) ∙ q)

  means_no_clash : ((a ≡ gic_of c → ⊥) → (b ≡ gic_of c → ⊥) → phys_overlap a b ≡ false) → clash c a b ≡ false
  unfolding clash
  means_no_clash f = by (region_eq a (gic_of c)) refl (region_eq b (gic_of c)) refl
    where
      by : (x : Bool) → region_eq a (gic_of c) ≡ x → (y : Bool) → region_eq b (gic_of c) ≡ y
          → (not x && (not y && phys_overlap a b)) ≡ false
      by true p y q = refl
      by false p true q = refl
      by false p false q = f (differs a p) (differs b q)

  shared_by_gic : (x : ℕ) → clash c a b ≡ false → CoversPhys a x → CoversPhys b x → CoversPhys (gic_of c) x
  shared_by_gic x e pa pb = by (holds_or_fails (region_eq a (gic_of c))) (holds_or_fails (region_eq b (gic_of c)))
    where
      covered : (r : Region) → region_eq r (gic_of c) ≡ true → CoversPhys r x → CoversPhys (gic_of c) x
      covered r q p = subst (λ (g : Region). CoversPhys g x) (equal_same r (gic_of c) q) p

      by : (region_eq a (gic_of c) ≡ true) ⊎ (region_eq a (gic_of c) ≡ false)
          → (region_eq b (gic_of c) ≡ true) ⊎ (region_eq b (gic_of c) ≡ false) → CoversPhys (gic_of c) x
      by (inl q) r = covered a q pa
      by (inr q) (inl r) = covered b r pb
      by (inr q) (inr r) =
          absurd (true≢false
          (sym ((overlap_shared a.p.0 a.size b.p.0 b.size).1 (x, (pa, pb)))
          ∙ no_clash_means e (differs a q) (differs b r)))

module _ (lim : Limits) where
  -- ---- the tests of a sound table, one by one
  module _ (c : Configuration) (t : List Zone) (ok : sound lim c t ≡ true) where
    zone_ok : (z : ℕ) → z < length t → sound_zone lim c (get_or t z no_zone) ≡ true
    unfolding sound
    zone_ok z h = all_at (sound_zone lim c) t no_zone (parts _ ok).1.0 z h

    side_ok : (z : ℕ) (side : Side) → z < length t → sound_set lim c (side_of side (get_or t z no_zone)) ≡ true
    unfolding sound_zone side_of
    side_ok z Cpu h = (parts _ (zone_ok z h)).1.0
    side_ok z Iommu h = (parts _ (zone_ok z h)).1.1.0

    side_configured : (z : ℕ) (side : Side) → z < length t → all (configured c) (side_of side (get_or t z no_zone)) ≡ true
    unfolding sound_set
    side_configured z side h = (parts _ (side_ok z side h)).1.0

    zone_configured : (z : ℕ) → z < length t → all (configured c) (regions_of (get_or t z no_zone)) ≡ true
    unfolding side_of
    zone_configured z h =
        all_append (configured c) (get_or t z no_zone).cpu (get_or t z no_zone).iommu (side_configured z Cpu h)
        (side_configured z Iommu h)

    guest_apart_law : (z : ℕ) (side : Side) → z < length t → (i j : ℕ) → i < length (side_of side (get_or t z no_zone))
        → j < length (side_of side (get_or t z no_zone)) → (i ≡ j → ⊥)
        → guest_overlap (get_or (side_of side (get_or t z no_zone)) i no_region)
        (get_or (side_of side (get_or t z no_zone)) j no_region)
        ≡ false
    unfolding sound_set
    guest_apart_law z side h i j a b ne =
        let apart = (parts _ (side_ok z side h)).1.1.0 in
        elim (dec_lt i j) [
          | yes q ↦ not-true _ (pairs_at guest_apart (side_of side (get_or t z no_zone)) no_region apart i j q b)
          | no q ↦
              overlap_symmetric _ _ _ _
              ∙ not-true _ (pairs_at guest_apart (side_of side (get_or t z no_zone)) no_region apart j i (omega arith) a)
        ]

    off_gic_law : (z : ℕ) (r : Region) → z < length t → In r (get_or t z no_zone).cpu → phys_overlap r (gic_of c) ≡ false
    unfolding sound_zone
    off_gic_law z r h m = not-true _ (among (off_gic c) (get_or t z no_zone).cpu r (parts _ (zone_ok z h)).1.1.1.0 m)

    device_formed : (z : ℕ) (r : Region) → z < length t → In r (get_or t z no_zone).iommu
        → well_formed lim.iommu_page r ≡ true
    unfolding sound_zone
    device_formed z r h m =
        among (well_formed lim.iommu_page) (get_or t z no_zone).iommu r (parts _ (zone_ok z h)).1.1.1.1.0 m

    pub rights_modest : (z : ℕ) (s : Side) (r : Region) → z < length t → In r (side_of s (get_or t z no_zone))
        → excessive s r ≡ false
    unfolding sound_zone side_of
    rights_modest z Cpu r h m =
        not-true _ (among (modest Cpu) (get_or t z no_zone).cpu r (parts _ (zone_ok z h)).1.1.1.1.1.0 m)
    rights_modest z Iommu r h m =
        not-true _ (among (modest Iommu) (get_or t z no_zone).iommu r (parts _ (zone_ok z h)).1.1.1.1.1.1.0 m)

    ids_apart : (y z : ℕ) → y < z → z < length t → (get_or t y no_zone).id ≡ (get_or t z no_zone).id → ⊥
    unfolding sound
    ids_apart y z h l e = eqb-false _ _ (not-true _ (pairs_at ids_differ t no_zone (parts _ ok).1.1.0 y z h l)) e

    one_id : (y z : ℕ) → y < length t → z < length t → (get_or t y no_zone).id ≡ (get_or t z no_zone).id → y ≡ z
    one_id y z h l e =
        elim (dec_lt y z) [
          | yes a ↦ absurd (ids_apart y z a l e)
          | no a ↦
              elim (dec_lt z y) [ yes b ↦ absurd (ids_apart z y b h (sym e)) | no b ↦ omega arith ]
        ]

    -- two zones, the earlier first
    no_clash : (y z : ℕ) → y < z → z < length t → (a b : Region) → In a (regions_of (get_or t y no_zone))
        → In b (regions_of (get_or t z no_zone)) → clash c a b ≡ false
    unfolding sound zones_apart
    no_clash y z h l a b ma (j, lj, qj) =
        let apart = pairs_at (zones_apart c) t no_zone (parts _ ok).1.1.1.0 y z h l in
        let none =
        not-true _ (among (λ (r : Region). not (any (clash c r) (regions_of (get_or t z no_zone))))
        (regions_of (get_or t y no_zone)) a apart ma) in
        ap (clash c a) (sym qj) ∙ none_at (clash c a) (regions_of (get_or t z no_zone)) no_region none j lj

    pub never_clash : (y z : ℕ) → y < length t → z < length t → (y ≡ z → ⊥) → (a b : Region)
        → In a (regions_of (get_or t y no_zone)) → In b (regions_of (get_or t z no_zone)) → clash c a b ≡ false
    never_clash y z h l ne a b ma mb =
        elim (dec_lt y z) [
          | yes q ↦ no_clash y z q l a b ma mb
          | no q ↦ clash_symmetric c a b
              ∙ no_clash z y (omega arith) h b a mb ma
        ]

  -- ---- the table check, on the table as it is stored
  module _ (c : StoredConfig) (t : StoredTable) where
    -- the zones and their regions, read at their positions
    side_read_law : (z : ℕ) (s : Side) → z < t.count → side_of s (get_or (table_of t) z no_zone) ≡ set_of (set_in s (zone_at t z))
    unfolding side_of set_in zone_of
    side_read_law z Cpu h = ap (λ (y : Zone). y.cpu) (zone_read t z h)
    side_read_law z Iommu h = ap (λ (y : Zone). y.iommu) (zone_read t z h)

    side_length : (z : ℕ) (s : Side) → z < t.count → length (side_of s (get_or (table_of t) z no_zone)) ≡ count_at t z s
    unfolding set_of
    side_length z s h =
        ap length (side_read_law z s h) ∙ length_room (count_at t z s) no_region (set_in s (zone_at t z)).records

    record_read : (z : ℕ) (s : Side) (i : ℕ) → Held t z s i
        → get_or (side_of s (get_or (table_of t) z no_zone)) i no_region ≡ record_at t z s i
    unfolding set_of
    record_read z s i (h, l) =
        ap (λ (xs : List Region). get_or xs i no_region) (side_read_law z s h)
        ∙ room_read (count_at t z s) no_region (set_in s (zone_at t z)).records i l

    id_read : (z : ℕ) → z < t.count → (get_or (table_of t) z no_zone).id ≡ (zone_at t z).id
    unfolding zone_of
    id_read z h = ap (λ (y : Zone). y.id) (zone_read t z h)

    table_has : (z : ℕ) → z < t.count → z < length (table_of t)
    table_has z h = omega (arith, length_table t)

    side_has : (z : ℕ) (s : Side) (i : ℕ) → Held t z s i → i < length (side_of s (get_or (table_of t) z no_zone))
    side_has z s i (h, l) = omega (arith, side_length z s h)

    stands : (z : ℕ) (s : Side) (i : ℕ) → Held t z s i → In (record_at t z s i) (side_of s (get_or (table_of t) z no_zone))
    stands z s i m = (i, side_has z s i m, record_read z s i m)

    gic_read : c.gic < c.count → gic_of (config_of c) ≡ at c c.gic
    unfolding gic_of config_of
    gic_read h = room_read c.count no_region c.records c.gic h

    -- a configuration that the check finds sound has its GIC among its regions
    gic_inside : check lim c ≡ Sound → c.gic < c.count
    gic_inside e =
        leb-false _ _
        (false_of _
        (λ b. ⊎_elim (λ a. c1_faulty (gives_c1 lim c a ∙ e)) (λ a. c2_faulty (gives_c2 lim c a b ∙ e))
        (holds_or_fails _)))

    -- ---- yes means that each condition holds
    zero_set_law : (s : StoredSet) → zero_set s ≡ true → (s.count ≡ 0) × ((i : ℕ) → get_or s.records i no_region ≡ no_region)
    unfolding zero_set
    zero_set_law s e =
        let h = parts _ e in (
          eqb-true _ _ h.0,
          λ i. unused_zero _
              (not-true _
              (all_beyond (λ (r : Region). not (used r)) s.records no_region 0 unused_record
              (sym (none_all used s.records) ∙ h.1.0) i (omega arith))),
        )

    rest_zero_law : (s : StoredSet) → rest_zero s ≡ true → (i : ℕ) → s.count ≤ i → get_or s.records i no_region ≡ no_region
    unfolding rest_zero
    rest_zero_law s e i h =
        unused_zero _
        (not-true _
        (all_beyond (λ (r : Region). not (used r)) s.records no_region s.count unused_record
        (sym (none_all used (drop s.count s.records)) ∙ e) i h))

    set_tidy : tidy t ≡ true → (z : ℕ) (s : Side) → z < t.count → rest_zero (set_in s (zone_at t z)) ≡ true
    unfolding tidy tidy_zone set_in
    set_tidy e z s h = by s (parts _ (all_below tidy_zone t.zones no_stored t.count past_tidy (parts _ e).0 z h))
      where
        by : (s : Side) → Holds (rest_zero (zone_at t z).cpu ∷ rest_zero (zone_at t z).iommu ∷ [])
            → rest_zero (set_in s (zone_at t z)) ≡ true
        by Cpu p = p.0
        by Iommu p = p.1.0

    zone_zero : tidy t ≡ true → (z : ℕ) → t.count ≤ z
        → ((zone_at t z).id ≡ 0) × ((s : Side) → (count_at t z s ≡ 0) × ((i : ℕ) → record_at t z s i ≡ no_region))
    unfolding tidy zero_zone set_in
    zone_zero e z h =
        let p = parts _ (all_beyond zero_zone t.zones no_stored t.count past_zero (parts _ e).1.0 z h) in
        (eqb-true _ _ p.0, λ s. by s p)
      where
        by : (s : Side) → Holds (eqb (zone_at t z).id 0 ∷ zero_set (zone_at t z).cpu ∷ zero_set (zone_at t z).iommu ∷ [])
            → (count_at t z s ≡ 0) × ((i : ℕ) → record_at t z s i ≡ no_region)
        by Cpu p = zero_set_law (zone_at t z).cpu p.1.0
        by Iommu p = zero_set_law (zone_at t z).iommu p.1.1.0

    conditions : check lim c ≡ Sound → tidy t ≡ true → sound lim (config_of c) (table_of t) ≡ true → Conditions lim c t
    unfolding sound sound_zone sound_set configured set_in side_of config_of
    conditions e rest ok =
        let cc : Configuration = config_of c in
        let zs : List Zone = table_of t in
        let g : gic_of cc ≡ at c c.gic = gic_read (gic_inside e) in
        record {
          few_zones = (let h : length zs ≤ lim.zones = leb-true _ _ (parts _ ok).0 in omega (arith, length_table t));
          few_regions =
              λ z s h. let f : length (side_of s (get_or zs z no_zone)) ≤ lim.in_set =
              leb-true _ _ (parts _ (side_ok cc zs ok z s (table_has z h))).0 in
              omega (arith, side_length z s h);
          low_ids =
              λ z h. let f : (get_or zs z no_zone).id ≤ highest_id =
              leb-true _ _ (parts _ (zone_ok cc zs ok z (table_has z h))).0 in
              omega (arith, id_read z h);
          ids_differ =
              λ y z h l ne q. ne (one_id cc zs ok y z (table_has y h) (table_has z l)
              (id_read y h ∙ q ∙ sym (id_read z l)));
          rest_zero = λ z s i h l. rest_zero_law (set_in s (zone_at t z)) (set_tidy rest z s h) i (omega arith);
          zones_zero = λ z h. zone_zero rest z h;
          configured = λ z s i m.
              let (k, l, q) =
              any_at (region_eq (record_at t z s i)) cc.regions no_region
              (among (configured cc) (side_of s (get_or zs z no_zone)) (record_at t z s i)
              (side_configured cc zs ok z s (table_has z m.0)) (stands z s i m)) in
              let n : k < c.count = omega (arith, length_room c.count no_region c.records) in
              (k, n, sym (equal_same (record_at t z s i) _ q ∙ room_read c.count no_region c.records k n));
          guest_apart =
              λ z s i j m n ne. ap₂ guest_overlap (sym (record_read z s i m)) (sym (record_read z s j n))
              ∙ guest_apart_law cc zs ok z s (table_has z m.0) i j (side_has z s i m) (side_has z s j n) ne;
          off_gic =
              λ z i m. ap (phys_overlap (record_at t z Cpu i)) (sym g)
              ∙ off_gic_law cc zs ok z (record_at t z Cpu i) (table_has z m.0) (stands z Cpu i m);
          formed = λ z i m. device_formed cc zs ok z (record_at t z Iommu i) (table_has z m.0) (stands z Iommu i m);
          modest = λ z s i m. rights_modest cc zs ok z s (record_at t z s i) (table_has z m.0) (stands z s i m);
          zones_apart = λ y z s u i j ne m n na nb.
              no_clash_means cc (record_at t y s i) (record_at t z u j)
              (never_clash cc zs ok y z (table_has y m.0) (table_has z n.0) ne _ _
              (in_zone (get_or zs y no_zone) s _ (stands y s i m)) (in_zone (get_or zs z no_zone) u _ (stands z u j n)))
              (λ q. na (q ∙ g)) (λ q. nb (q ∙ g));
        }

    -- ---- and where each holds the check says yes
    module _ (gic : c.gic < c.count) (k : Conditions lim c t) where
      abbrev cc : Configuration
      cc = config_of c

      abbrev zone_in : ℕ → Zone
      zone_in z = get_or (table_of t) z no_zone

      each_region : (p : Region → Bool) (z : ℕ) (s : Side) → z < t.count
          → ((i : ℕ) → Held t z s i → p (record_at t z s i) ≡ true) → all p (side_of s (zone_in z)) ≡ true
      each_region p z s h f =
          all_make p (side_of s (zone_in z)) no_region
          (λ i l. let m : i < count_at t z s = omega (arith, side_length z s h) in ap p (record_read z s i (h, m))
          ∙ f i (h, m))

      region_configured : (r : Region) → (i : ℕ) × (i < c.count) × (at c i ≡ r) → configured cc r ≡ true
      unfolding configured config_of
      region_configured r (i, h, q) =
          any_make (region_eq r) (room c.count no_region c.records) no_region i
          (omega (arith, length_room c.count no_region c.records))
          (ap (region_eq r) (room_read c.count no_region c.records i h ∙ q) ∙ equal_refl r)

      set_sound : (z : ℕ) (s : Side) → z < t.count → sound_set lim cc (side_of s (zone_in z)) ≡ true
      unfolding sound_set
      set_sound z s h =
          let few : count_at t z s ≤ lim.in_set = k.few_regions z s h in
          let count : length (side_of s (zone_in z)) ≤ lim.in_set = omega (arith, side_length z s h) in
          whole _ (
            le-leb _ _ count,
            (
              each_region (configured cc) z s h (λ i m. region_configured _ (k.configured z s i m)),
              (
                pairs_make guest_apart (side_of s (zone_in z)) no_region
                    (λ i j a b.
                    let m : i < count_at t z s = omega (arith, side_length z s h) in
                    let n : j < count_at t z s = omega (arith, side_length z s h) in
                    not_fails _
                    (ap₂ guest_overlap (record_read z s i (h, m)) (record_read z s j (h, n))
                    ∙ k.guest_apart z s i j (h, m) (h, n) (λ e. omega arith))),
                tt,
              ),
            ),
          )

      zone_sound : (z : ℕ) → z < t.count → sound_zone lim cc (zone_in z) ≡ true
      unfolding sound_zone side_of
      zone_sound z h =
          let low : (zone_at t z).id ≤ highest_id = k.low_ids z h in
          let id : (zone_in z).id ≤ highest_id = omega (arith, id_read z h) in
          whole _ (
            le-leb _ _ id,
            (
              set_sound z Cpu h,
              (
                set_sound z Iommu h,
                (
                  each_region (off_gic cc) z Cpu h
                      (λ i m. not_fails _ (ap (phys_overlap (record_at t z Cpu i)) (gic_read gic) ∙ k.off_gic z i m)),
                  (
                    each_region (well_formed lim.iommu_page) z Iommu h (λ i m. k.formed z i m),
                    (
                      each_region (modest Cpu) z Cpu h (λ i m. not_fails _ (k.modest z Cpu i m)),
                      (each_region (modest Iommu) z Iommu h (λ i m. not_fails _ (k.modest z Iommu i m)), tt),
                    ),
                  ),
                ),
              ),
            ),
          )

      zones_apart_law : (y z : ℕ) → y < t.count → z < t.count → (y ≡ z → ⊥) → zones_apart cc (zone_in y) (zone_in z) ≡ true
      unfolding zones_apart side_of
      zones_apart_law y z h l ne = all_append none_clashes (zone_in y).cpu (zone_in y).iommu (half Cpu) (half Iommu)
        where
          none_clashes : Region → Bool
          none_clashes a = not (any (clash cc a) (regions_of (zone_in z)))

          clear : (s u : Side) (i : ℕ) → Held t y s i → any (clash cc (record_at t y s i)) (side_of u (zone_in z)) ≡ false
          clear s u i m =
              none_make (clash cc (record_at t y s i)) (side_of u (zone_in z)) no_region
              (λ j b. let n : j < count_at t z u = omega (arith, side_length z u l) in
              ap (clash cc (record_at t y s i)) (record_read z u j (l, n))
              ∙ means_no_clash cc _ _
              (λ na nb. k.zones_apart y z s u i j ne m (l, n) (λ q. na (q ∙ sym (gic_read gic)))
              (λ q. nb (q ∙ sym (gic_read gic)))))

          half : (s : Side) → all none_clashes (side_of s (zone_in y)) ≡ true
          half s =
              each_region none_clashes y s h
              (λ i m. not_fails _
              (any_append (clash cc (record_at t y s i)) (zone_in z).cpu (zone_in z).iommu
              ∙ false_both _ _ (clear s Cpu i m) (clear s Iommu i m)))

      table_sound : sound lim cc (table_of t) ≡ true
      table_sound =
          let few : t.count ≤ lim.zones = k.few_zones in
          parts_sound lim cc (table_of t) record {
            few = omega (arith, length_table t);
            zones =
                all_make (sound_zone lim cc) (table_of t) no_zone (λ z h. zone_sound z (omega (arith, length_table t)));
            ids = pairs_make ids_differ (table_of t) no_zone
                (λ y z h l.
                let a : y < t.count = omega (arith, length_table t) in
                let b : z < t.count = omega (arith, length_table t) in
                not_fails _
                (ne_eqb _ _ (λ q. k.ids_differ y z a b (λ e. omega arith) (sym (id_read y a) ∙ q ∙ id_read z b))));
            disjoint =
                pairs_make (zones_apart cc) (table_of t) no_zone
                (λ y z h l. zones_apart_law y z (omega (arith, length_table t)) (omega (arith, length_table t))
                (λ e. omega arith));
          }

      set_rest : (s : StoredSet) → ((i : ℕ) → s.count ≤ i → get_or s.records i no_region ≡ no_region)
          → rest_zero s ≡ true
      unfolding rest_zero
      set_rest s f =
          none_all used (drop s.count s.records)
          ∙ all_beyond_make (λ (r : Region). not (used r)) s.records no_region s.count
          (λ i h. not_fails _ (zero_unused _ (f i h)))

      set_zero : (s : StoredSet) → (s.count ≡ 0) × ((i : ℕ) → get_or s.records i no_region ≡ no_region)
          → zero_set s ≡ true
      unfolding zero_set
      set_zero s (e, f) =
          whole _ (eq-eqb _ _ e, (not_fails _ (none_make used s.records no_region (λ i h. zero_unused _ (f i))), tt))

      table_tidy : tidy t ≡ true
      unfolding tidy tidy_zone zero_zone set_in
      table_tidy =
          whole _ (
            all_below_make tidy_zone t.zones no_stored t.count
                (λ z h. whole _ (
                  set_rest (zone_at t z).cpu (λ i l. k.rest_zero z Cpu i h (omega arith)),
                  (set_rest (zone_at t z).iommu (λ i l. k.rest_zero z Iommu i h (omega arith)), tt),
                )),
            (
              all_beyond_make zero_zone t.zones no_stored t.count
                  (λ z h. let (id, sets) = k.zones_zero z h in whole _
                  (eq-eqb _ _ id, (set_zero _ (sets Cpu), (set_zero _ (sets Iommu), tt)))),
              tt,
            ),
          )

  pub table_check_is_exact : TableCheckIsExact lim
  unfolding check_table
  table_check_is_exact c t = (
    (λ e.
        let h = parts _ e in
        let s : check lim c ≡ Sound = sound_answer _ h.0 in
        (s, conditions c t s h.1.0 h.1.1.0)),
    (λ (s, k).
        let g : c.gic < c.count = gic_inside c t s in
        whole _ (ap is_sound s ∙ sound_is, (table_tidy c t g k, (table_sound c t g k, tt)))),
  )

  -- ---- sound tables
  pub no_address_in_two_zones : NoAddressInTwoZones lim
  no_address_in_two_zones s t ok y z x h l ne (a, ma, pa) (b, mb, pb) =
      shared_by_gic (config_of s) a b x (never_clash (config_of s) t ok.table y z h l ne a b ma mb) pa pb

  pub no_cpu_on_gic : NoCpuOnGic lim
  no_cpu_on_gic s t ok z x h (r, m, p) g =
      true≢false (sym
      ((overlap_shared r.p.0 r.size (gic_of (config_of s)).p.0 (gic_of (config_of s)).size).1 (x, (p, g)))
      ∙ off_gic_law (config_of s) t ok.table z r h m)

  pub inv_zone_ids : InvZoneIds lim
  inv_zone_ids s t ok y z h l e = one_id (config_of s) t ok.table y z h l e

  -- a configured region is well formed and in reach
  configured_valid : (s : StoredConfig) → Passed lim s → (r : Region) → configured (config_of s) r ≡ true
      → (well_formed lim.page r ≡ true) × (in_reach lim r ≡ true)
  configured_valid s p r e =
      let ok : SoundConfiguration lim (config_of s) = passed lim s p.0 p.1 in
      let (i, l, q) = configured_at lim (config_of s) ok r e in
      (ap (well_formed lim.page) q ∙ ok.formed i l, ap (in_reach lim) q ∙ ok.near i l)

  pub inv_zones_wf : InvZonesWf lim
  unfolding page_of side_of
  inv_zones_wf s t ok z side h = (
    (λ r m.
        let v =
        configured_valid s ok.config r (among (configured (config_of s)) (side_of side (get_or t z no_zone)) r
        (side_configured (config_of s) t ok.table z side h) m) in
        (formed_on side r m v.0, v.1)),
    (λ i j a b ne. guest_apart_law (config_of s) t ok.table z side h i j a b ne),
  )
    where
      formed_on : (side : Side) (r : Region) → In r (side_of side (get_or t z no_zone)) → well_formed lim.page r ≡ true
          → well_formed (page_of lim side) r ≡ true
      formed_on Cpu r m e = e
      formed_on Iommu r m e = device_formed (config_of s) t ok.table z r h m

  pub inv_regions_in_all_regions : InvRegionsInAllRegions lim
  inv_regions_in_all_regions s t ok z r h m =
      let (i, l, q) =
      configured_at lim (config_of s) (passed lim s ok.config.0 ok.config.1) r
      (among (configured (config_of s)) (regions_of (get_or t z no_zone)) r
      (zone_configured (config_of s) t ok.table z h) m) in
      (i, l, sym q)

  pub inv_cpu_disjoint_from_gic : InvCpuDisjointFromGic lim
  inv_cpu_disjoint_from_gic s t ok z r h m = off_gic_law (config_of s) t ok.table z r h m

  pub inv_cross_zone_non_gic_disjoint : InvCrossZoneNonGicDisjoint lim
  inv_cross_zone_non_gic_disjoint s t ok y z a b h l ne ma mb na nb =
      no_clash_means (config_of s) a b (never_clash (config_of s) t ok.table y z h l ne a b ma mb) na nb

  pub empty_is_sound : EmptyIsSound lim
  unfolding sound all pairwise
  empty_is_sound c = whole _ (le-leb 0 lim.zones (omega arith), (refl, (refl, (refl, tt))))
