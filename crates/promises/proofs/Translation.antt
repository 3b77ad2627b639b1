-- Translation: 0 is answered by the first region that covers the address, and in a sound set no other covers it; two
-- zones that come out at one byte hold overlapping regions there, and in a sound table such a region is the GIC.
use Prim.Native.Nat.{ℕ, ◌+◌, ◌-◌, ◌≤◌, ◌<◌}
use native.Mathlib.Decide.{dec_lt}
use native.Mathlib.Omega.{arith}
use mathlib.Core.Bool.{Bool, true, false, cond, true≢false}
use mathlib.Core.List.{List}
use mathlib.Core.Logic.{◌⊎◌, inl, inr}
use mathlib.Core.Path.{◌≡◌, refl, sym, ap, ◌∙◌}
use borrow.Author.Tests.{ltb-true, ltb-false, not-true, not-false, eq-eqb}
use lib.Dec.{ltb}
use lib.ListN.{length, get_or, set, get_or-eq_default}
use Rattle.lists.specs.First.{first_index, any, all}
use Rattle.lists.specs.Rules.{first_rule}
use Rattle.lists.proofs.Every.{all_at, any_make}
use Rattle.lists.proofs.First.{any_first, first_passes}
use Rattle.lists.proofs.Pairs.{pairs_at}
use Rattle.lists.proofs.Rules.{test_of, quiet_answer, above_zero, silent_number}
use Rattle.lists.proofs.Tests.{not_holds, parts, true_of}
use Rattle.rules.specs.Changes.{region_set}
use Rattle.rules.specs.Closure.{RegionSet, contains_vaddr, GhostZone}
use Rattle.rules.specs.Configuration.{config_of, Configuration, StoredConfig}
use Rattle.rules.specs.Limits.{highest_id, Limits}
use Rattle.rules.specs.Regions.{region_eq, no_region}
use Rattle.rules.specs.Requests.{find, present, held_in}
use Rattle.rules.specs.Tables.{no_zone, side_of, has_id, regions_of, configured, guest_apart, sound_set, Zone}
use Rattle.rules.specs.Translation.{covers_guest, covering_in, phys_in, remaining_in, translation_rules, translated_as}
use Rattle.rules.specs.Translation.{translation}
use Rattle.rules.specs.declared.Region.{Region}
use Rattle.rules.specs.declared.Side.{Side}
use Rattle.rules.specs.declared.Side.TheVariants.{Cpu, Iommu}
use Rattle.rules.proofs.Addresses.{overlap_shared}
use Rattle.rules.proofs.Closure.{state_some}
use Rattle.rules.proofs.Keeps.{set_sound, SoundTable}
use Rattle.rules.proofs.Regions.{equal_refl}
use Rattle.rules.proofs.Tables.{overlap_same}
use Rattle.rules.proofs.Translation.{covers_parts, parts_cover, lies_in, same_distance}
use Rattle.promises.specs.Tables.{In, SoundUnder}
use Rattle.promises.specs.Translation.{TranslatesTo, PutBy, OnlyOneCovers, StaysInside, TranslationIs}
use Rattle.promises.specs.Translation.{TranslationIsExact, OneToOne, ZonesMeetOnGic, Isolated, ZoneIsolated}
use Rattle.promises.specs.Translation.{IommuZoneIsolated}
use Rattle.promises.proofs.Closure.{held_at, held_either, config_ok, table_ok, there, low_id, set_ok}
use Rattle.promises.proofs.Closure.{other_place}
use Rattle.promises.proofs.Tables.{no_address_in_two_zones}

-- ---- a translation that answers 0
module _ (t : List Zone) (id : ℕ) (side : Side) (a : ℕ) where
  number : (translation t id side a).number ≡ first_rule (translation_rules t id side a) 0
  unfolding translation translated_as
  number = refl

  unfoldable pub xs : List Region
  xs = region_set t (find id t) side

  module _ (e : (translation t id side a).number ≡ 0) where
    none : (n : ℕ) → test_of (λ m. m) n (translation_rules t id side a) ≡ false
    unfolding translation_rules above_zero all
    none = silent_number (translation_rules t id side a) refl (sym number ∙ e)

    pub low_enough : ltb highest_id id ≡ false
    unfolding translation_rules test_of
    low_enough = none 4

    pub zone_there : present id t ≡ true
    unfolding translation_rules test_of
    zone_there = not-false _ (none 6)

    pub within : first_index (covers_guest a) xs < length xs
    unfolding translation_rules xs test_of
    within = ltb-true _ _ (sym (any_first (covers_guest a) (region_set t (find id t) side)) ∙ not-false _ (none 18))

    pub covers : covers_guest a (covering_in a xs) ≡ true
    unfolding covering_in
    covers = first_passes (covers_guest a) xs no_region within

    pub comes_out : (translation t id side a).phys.0 ≡ phys_in a (covering_in a xs)
    unfolding translation translated_as xs
    comes_out =
        ap (λ (b : Bool). cond b (phys_in a (covering_in a (region_set t (find id t) side))) 0) (eq-eqb _ 0 (sym number ∙ e))

    pub remains : (translation t id side a).remaining ≡ remaining_in a (covering_in a xs)
    unfolding translation translated_as xs
    remains =
        ap (λ (b : Bool). cond b (remaining_in a (covering_in a (region_set t (find id t) side))) 0)
        (eq-eqb _ 0 (sym number ∙ e))

  -- a region of the set that covers the address makes the answer 0
  pub translates : ltb highest_id id ≡ false → present id t ≡ true → any (covers_guest a) xs ≡ true
      → (translation t id side a).number ≡ 0
  unfolding translation_rules xs
  translates low there some =
      number ∙ sym (quiet_answer (translation_rules t id side a) 0 (low, (not_holds _ there, (not_holds _ some, tt))))

pub stays_inside : StaysInside
unfolding xs covering_in
stays_inside t id side a x (e, h) = (
  covering_in a (xs t id side a),
  (first_index (covers_guest a) (xs t id side a), within t id side a e, refl),
  covers t id side a e,
  lies_in a x (covering_in a (xs t id side a)) (covers t id side a e) (sym (comes_out t id side a e) ∙ h),
)

pub translation_is : TranslationIs
unfolding xs covering_in
translation_is t id side a x (e, h) = (
  covering_in a (xs t id side a),
  (first_index (covers_guest a) (xs t id side a), within t id side a e, refl),
  covers_parts a (covering_in a (xs t id side a)) (covers t id side a e),
  sym (same_distance a (covering_in a (xs t id side a)) (covers t id side a e)) ∙ sym (comes_out t id side a e) ∙ h,
)

-- a set with a region in it is that of a zone that is there
none_held : (side : Side) → length (side_of side no_zone) ≡ 0
unfolding side_of
none_held Cpu = refl
none_held Iommu = refl

pub set_there : (t : List Zone) (id : ℕ) (side : Side) (i : ℕ) → i < length (region_set t (find id t) side)
    → present id t ≡ true
unfolding region_set
set_there t id side i h =
    true_of (present id t)
    (λ e.
    let past : length t ≤ find id t = ltb-false _ _ (sym (any_first (has_id id) t) ∙ e) in
    omega (arith, ap (λ (z : Zone). length (side_of side z)) (get_or-eq_default t no_zone past), none_held side))

-- ---- two translations that come out at one place
in_held : (r : Region) (xs : List Region) → In r xs → held_in r xs ≡ true
in_held r xs (i, l, q) = any_make (region_eq r) xs no_region i l (ap (region_eq r) q ∙ equal_refl r)

held_by : (t : List Zone) (k : ℕ) (side : Side) (r : Region) → In r (region_set t k side)
    → In r (regions_of (get_or t k no_zone))
unfolding region_set side_of
held_by t k side r m =
    let (i, l, q) =
    held_at (regions_of (get_or t k no_zone)) r
    (held_either (get_or t k no_zone) r (by side (in_held r (region_set t k side) m))) in
    (i, l, sym q)
  where
    by : (s : Side) → held_in r (region_set t k s) ≡ true
        → (held_in r (get_or t k no_zone).cpu ≡ true) ⊎ (held_in r (get_or t k no_zone).iommu ≡ true)
    by Cpu h = inl h
    by Iommu h = inr h

module _ (lim : Limits) where
  pub one_covers : (c : Configuration) (t : List Zone) → SoundTable lim c t → (z : ℕ) (side : Side) (a i j : ℕ)
      → z < length t → i < length (region_set t z side) → j < length (region_set t z side)
      → covers_guest a (get_or (region_set t z side) i no_region) ≡ true
      → covers_guest a (get_or (region_set t z side) j no_region) ≡ true → i ≡ j
  unfolding sound_set
  one_covers c t ok z side a i j h li lj ci cj =
      elim (dec_lt i j) [
        | yes l ↦ absurd (apart i j l lj ci cj)
        | no l ↦
            elim (dec_lt j i) [ yes m ↦ absurd (apart j i m li cj ci) | no m ↦ omega arith ]
      ]
    where
      apart : (k m : ℕ) → k < m → m < length (region_set t z side) → covers_guest a (get_or (region_set t z side) k no_region) ≡ true
          → covers_guest a (get_or (region_set t z side) m no_region) ≡ true → ⊥
      apart k m l u ck cm =
          let p = parts _ (set_sound lim c t ok z side h) in
          true≢false
          (sym
          ((overlap_shared _ _ _ _).1 (
            a,
            (
              covers_parts a (get_or (region_set t z side) k no_region) ck,
              covers_parts a (get_or (region_set t z side) m no_region) cm,
            ),
          ))
          ∙ not-true _ (pairs_at guest_apart (region_set t z side) no_region p.1.1.0 k m l u))

  pub only_one_covers : OnlyOneCovers lim
  only_one_covers s t ok = one_covers (config_of s) t (table_ok lim s t ok)

  pub translation_is_exact : TranslationIsExact lim
  unfolding xs
  translation_is_exact s t ok id side a x = (translation_is t id side a x, back)
    where
      back : PutBy t id side a x → TranslatesTo t id side a x
      back (r, (i, h, q), c, e) =
          let zs : List Region = region_set t (find id t) side in
          let p = set_there t id side i h in
          let k : covers_guest a (get_or zs i no_region) ≡ true = ap (covers_guest a) q ∙ parts_cover a r c in
          let z = translates t id side a (low_id lim s t ok id p) p (any_make (covers_guest a) zs no_region i h k) in
          let (g, (j, l, m), d, f) = translation_is t id side a (translation t id side a).phys.0 (z, refl) in
          let one : i ≡ j =
          only_one_covers s t ok (find id t) side a i j (there lim s t ok id p) h l k
          (ap (covers_guest a) m ∙ parts_cover a g d) in
          let same : g ≡ r = sym m ∙ ap (λ (n : ℕ). get_or zs n no_region) (sym one) ∙ q in
          (z, sym f ∙ ap (λ (y : Region). y.p.0 + (a - y.v.0)) same ∙ e)

  pub zones_meet_on_gic : ZonesMeetOnGic lim
  zones_meet_on_gic s t ok y z one other a b x ne (ea, ha) (eb, hb) =
      let (r, mr, cr, pr) = stays_inside t y one a x (ea, ha) in
      let (q, mq, cq, pq) = stays_inside t z other b x (eb, hb) in
      let py = zone_there t y one a ea in
      let pz = zone_there t z other b eb in
      no_address_in_two_zones lim s t ok (find y t) (find z t) x (there lim s t ok y py) (there lim s t ok z pz)
      (other_place lim s t ok z y pz py ne) (r, held_by t (find y t) one r mr, pr)
      (q, held_by t (find z t) other q mq, pq)

  pub one_to_one : OneToOne lim
  unfolding sound_set covering_in phys_in xs
  one_to_one s t ok id side a b x (ea, ha) (eb, hb) =
      let c : Configuration = config_of s in
      let zs : List Region = region_set t (find id t) side in
      let ra : Region = covering_in a zs in
      let rb : Region = covering_in b zs in
      let all_configured = (parts _ (set_ok lim s t ok id (zone_there t id side a ea) side)).1.0 in
      let pa : phys_in a ra ≡ x = sym (comes_out t id side a ea) ∙ ha in
      let pb : phys_in b rb ≡ x = sym (comes_out t id side b eb) ∙ hb in
      let ca = covers t id side a ea in
      let cb = covers t id side b eb in
      let same : ra ≡ rb =
      overlap_same lim c (config_ok lim s t ok) ra rb
      (all_at (configured c) zs no_region all_configured _ (within t id side a ea))
      (all_at (configured c) zs no_region all_configured _ (within t id side b eb))
      ((overlap_shared _ _ _ _).1 (x, (lies_in a x ra ca pa, lies_in b x rb cb pb))) in
      equal_from a b ra rb ca cb same (pa ∙ sym pb)
    where
      equal_from : (a b : ℕ) (r q : Region) → covers_guest a r ≡ true → covers_guest b q ≡ true → r ≡ q
          → phys_in a r ≡ phys_in b q → a ≡ b
      equal_from a b r q ca cb e h =
          let (la, ua) = covers_parts a r ca in
          let (lb, ub) = covers_parts b q cb in
          omega (arith, ap (λ (k : Region). k.v.0) e, ap (λ (k : Region). k.p.0) e)

  -- ---- upstream's properties
  isolated : (s : StoredConfig) (t : List Zone) (ok : SoundUnder lim s t) (zid : ℕ) (side : Side) (set : RegionSet)
      (v : ℕ)
      → present zid t ≡ true → ((r : Region) → set r ≡ held_in r (region_set t (find zid t) side)) → contains_vaddr set v
      → Isolated t zid side set v
  unfolding xs
  isolated s t ok zid side set v p same (r, m, k) =
      let (i, l, q) = held_at (region_set t (find zid t) side) r (sym (same r) ∙ m) in
      let e =
      translates t zid side v (low_id lim s t ok zid p) p
      (any_make (covers_guest v) (region_set t (find zid t) side) no_region i l (ap (covers_guest v) (sym q) ∙ k)) in
      let (g, mg, cg, pg) = stays_inside t zid side v (translation t zid side v).phys.0 (e, refl) in
      ((translation t zid side v).phys.0, (e, refl), (g, same g ∙ in_held g (region_set t (find zid t) side) mg, cg, pg))

  pub zone_isolated : ZoneIsolated lim
  unfolding region_set side_of
  zone_isolated s t ok zid zone v st k =
      let (p, g) = state_some zid t zone st in
      isolated s t ok zid Cpu zone.cpu_mem_set v p (λ r. sym (ap (λ (y : GhostZone). y.cpu_mem_set r) g)) k

  pub iommu_zone_isolated : IommuZoneIsolated lim
  unfolding region_set side_of
  iommu_zone_isolated s t ok zid zone v st k =
      let (p, g) = state_some zid t zone st in
      isolated s t ok zid Iommu zone.iommu_mem_set v p (λ r. sym (ap (λ (y : GhostZone). y.iommu_mem_set r) g)) k
