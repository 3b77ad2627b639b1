-- The loops of the table check: at a place, what is left gives the whole answer; a reader returns the zone or record at
-- that place, so each turn is one test of the definition.
use Prim.Native.Nat.{ℕ, ◌+◌, ◌-◌, ◌≤◌, ◌<◌}
use native.Mathlib.Nat.{sub-zero}
use native.Mathlib.Omega.{arith}
use mathlib.Core.Bool.{Bool, true, false, not, ◌&&◌, ◌||◌, true≢false}
use mathlib.Core.List.{List, [], ◌∷◌}
use mathlib.Core.Path.{◌≡◌, sym, ap, subst, ◌∙◌}
use borrow.Author.Tests.{not-true, not-false, le-leb, lt-leb, ltb-true, ltb-false, eq-eqb, eqb-false, ne_eqb}
use lib.Dec.{eqb, ltb, leb}
use lib.ListN.{length, get_or, drop}
use denote.Param.Members.{Mut}
use Rattle.std.specs.Option.{option_eq}
use Rattle.std.specs.Prelude.{position}
use Rattle.std.specs.declared.ops.Range.{Range}
use Rattle.std.specs.declared.option.Option.{Option}
use Rattle.std.specs.declared.option.Option.TheVariants.{None, Some}
use Rattle.std.specs.Option.{IfNone, IfSome, is_some}
use Rattle.lists.specs.First.{first_index, first_from, any, all}
use Rattle.lists.specs.Pairs.{pairwise}
use Rattle.lists.specs.Places.{places, tab}
use Rattle.lists.specs.Tests.{all_of}
use Rattle.lists.proofs.Every.{all_at, all_make, any_at, any_append, none_at, none_others, none_others_make}
use Rattle.lists.proofs.First.{any_first, any_from, from_end, from_zero}
use Rattle.lists.proofs.Pairs.{at_most_one}
use Rattle.lists.proofs.Places.{length_places, get_d_places, same_at, length_tab, get_d_tab, all_tab, pairs_tab}
use Rattle.lists.proofs.Tests.{both_true, or_left, parts, same_test, true_of}
use Rattle.rules.specs.Configuration.{Configuration}
use Rattle.rules.specs.Limits.{most_zones, highest_id, most_in_set, limits, page_of}
use Rattle.rules.specs.Regions.{well_formed, region_eq, no_region}
use Rattle.rules.specs.Requests.{others}
use Rattle.rules.specs.Tables.{modest}
use Rattle.rules.specs.Tables.{no_zone, has_id, configured, guest_apart, off_gic, sound_set, sound_zone, ids_differ}
use Rattle.rules.specs.Tables.{zones_apart, Zone}
use Rattle.rules.specs.declared.Region.{Region}
use Rattle.rules.specs.declared.Side.{Side}
use Rattle.rules.specs.declared.Side.TheVariants.{Cpu, Iommu}
use Rattle.zones.specs.Holding.{holds, held_once, held_at, held_apart, new_id, at_zone, apart_from}
use Rattle.zones.specs.Holding.{used_well, apart_after}
use Rattle.zones.specs.Layout.{set_base}
use Rattle.zones.specs.Records.{record_at, records_at}
use Rattle.zones.specs.View.{config_in, ConfigPassed, record_in, set_in, zone_in, zones_in}
use Rattle.zones.specs.Words.{Within}
use Rattle.rules.proofs.Tables.{configured_at}
use Rattle.zones.proofs.ConfigReaders.{config_sound}
use Rattle.zones.proofs.Ranges.{RanOver, SomeOver, Tells, every_place, some_place, FirstFound, none_found, some_found}
use Rattle.zones.proofs.Finding.{by_place}
use Rattle.zones.proofs.Holding.{new_ids, apart_held}
use Rattle.zones.proofs.Writers.{set_in_law}

-- ---- the records of a set: e is the record that was read
module _ (w : List ℕ) (z : ℕ) (s : Side) where
  pub set_count : length (set_in w z s) ≡ get_or w (set_base z s) 0
  unfolding set_in records_at
  set_count = length_tab (get_or w (set_base z s) 0) (record_at w (set_base z s + 1))

  set_tab : set_in w z s ≡ tab (length (set_in w z s)) (record_in w z s)
  unfolding set_in records_at record_in
  set_tab = ap (λ (n : ℕ). tab n (record_at w (set_base z s + 1))) (sym set_count)

  pub record_at_law : (i : ℕ) → i < length (set_in w z s) → get_or (set_in w z s) i no_region ≡ record_in w z s i
  record_at_law i h =
      ap (λ (l : List Region). get_or l i no_region) set_tab
      ∙ get_d_tab (length (set_in w z s)) (record_in w z s) i no_region h

  -- what `all` over the positions of a set answers
  pub every_record : {F : Type 0} {g : Mut F (ℕ × Unit {0}) Bool} {f : F} (p : Region → Bool) (n : ℕ) (u : Range ℕ) (r : Bool)
      → RanOver g f 0 n u r → n ≡ length (set_in w z s) → Tells g f (λ i. p (record_in w z s i)) → r ≡ all p (set_in w z s)
  every_record p n u r ran e told =
      every_place (λ i. p (record_in w z s i)) 0 n u r ran told
      ∙ rw (sub-zero, e) (sym (ap (all p) set_tab ∙ all_tab p (length (set_in w z s)) (record_in w z s)))

  -- ---- every two records of a set
  pairs_start : (n : ℕ) → n ≡ length (set_in w z s)
      → all (apart_after w z s) (places 0 (n - 0)) ≡ pairwise guest_apart (set_in w z s)
  unfolding apart_after apart_from
  pairs_start n e =
      rw (
        sub-zero,
        e,
      ) (sym (ap (pairwise guest_apart) set_tab ∙ pairs_tab guest_apart (length (set_in w z s)) (record_in w z s)))

  later_start : (i n : ℕ) → n ≡ length (set_in w z s)
      → all (apart_from w z s i) (places (i + 1) (n - (i + 1))) ≡ apart_after w z s i
  unfolding apart_after
  later_start i n e = ap (λ (m : ℕ). all (apart_from w z s i) (places (i + 1) (m - (i + 1)))) e

  -- what `all` over the positions of a set answers, of each two records
  module _ {F : Type 0} {g : Mut F (ℕ × Unit {0}) Bool} {f : F} where
    pub every_pair : (n : ℕ) (u : Range ℕ) (r : Bool) → RanOver g f 0 n u r → n ≡ length (set_in w z s)
        → Tells g f (apart_after w z s) → r ≡ pairwise guest_apart (set_in w z s)
    every_pair n u r ran e told = every_place (apart_after w z s) 0 n u r ran told ∙ pairs_start n e

    pub every_later : (i n : ℕ) (u : Range ℕ) (r : Bool) → RanOver g f (i + 1) n u r → n ≡ length (set_in w z s)
        → Tells g f (λ j. guest_apart (record_in w z s i) (record_in w z s j)) → r ≡ apart_after w z s i
    unfolding apart_from
    every_later i n u r ran e told = every_place (apart_from w z s i) (i + 1) n u r ran told ∙ later_start i n e

-- ---- the zones
module _ (w : List ℕ) where
  zones_long : length (zones_in w) ≡ get_or w 0 0
  unfolding zones_in
  zones_long = length_tab (get_or w 0 0) (zone_in w)

  zones_tab : zones_in w ≡ tab (length (zones_in w)) (zone_in w)
  unfolding zones_in
  zones_tab = ap (λ (n : ℕ). tab n (zone_in w)) (sym zones_long)

  pub zone_at_law : (z : ℕ) → z < length (zones_in w) → get_or (zones_in w) z no_zone ≡ zone_in w z
  zone_at_law z h = ap (λ (l : List Zone). get_or l z no_zone) zones_tab ∙ get_d_tab (length (zones_in w)) (zone_in w) z no_zone h

  module _ (p : Zone → Bool) (n : ℕ) where
    zones_start : n ≡ length (zones_in w) → all (at_zone p w) (places 0 (n - 0)) ≡ all p (zones_in w)
    unfolding at_zone
    zones_start e = rw (sub-zero, e) (sym (ap (all p) zones_tab ∙ all_tab p (length (zones_in w)) (zone_in w)))

    pub every_zone : {F : Type 0} {g : Mut F (ℕ × Unit {0}) Bool} {f : F} (u : Range ℕ) (r : Bool) → RanOver g f 0 n u r
        → n ≡ length (zones_in w) → Tells g f (λ z. p (zone_in w z)) → r ≡ all p (zones_in w)
    unfolding at_zone
    every_zone u r ran e told = every_place (at_zone p w) 0 n u r ran told ∙ zones_start e

  -- the first zone that passes
  module _ (p : Zone → Bool) (z n : ℕ) (r : Option ℕ) (en : n ≡ length (zones_in w))
      (found : FirstFound (zone_in w) no_zone n z p r) where
    as_tab : tab n (zone_in w) ≡ zones_in w
    as_tab = ap (λ (k : ℕ). tab k (zone_in w)) en ∙ sym zones_tab

    pub no_holder : IfNone r (any p (drop z (zones_in w)) ≡ false)
    no_holder =
        subst (λ (l : List Zone). IfNone r (any p (drop z l) ≡ false)) as_tab (none_found (zone_in w) no_zone n z p r found)

    pub some_holder : IfSome r (λ k. (any p (drop z (zones_in w)) ≡ true) × (k ≡ first_from p (zones_in w) z))
    some_holder =
        subst (λ (l : List Zone). IfSome r (λ k. (any p (drop z l) ≡ true) × (k ≡ first_from p l z))) as_tab
        (some_found (zone_in w) no_zone n z p r found)

  -- its sets are within limits, and so is its position
  pub zone_within : (z : ℕ) → Within (zones_in w) → z < length (zones_in w) → z < most_zones
  zone_within z b h = let l : length (zones_in w) ≤ most_zones = b.zones in omega arith

  pub side_within : (z : ℕ) (s : Side) → Within (zones_in w) → z < length (zones_in w) → length (set_in w z s) ≤ most_in_set
  side_within z s b h = rw (set_in_law w z s h) at (b.sets z s h)

  -- ---- ids
  -- an id is found at its own place exactly where it is first there
  found_new : (z : ℕ) → z < length (zones_in w)
      → option_eq eqb (position (has_id (zone_in w z).id) (zones_in w)) (Some z) ≡ new_id (zones_in w) z
  unfolding new_id
  found_new z h =
      let p : Zone → Bool = has_id (zone_in w z).id in
      let same : first_index (has_id (get_or (zones_in w) z no_zone).id) (zones_in w) ≡ first_index p (zones_in w) =
      ap (λ (y : Zone). first_index (has_id y.id) (zones_in w)) (zone_at_law z h) in
      by_place p (zones_in w) z h ∙ ap (λ (k : ℕ). eqb k z) (sym same)

  pub every_id : {F : Type 0} {g : Mut F (ℕ × Unit {0}) Bool} {f : F} (n : ℕ) (u : Range ℕ) (r : Bool) → RanOver g f 0 n u r
      → n ≡ length (zones_in w)
      → Tells g f (λ z. option_eq eqb (position (has_id (zone_in w z).id) (zones_in w)) (Some z))
      → r ≡ pairwise ids_differ (zones_in w)
  every_id n u r ran e told =
      every_place (λ z. option_eq eqb (position (has_id (zone_in w z).id) (zones_in w)) (Some z)) 0 n u r ran told
      ∙ rw (sub-zero, e) (same_at _ _ (length (zones_in w)) found_new ∙ sym (new_ids (zones_in w)))

  -- ---- which zones hold a region
  module _ (z : ℕ) (r : Region) where
    pub holds_sides : holds r (zone_in w z) ≡ (any (region_eq r) (set_in w z Cpu) || any (region_eq r) (set_in w z Iommu))
    unfolding holds zone_in
    holds_sides = any_append (region_eq r) (set_in w z Cpu) (set_in w z Iommu)

    pub held_cpu : (b : Bool) → b ≡ any (region_eq r) (set_in w z Cpu) → b ≡ true → true ≡ holds r (zone_in w z)
    held_cpu b eb h = sym (holds_sides ∙ or_left (any (region_eq r) (set_in w z Cpu)) _ (sym eb ∙ h))

    pub held_iommu : (b d : Bool) → b ≡ any (region_eq r) (set_in w z Cpu) → b ≡ false
        → d ≡ any (region_eq r) (set_in w z Iommu) → d ≡ holds r (zone_in w z)
    held_iommu b d eb h ed =
        ed ∙ sym (holds_sides ∙ ap (λ (t : Bool). t || any (region_eq r) (set_in w z Iommu)) (sym eb ∙ h))

  module _ (r : Region) where
    pub holder_below : (k : ℕ) → any (holds r) (drop 0 (zones_in w)) ≡ true → k ≡ first_from (holds r) (zones_in w) 0
        → k < length (zones_in w)
    holder_below k e q =
        let h : first_from (holds r) (zones_in w) 0 < length (zones_in w) =
        ltb-true _ _ (sym (any_from (holds r) (zones_in w) 0 (omega arith)) ∙ e) in
        omega arith

    pub once_none : any (holds r) (drop 0 (zones_in w)) ≡ false → true ≡ held_once r (zones_in w)
    unfolding held_once
    once_none e =
        let i : ℕ = first_index (holds r) (zones_in w) in
        let h : length (zones_in w) ≤ i = ltb-false _ _ (sym (any_first (holds r) (zones_in w)) ∙ e) in
        let q : first_from (holds r) (zones_in w) (i + 1) ≡ i + 1 = from_end (holds r) (zones_in w) (i + 1) (omega arith) in
        sym (at_most_one (holds r) no_zone (zones_in w) ∙ le-leb _ _ (omega arith))

    module _ (k : ℕ) (e : any (holds r) (drop 0 (zones_in w)) ≡ true) (q : k ≡ first_from (holds r) (zones_in w) 0) where
      later : any (holds r) (drop (k + 1) (zones_in w))
          ≡ ltb (first_from (holds r) (zones_in w) (k + 1)) (length (zones_in w))
      later =
          let h : k < length (zones_in w) = holder_below k e q in any_from (holds r) (zones_in w) (k + 1) (omega arith)

      whether : held_once r (zones_in w) ≡ leb (length (zones_in w)) (first_from (holds r) (zones_in w) (k + 1))
      unfolding held_once
      whether =
          at_most_one (holds r) no_zone (zones_in w)
          ∙ ap (λ (i : ℕ). leb (length (zones_in w)) (first_from (holds r) (zones_in w) (i + 1)))
          (sym (q ∙ from_zero (holds r) (zones_in w)))

      pub once_one : (o : Option ℕ) → IfNone o (any (holds r) (drop (k + 1) (zones_in w)) ≡ false)
          → IfSome o (λ j. (any (holds r) (drop (k + 1) (zones_in w)) ≡ true) × (j ≡ first_from (holds r) (zones_in w) (k + 1)))
          → (b : Bool) → is_some o ≡ not b → b ≡ held_once r (zones_in w)
      once_one None none some b e = not-false b (sym e) ∙ sym (whether ∙ le-leb _ _ (ltb-false _ _ (sym later ∙ none)))
      once_one (Some j) none some b e = not-true b (sym e) ∙ sym (whether ∙ lt-leb _ _ (ltb-true _ _ (sym later ∙ some.0)))

    -- whether a zone other than that at z holds it
    module _ (z : ℕ) where
      abbrev pub elsewhere : ℕ → Bool
      elsewhere k = not (eqb k z) && holds r (zone_in w k)

      place_is : (i : ℕ) → i < length (zones_in w) → get_or (places 0 (length (zones_in w))) i 0 ≡ i
      place_is i h = let q : 0 + i ≡ i = omega arith in get_d_places 0 (length (zones_in w)) i 0 h ∙ q

      elsewhere_others : any elsewhere (places 0 (length (zones_in w))) ≡ any (holds r) (others z (zones_in w))
      elsewhere_others = same_test _ _ to from
        where
          to : any elsewhere (places 0 (length (zones_in w))) ≡ true → any (holds r) (others z (zones_in w)) ≡ true
          to e =
              true_of _ (λ f. let (i, h, t) = any_at elsewhere (places 0 (length (zones_in w))) 0 e in
              let l : i < length (zones_in w) = omega (arith, length_places 0 (length (zones_in w))) in
              let p = both_true (not (eqb i z)) _ (ap elsewhere (sym (place_is i l)) ∙ t) in
              true≢false (sym p.1 ∙ ap (holds r) (sym (zone_at_law i l))
              ∙ none_others (holds r) (zones_in w) z no_zone f i l (eqb-false i z (not-true _ p.0))))

          from : any (holds r) (others z (zones_in w)) ≡ true → any elsewhere (places 0 (length (zones_in w))) ≡ true
          from e =
              true_of _ (λ f. true≢false (sym e ∙ none_others_make (holds r) (zones_in w) z no_zone
              (λ j l ne. ap (holds r) (zone_at_law j l)
              ∙ sym (ap (λ (b : Bool). not b && holds r (zone_in w j)) (ne_eqb j z ne))
              ∙ ap elsewhere (sym (place_is j l))
              ∙ none_at elsewhere (places 0 (length (zones_in w))) 0 f j (omega (arith, length_places 0 (length (zones_in w)))))))

      pub any_elsewhere : {F : Type 0} {g : Mut F (ℕ × Unit {0}) Bool} {f : F} (n : ℕ) (u : Range ℕ) (b : Bool)
          → SomeOver g f 0 n u b → n ≡ length (zones_in w) → Tells g f elsewhere → b ≡ any (holds r) (others z (zones_in w))
      any_elsewhere n u b ran e told = some_place elsewhere 0 n u b ran told ∙ rw (sub-zero, e) elsewhere_others

-- ---- each configured region
module _ (c : Configuration) (t : List Zone) (k g : ℕ) (eg : g ≡ c.gic) where
  pub held_gic : k ≡ g → true ≡ held_at c t k
  unfolding held_at
  held_gic e = sym (or_left _ _ (eq-eqb k c.gic (e ∙ eg)))

  pub held_other : (k ≡ g → ⊥) → (r : Region) (b : Bool) → r ≡ get_or c.regions k no_region → b ≡ held_once r t
      → b ≡ held_at c t k
  unfolding held_at
  held_other ne r b er eb =
      sym (ap (λ (x : Bool). x || held_once (get_or c.regions k no_region) t) (ne_eqb k c.gic (λ q. ne (q ∙ sym eg)))
      ∙ ap (λ (x : Region). held_once x t) (sym er)
      ∙ sym eb)

held_start : (c : Configuration) (t : List Zone) (n : ℕ) → n ≡ length c.regions
    → all (held_at c t) (places 0 (n - 0)) ≡ held_apart c t
unfolding held_apart
held_start c t n e = rw (sub-zero, e)

pub every_held : {F : Type 0} {g : Mut F (ℕ × Unit {0}) Bool} {f : F} (c : Configuration) (t : List Zone) (n : ℕ) (u : Range ℕ) (r : Bool)
    → RanOver g f 0 n u r → n ≡ length c.regions → Tells g f (held_at c t) → r ≡ held_apart c t
every_held c t n u r ran e told = every_place (held_at c t) 0 n u r ran told ∙ held_start c t n e

-- ---- a zone's id, and the zones beside each other
pub id_high : (n m : ℕ) → n ≡ m → highest_id < n → leb m highest_id ≡ false
id_high n m e h = lt-leb m highest_id (omega arith)

pub id_low : (n m : ℕ) → n ≡ m → n ≤ highest_id → leb m highest_id ≡ true
id_low n m e h = le-leb m highest_id (omega arith)

pub few_zones_law : (t : List Zone) → Within t → leb (length t) most_zones ≡ true
few_zones_law t b = le-leb (length t) most_zones b.zones

pub apart_told : (w : List ℕ) (t : List Zone) (b : Bool) → ConfigPassed w → all (sound_zone limits (config_in w)) t ≡ true
    → b ≡ held_apart (config_in w) t → b ≡ pairwise (zones_apart (config_in w)) t
apart_told w t b ok e h = h ∙ sym (apart_held (config_in w) (config_sound w ok) t e)

-- ---- the document's terminals have one page for both sides
pub formed_on : (t v : Bool) (s : Side) (r : Region) → t ≡ well_formed limits.page r → not t ≡ v
    → not (well_formed (page_of limits s) r) ≡ v
unfolding page_of
formed_on t v Cpu r e h = ap not (sym e) ∙ h
formed_on t v Iommu r e h = ap not (sym e) ∙ h

-- so a sound set of a zone is well formed for devices, since every configured region is
all_formed : (w : List ℕ) (xs : List Region) → ConfigPassed w → sound_set limits (config_in w) xs ≡ true
    → all (well_formed limits.iommu_page) xs ≡ true
unfolding sound_set
all_formed w xs ok e =
    all_make (well_formed limits.page) xs no_region
    (λ i h. let (j, l, q) =
    configured_at limits (config_in w) (config_sound w ok) (get_or xs i no_region)
    (all_at (configured (config_in w)) xs no_region (parts _ e).1.0 i h) in
    ap (well_formed limits.page) q ∙ (config_sound w ok).formed j l)

pub used_last : (w : List ℕ) (cpu iommu : List Region) (s b : Bool) → ConfigPassed w
    → s ≡ sound_set limits (config_in w) iommu → s ≡ true → b ≡ used_well (config_in w) cpu iommu
    → b ≡ all_of (all (off_gic (config_in w)) cpu ∷ all (well_formed limits.iommu_page) iommu ∷ all (modest Cpu) cpu
    ∷ all (modest Iommu) iommu ∷ [])
unfolding all_of used_well
used_last w cpu iommu s b ok e f h = rw (all_formed w iommu ok (sym e ∙ f)) h
