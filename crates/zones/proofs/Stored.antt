-- Words as stored: packed words are exactly those that are tidy and within limits, and then the stored table is the one
-- that readers find.
use Prim.Native.Nat.{ℕ, ◌+◌, ◌-◌, ◌*◌, ◌≤◌, ◌<◌}
use native.Mathlib.Omega.{arith}
use mathlib.Core.Bool.{Bool, true, false, not, ◌&&◌, true≢false, and-true}
use mathlib.Core.List.{List, [], ◌∷◌, map}
use mathlib.Core.Path.{◌≡◌, refl, sym, ap, ap₂, ◌∙◌}
use borrow.Author.Tests.{leb-true, not-true, not-false, le-leb}
use lib.Dec.{leb}
use lib.ListN.{length, get_or, take, drop, length-map, get_or-map}
use lib.Seq.{ext_get_or}
use Rattle.lists.specs.First.{any, all}
use Rattle.lists.specs.Places.{places, tab}
use Rattle.lists.specs.Room.{room}
use Rattle.lists.specs.Rules.{◌when◌, first_rule}
use Rattle.lists.specs.Tests.{all_of}
use Rattle.lists.specs.Words.{is_zero_at}
use Rattle.lists.proofs.Every.{all_at, all_same, all_map}
use Rattle.lists.proofs.Places.{get_d_any, every_at, one_place, same_at, places_shift, every_block, length_tab, get_d_tab}
use Rattle.lists.proofs.Places.{take_tab, drop_tab, all_tab}
use Rattle.lists.proofs.Room.{length_room, room_tab, room_take}
use Rattle.lists.proofs.Rules.{rule_hit, rule_skip, rule_none}
use Rattle.lists.proofs.Tests.{false_of, Holds, parts, all_miss, all_pass, all_last}
use Rattle.lists.proofs.Words.{front}
use Rattle.rules.specs.Configuration.{config_of, check, is_sound, Configuration, StoredConfig}
use Rattle.rules.specs.Limits.{most_zones, most_in_set, limits}
use Rattle.rules.specs.Regions.{no_region, used}
use Rattle.rules.specs.Requests.{standing_rules, standing}
use Rattle.rules.specs.Tables.{no_zone, side_of, no_stored, set_of, zone_of, table_of, rest_zero, zero_set, tidy_zone, zero_zone}
use Rattle.rules.specs.Tables.{tidy, sound_set, sound_zone, sound, check_table, StoredZone, StoredTable}
use Rattle.rules.specs.declared.Checked.{Checked}
use Rattle.rules.specs.declared.Checked.TheVariants.{Sound}
use Rattle.rules.specs.declared.Side.{Side}
use Rattle.rules.specs.declared.Side.TheVariants.{Cpu, Iommu}
use Rattle.rules.proofs.Configuration.{sound_is, fault_unsound}
use Rattle.zones.specs.Layout.{region_words, set_words, zone_words, zone_base, set_base, record_base}
use Rattle.zones.specs.Packing.{zeros, set_packed, zone_packed, packed}
use Rattle.zones.specs.Records.{record_at, records_at}
use Rattle.zones.specs.View.{stored_set, stored_zone, stored_table, set_in, zone_in, zones_in}
use Rattle.zones.specs.Words.{Within}
use Rattle.zones.proofs.Blocks.{zeros_parts, free_zero}
use Rattle.zones.proofs.Checking.{set_count}
use Rattle.zones.proofs.Writers.{set_in_law}

-- ---- zeros, record by record
module _ (w : List ℕ) (b : ℕ) where
  rest_free : get_or w b 0 ≤ most_in_set
      → rest_zero (stored_set w b) ≡ zeros w (record_base b (get_or w b 0)) ((most_in_set - get_or w b 0) * region_words)
  unfolding rest_zero stored_set
  rest_free h = free_zero w (b + 1) most_in_set (get_or w b 0) h

  -- a set that is all zero
  zero_set_law : zero_set (stored_set w b) ≡ zeros w b set_words
  unfolding zero_set stored_set all_of
  zero_set_law =
      let none : not (any used (records_at w (b + 1) most_in_set)) ≡ zeros w (b + 1) (most_in_set * region_words) =
      (let z : record_base b 0 ≡ b + 1 = omega arith in
      free_zero w (b + 1) most_in_set 0 (omega arith) ∙ ap (λ (k : ℕ). zeros w k (most_in_set * region_words)) z) in
      let one : zeros w b set_words ≡ (zeros w b 1 && zeros w (b + 1) (most_in_set * region_words)) =
      zeros_parts w b 1 (most_in_set * region_words) in
      ap (λ (t : Bool). is_zero_at w b && (t && true)) none
      ∙ by (is_zero_at w b) (zeros w (b + 1) (most_in_set * region_words))
      ∙ sym (one ∙ ap (λ (t : Bool). t && zeros w (b + 1) (most_in_set * region_words)) first)
    where
      by : (x y : Bool) → (x && (y && true)) ≡ ((x && true) && y)
      by true true = refl
      by true false = refl
      by false y = refl

      first : zeros w b 1 ≡ (is_zero_at w b && true)
      first = one_place (is_zero_at w) b

-- ---- a zone
module _ (w : List ℕ) (z : ℕ) where
  cpu_base : set_base z Cpu ≡ zone_base z + 1
  unfolding set_base
  cpu_base = refl

  iommu_base : set_base z Iommu ≡ zone_base z + 1 + set_words
  unfolding set_base
  iommu_base = omega arith

  zero_zone_words : zero_zone (stored_zone w z) ≡ zeros w (zone_base z) zone_words
  unfolding zero_zone stored_zone all_of
  zero_zone_words =
      let b : ℕ = zone_base z in
      let split : zeros w b zone_words ≡ (zeros w b 1
      && (zeros w (b + 1) set_words && zeros w (b + 1 + set_words) set_words)) =
      zeros_parts w b 1 (set_words + set_words)
      ∙ ap (λ (t : Bool). zeros w b 1 && t) (zeros_parts w (b + 1) set_words set_words) in
      ap₂ (λ (x y : Bool). is_zero_at w b && (x && (y && true)))
      (zero_set_law w (set_base z Cpu) ∙ ap (λ (k : ℕ). zeros w k set_words) cpu_base)
      (zero_set_law w (set_base z Iommu) ∙ ap (λ (k : ℕ). zeros w k set_words) iommu_base)
      ∙ by (is_zero_at w b) (zeros w (b + 1) set_words) (zeros w (b + 1 + set_words) set_words)
      ∙ sym (split
      ∙ ap (λ (t : Bool). t && (zeros w (b + 1) set_words && zeros w (b + 1 + set_words) set_words))
      (one_place (is_zero_at w) b))
    where
      by : (x y v : Bool) → (x && (y && (v && true))) ≡ ((x && true) && (y && v))
      by true true true = refl
      by true true false = refl
      by true false v = refl
      by false y v = refl

  -- a zone whose counts are within limits
  module _ (small : (s : Side) → get_or w (set_base z s) 0 ≤ most_in_set) where
    tidy_packed : tidy_zone (stored_zone w z) ≡ zone_packed w z
    unfolding tidy_zone stored_zone zone_packed set_packed all_of
    tidy_packed =
        ap₂ (λ (x y : Bool). x && (y && true)) (side Cpu) (side Iommu)
      where
        side : (s : Side)
            → rest_zero (stored_set w (set_base z s)) ≡ (leb (get_or w (set_base z s) 0) most_in_set
            && (zeros w (record_base (set_base z s) (get_or w (set_base z s) 0))
            ((most_in_set - get_or w (set_base z s) 0) * region_words) && true))
        side s =
            let t : Bool =
            zeros w (record_base (set_base z s) (get_or w (set_base z s) 0))
            ((most_in_set - get_or w (set_base z s) 0) * region_words) in
            rest_free w (set_base z s) (small s)
            ∙ sym (and-true t)
            ∙ ap (λ (u : Bool). u && (t && true)) (sym (le-leb (get_or w (set_base z s) 0) most_in_set (small s)))

    set_same : (s : Side) → set_of (stored_set w (set_base z s)) ≡ set_in w z s
    unfolding set_of stored_set set_in records_at
    set_same s =
        let n : ℕ = get_or w (set_base z s) 0 in
        let l : n ≤ most_in_set = small s in
        room_take n no_region (tab most_in_set (record_at w (set_base z s + 1)))
        (omega (arith, length_tab most_in_set (record_at w (set_base z s + 1))))
        ∙ take_tab most_in_set n (record_at w (set_base z s + 1)) l

    zone_same : zone_of (stored_zone w z) ≡ zone_in w z
    unfolding zone_of stored_zone zone_in
    zone_same = λ i. record { id = get_or w (zone_base z) 0; cpu = set_same Cpu i; iommu = set_same Iommu i }

-- ---- the table
module _ (w : List ℕ) where
  -- counts within limits
  pub record Limited : Type 0 where
    pub zones : get_or w 0 0 ≤ most_zones
    pub sets : (z : ℕ) → z < get_or w 0 0 → (s : Side) → get_or w (set_base z s) 0 ≤ most_in_set

  used_zones : Limited → take (get_or w 0 0) (tab most_zones (stored_zone w)) ≡ tab (get_or w 0 0) (stored_zone w)
  used_zones l = take_tab most_zones (get_or w 0 0) (stored_zone w) l.zones

  -- the stored table is the one that readers find
  table_same : Limited → table_of (stored_table w) ≡ zones_in w
  unfolding table_of stored_table zones_in
  table_same l =
      let n : ℕ = get_or w 0 0 in
      let few : n ≤ most_zones = l.zones in
      ap (map zone_of) (room_take n no_stored (tab most_zones (stored_zone w))
      (omega (arith, length_tab most_zones (stored_zone w)))
      ∙ used_zones l)
      ∙ ext_get_or no_zone (map zone_of (tab n (stored_zone w))) (tab n (zone_in w))
      (length-map (tab n (stored_zone w)) zone_of ∙ length_tab n (stored_zone w) ∙ sym (length_tab n (zone_in w)))
      (λ z h.
      let lt : z < n = omega (arith, length-map (tab n (stored_zone w)) zone_of, length_tab n (stored_zone w)) in
      get_d_any (map zone_of (tab n (stored_zone w))) z no_zone (zone_of no_stored) h
      ∙ get_or-map zone_of (tab n (stored_zone w)) z no_stored
      ∙ ap zone_of (get_d_tab n (stored_zone w) z no_stored lt)
      ∙ zone_same w z (l.sets z lt)
      ∙ sym (get_d_tab n (zone_in w) z no_zone lt))

  -- within limits, tidy is packed
  tidy_is_packed : Limited → tidy (stored_table w) ≡ packed w
  unfolding tidy stored_table packed all_of
  tidy_is_packed l =
      let n : ℕ = get_or w 0 0 in
      let few : n ≤ most_zones = l.zones in
      let front : all tidy_zone (take n (tab most_zones (stored_zone w))) ≡ all (zone_packed w) (places 0 n) =
      ap (all tidy_zone) (used_zones l)
      ∙ all_tab tidy_zone n (stored_zone w)
      ∙ same_at (λ z. tidy_zone (stored_zone w z)) (zone_packed w) n (λ z h. tidy_packed w z (l.sets z h)) in
      let back : all zero_zone (drop n (tab most_zones (stored_zone w)))
      ≡ zeros w (zone_base n) ((most_zones - n) * zone_words) =
      ap (all zero_zone) (drop_tab most_zones n (stored_zone w) few)
      ∙ all_map (stored_zone w) zero_zone (places n (most_zones - n))
      ∙ places_shift (λ z. zero_zone (stored_zone w z)) n (most_zones - n)
      ∙ all_same (λ i. zero_zone (stored_zone w (n + i))) (λ i. zeros w (zone_base n + i * zone_words) zone_words)
      (λ i. next n i) (places 0 (most_zones - n))
      ∙ sym (every_block (is_zero_at w) zone_words (zone_base n) (most_zones - n)) in
      ap₂ (λ (x y : Bool). x && (y && true)) front back
      ∙ ap (λ (u : Bool). u && (all (zone_packed w) (places 0 n)
      && (zeros w (zone_base n) ((most_zones - n) * zone_words) && true))) (sym (le-leb n most_zones few))
    where
      next : (n i : ℕ) → zero_zone (stored_zone w (n + i)) ≡ zeros w (zone_base n + i * zone_words) zone_words
      next n i =
          let e : zone_base (n + i) ≡ zone_base n + i * zone_words = omega arith in
          zero_zone_words w (n + i) ∙ ap (λ (k : ℕ). zeros w k zone_words) e

  -- packed words are within limits
  packed_limited : packed w ≡ true → Limited
  unfolding packed zone_packed set_packed
  packed_limited e =
      let p = parts _ e in
      record {
        zones = leb-true _ _ p.0;
        sets =
            λ z h s. by z s (parts _ (every_at (zone_packed w) 0 (get_or w 0 0) p.1.0 z (omega arith) (omega arith)));
      }
    where
      by : (z : ℕ) (s : Side) → Holds (set_packed w (set_base z Cpu) ∷ set_packed w (set_base z Iommu) ∷ [])
          → get_or w (set_base z s) 0 ≤ most_in_set
      by z Cpu h = leb-true _ _ (parts _ h.0).0
      by z Iommu h = leb-true _ _ (parts _ h.1.0).0

  -- and so are the words of a sound table
  module _ (c : Configuration) (e : sound limits c (table_of (stored_table w)) ≡ true) where
    few : get_or w 0 0 ≤ most_zones
    unfolding sound table_of stored_table
    few =
        let l : length (map zone_of (room (get_or w 0 0) no_stored (tab most_zones (stored_zone w)))) ≤ most_zones =
        leb-true _ _ (parts _ e).0 in
        omega (
          arith,
          length-map (room (get_or w 0 0) no_stored (tab most_zones (stored_zone w))) zone_of,
          length_room (get_or w 0 0) no_stored (tab most_zones (stored_zone w)),
        )

    zone_stored : (z : ℕ) → z < get_or w 0 0 → get_or (table_of (stored_table w)) z no_zone ≡ zone_of (stored_zone w z)
    unfolding table_of stored_table
    zone_stored z h =
        let n : ℕ = get_or w 0 0 in
        let f : n ≤ most_zones = few in
        get_d_any (map zone_of (room n no_stored (tab most_zones (stored_zone w)))) z no_zone (zone_of no_stored)
        (omega (
          arith,
          length-map (room n no_stored (tab most_zones (stored_zone w))) zone_of,
          length_room n no_stored (tab most_zones (stored_zone w)),
        ))
        ∙ get_or-map zone_of (room n no_stored (tab most_zones (stored_zone w))) z no_stored
        ∙ ap (λ (l : List StoredZone). zone_of (get_or l z no_stored)) (room_tab n no_stored (tab most_zones (stored_zone w)))
        ∙ ap zone_of (get_d_tab n (λ i. get_or (tab most_zones (stored_zone w)) i no_stored) z no_stored h
        ∙ get_d_tab most_zones (stored_zone w) z no_stored (omega arith))

    set_stored : (z : ℕ) (s : Side) → z < get_or w 0 0
        → length (side_of s (zone_of (stored_zone w z))) ≡ get_or w (set_base z s) 0
    unfolding side_of zone_of stored_zone set_of stored_set
    set_stored z Cpu h = length_room (get_or w (set_base z Cpu) 0) no_region (records_at w (set_base z Cpu + 1) most_in_set)
    set_stored z Iommu h =
        length_room (get_or w (set_base z Iommu) 0) no_region (records_at w (set_base z Iommu + 1) most_in_set)

    one : (z : ℕ) → z < get_or w 0 0 → sound_zone limits c (zone_of (stored_zone w z)) ≡ true
    unfolding sound table_of stored_table
    one z h =
        ap (sound_zone limits c) (sym (zone_stored z h))
        ∙ all_at (sound_zone limits c) (table_of (stored_table w)) no_zone (parts _ e).1.0 z
        (omega (
          arith,
          length-map (room (get_or w 0 0) no_stored (tab most_zones (stored_zone w))) zone_of,
          length_room (get_or w 0 0) no_stored (tab most_zones (stored_zone w)),
        ))

    small : (z : ℕ) → z < get_or w 0 0 → (s : Side) → length (side_of s (zone_of (stored_zone w z))) ≤ most_in_set
    unfolding sound sound_zone sound_set side_of
    small z h Cpu = leb-true _ _ (parts _ (parts _ (one z h)).1.0).0
    small z h Iommu = leb-true _ _ (parts _ (parts _ (one z h)).1.1.0).0

    pub sound_limited : Limited
    sound_limited = record {
      zones = few;
      sets =
          λ z h s. let l : length (side_of s (zone_of (stored_zone w z))) ≤ most_in_set = small z h s in
          omega (arith, set_stored z s h);
    }

-- limits on the counts are limits on the lists
within_limits : (w : List ℕ) → Limited w → Within (zones_in w)
unfolding zones_in
within_limits w l = record {
  zones = (let f : get_or w 0 0 ≤ most_zones = l.zones in omega (arith, length_tab (get_or w 0 0) (zone_in w)));
  sets =
      λ z s h. let k : z < get_or w 0 0 = omega (arith, length_tab (get_or w 0 0) (zone_in w)) in
      let b : get_or w (set_base z s) 0 ≤ most_in_set = l.sets z k s in
      omega (arith, ap length (set_in_law w z s h), set_count w z s);
}

-- ---- what the check answers
module _ (s : StoredConfig) (w : List ℕ) where
  -- the configuration is not sound
  pub config_fault : (f : Checked) → f ≡ check limits s → (f ≡ Sound → ⊥) → false ≡ check_table limits s (stored_table w)
  unfolding check_table
  config_fault f e bad = all_miss _ _ (ap is_sound (sym e) ∙ fault_unsound f bad)

  -- the words are not packed
  pub words_fault : (t : Bool) → t ≡ packed w → not t ≡ true → false ≡ check_table limits s (stored_table w)
  unfolding check_table
  words_fault t e f =
      sym
      (false_of (check_table limits s (stored_table w))
      (λ h.
      let p = parts _ h in
      true≢false (sym p.1.0 ∙ tidy_is_packed w (sound_limited w (config_of s) p.1.1.0) ∙ sym e ∙ not-true t f)))

  -- both are well: the answer is whether the table is sound
  pub table_judged : (t b : Bool) → check limits s ≡ Sound → t ≡ packed w → not t ≡ false
      → b ≡ sound limits (config_of s) (zones_in w) → b ≡ check_table limits s (stored_table w)
  unfolding check_table
  table_judged t b g q h j =
      let p : packed w ≡ true = sym q ∙ not-false t h in
      let l : Limited w = packed_limited w p in
      all_pass b _ _ (ap is_sound g ∙ sound_is)
      (all_pass b _ _ (tidy_is_packed w l ∙ p)
      (all_last b _ (j ∙ ap (sound limits (config_of s)) (sym (table_same w l)))))

  -- a table that passed is packed and sound
  module _ (e : check_table limits s (stored_table w) ≡ true) where
    passed_limited : Limited w
    unfolding check_table
    passed_limited = sound_limited w (config_of s) (parts _ e).1.1.0

    pub passed_packed : packed w ≡ true
    unfolding check_table
    passed_packed = sym (tidy_is_packed w passed_limited) ∙ (parts _ e).1.0

    pub passed_same : zones_in w ≡ table_of (stored_table w)
    passed_same = sym (table_same w passed_limited)

    pub passed_sound : sound limits (config_of s) (zones_in w) ≡ true
    unfolding check_table
    passed_sound = ap (sound limits (config_of s)) passed_same ∙ (parts _ e).1.1.0

-- what the private check asks
pub packed_within : (w : List ℕ) (t : Bool) → t ≡ packed w → not t ≡ false → Within (zones_in w)
packed_within w t e f = within_limits w (packed_limited w (sym e ∙ not-false t f))

-- ---- the number before any request
module _ (c : StoredConfig) (t : StoredTable) where
  pub config_first : (f : Checked) → f ≡ check limits c → (f ≡ Sound → ⊥) → 1 ≡ standing limits c t
  unfolding standing_rules
  config_first f e bad = rule_hit _ _ _ _ _ (ap not (ap is_sound (sym e) ∙ fault_unsound f bad)) refl

  module _ (g : check limits c ≡ Sound) where
    skip_config : (n : ℕ) → n ≡ first_rule (2 when not (check_table limits c t) ∷ []) 0 → n ≡ standing limits c t
    unfolding standing_rules
    skip_config n = rule_skip _ _ _ _ _ (ap not (ap is_sound g ∙ sound_is))

    pub table_second : (b : Bool) → b ≡ check_table limits c t → not b ≡ true → 2 ≡ standing limits c t
    table_second b e f = skip_config 2 (rule_hit _ _ _ _ _ (ap not (sym e) ∙ f) refl)

    pub both_stand : (b : Bool) → b ≡ check_table limits c t → not b ≡ false → 0 ≡ standing limits c t
    both_stand b e f = skip_config 0 (rule_skip _ _ _ _ _ (ap not (sym e) ∙ f) (rule_none _ _ refl))
