-- Configurations and tables as they are stored: what was stored is read
-- back, and a sound list of zones is stored as a sound table.
use Prim.Native.Nat.{ℕ, zero, suc, ◌-◌, ◌≤◌, ◌<◌}
use native.Mathlib.Omega.{arith}
use mathlib.Core.Bool.{Bool, true, false, not, not-not}
use mathlib.Core.List.{List, [], ◌∷◌, ◌++◌, map}
use mathlib.Core.Path.{◌≡◌, refl, sym, ap, ap₂, ◌∙◌}
use borrow.Author.Tests.{leb-true, not-false}
use lib.ListN.{length, get_or, take, drop, replicate, length-map, length-take, length-drop, take-append-drop}
use lib.ListN.{get_or-map}
use Rattle.lists.specs.First.{any, all}
use Rattle.lists.specs.Room.{room}
use Rattle.lists.specs.Tests.{all_of, each_two}
use Rattle.lists.proofs.Every.{all_from, all_map, none_all, all_replicate, map_back}
use Rattle.lists.proofs.Room.{length_room, room_rest, room_take, room_back, room_after, room_read}
use Rattle.lists.proofs.Rules.{test_of, quiet_answer, above_zero, silent_number}
use Rattle.lists.proofs.Places.{get_d_any}
use Rattle.lists.proofs.Tests.{both_true, not_fails, not_holds, parts, whole}
use Rattle.formats.specs.Formats.{All}
use Rattle.rules.specs.Applying.{store_set, store_zone, store, store_config}
use Rattle.rules.specs.Configuration.{config_of, check, is_sound, Configuration, StoredConfig}
use Rattle.rules.specs.Limits.{Limits}
use Rattle.rules.specs.Fields.{numbers_of}
use Rattle.rules.specs.Regions.{region_eq, no_region, used}
use Rattle.rules.specs.Requests.{refusal, next, standing_rules, standing}
use Rattle.rules.specs.Run.{run_from}
use Rattle.rules.specs.Tables.{no_zone, no_stored, unused_set, unused_zone, set_of, zone_of, table_of, rest_zero, zero_set}
use Rattle.rules.specs.Tables.{tidy_zone, zero_zone, tidy, sound_set, sound_zone, sound, check_table, Zone, StoredZone}
use Rattle.rules.specs.Tables.{StoredTable}
use Rattle.rules.specs.declared.Checked.TheVariants.{Sound}
use Rattle.rules.specs.declared.Region.{Region}
use Rattle.rules.specs.declared.Request.{Request}
use Rattle.rules.proofs.Configuration.{sound_is, sound_answer, few_counted, rest_unused}
use Rattle.rules.proofs.Regions.{equal_same}
use Rattle.rules.proofs.Run.{run_by_keeps}
use Rattle.rules.proofs.Keeps.{sound_parts, parts_sound, next_keeps, SoundTable}

-- ---- what was stored is read back
read_back : {A : Type 0} (n : ℕ) (y z : A) (xs : List A) → length xs ≤ n → room (length xs) y (room n z xs) ≡ xs
read_back n y z xs h = room_take (length xs) y (room n z xs) (omega (arith, length_room n z xs)) ∙ room_back n z xs h

none_used : (n : ℕ) → any used (replicate n no_region) ≡ false
unfolding any region_eq numbers_of each_two all_of
none_used zero = refl
none_used (suc n) = none_used n

-- ---- a stored table, zone by zone
pub length_table : (t : StoredTable) → length (table_of t) ≡ t.count
unfolding table_of
length_table t = length-map (room t.count no_stored t.zones) zone_of ∙ length_room t.count no_stored t.zones

pub zone_read : (t : StoredTable) (z : ℕ) → z < t.count
    → get_or (table_of t) z no_zone ≡ zone_of (get_or t.zones z no_stored)
unfolding table_of
zone_read t z h =
    let zs : List StoredZone = room t.count no_stored t.zones in
    get_d_any (map zone_of zs) z no_zone (zone_of no_stored)
    (omega (arith, length-map zs zone_of, length_room t.count no_stored t.zones))
    ∙ get_or-map zone_of zs z no_stored ∙ ap zone_of (room_read t.count no_stored t.zones z h)

-- ---- what is stored with zeros in what is free is what would be stored of it
module _ {A : Type 0} (n k : ℕ) (z : A) (xs : List A) (len : length xs ≡ n) (few : k ≤ n)
    (free : drop k xs ≡ replicate (n - k) z) where
  pub refilled : room n z (room k z xs) ≡ xs
  refilled =
      let t : room k z xs ≡ take k xs = room_take k z xs (omega arith) in
      let l : length (take k xs) ≡ k = omega (arith, length-take k xs) in
      let m : n - length (take k xs) ≡ n - k = omega arith in
      ap (room n z) t ∙ room_rest n z (take k xs) (omega arith) ∙ ap (λ (j : ℕ). take k xs ++ replicate j z) m
      ∙ ap (λ (r : List A). take k xs ++ r) (sym free) ∙ take-append-drop k xs

-- elements that are all z
all_alike : {A : Type 0} (p : A → Bool) (z : A) → ((x : A) → p x ≡ true → x ≡ z) → (xs : List A) → all p xs ≡ true
    → xs ≡ replicate (length xs) z
unfolding all
all_alike p z f [] e = refl
all_alike {A} p z f (x ∷ xs) e =
    let h = both_true (p x) (all p xs) e in
    ap₂ (λ (y : A) (l : List A). y ∷ l) (f x h.0) (all_alike p z f xs h.1)

unused_zeros : (k n : ℕ) (xs : List Region) → length xs ≡ n → any used (drop k xs) ≡ false
    → drop k xs ≡ replicate (n - k) no_region
unused_zeros k n xs len e =
    let h : all (λ (r : Region). not (used r)) (drop k xs) ≡ true = sym (none_all used (drop k xs)) ∙ not_fails _ e in
    let l : length (drop k xs) ≡ n - k = omega (arith, length-drop k xs) in
    all_alike (λ (r : Region). not (used r)) no_region (λ r f. equal_same r no_region (not_not_true _ f)) (drop k xs) h
    ∙ ap (λ (j : ℕ). replicate j no_region) l
  where
    not_not_true : (b : Bool) → not (not b) ≡ true → b ≡ true
    not_not_true b f = sym (not-not b) ∙ f

module _ (lim : Limits) where
  set_back : (xs : List Region) → length xs ≤ lim.in_set → set_of (store_set lim xs) ≡ xs
  unfolding set_of
  set_back xs h = read_back lim.in_set no_region no_region xs h

  set_few : (c : Configuration) (xs : List Region) → sound_set lim c xs ≡ true → length xs ≤ lim.in_set
  unfolding sound_set
  set_few c xs e = leb-true _ _ (parts _ e).0

  -- there is room for both sets of a zone
  abbrev pub SetsFew : Zone → Type 0
  SetsFew z = (length z.cpu ≤ lim.in_set) × (length z.iommu ≤ lim.in_set)

  few_back : (z : Zone) → SetsFew z → zone_of (store_zone lim z) ≡ z
  unfolding zone_of
  few_back z (m, n) =
      let p : set_of (store_set lim z.cpu) ≡ z.cpu = set_back z.cpu m in
      let q : set_of (store_set lim z.iommu) ≡ z.iommu = set_back z.iommu n in
      (λ i. record { id = z.id; cpu = p i; iommu = q i })

  zone_back : (c : Configuration) (z : Zone) → sound_zone lim c z ≡ true → zone_of (store_zone lim z) ≡ z
  unfolding sound_zone
  zone_back c z e = let h = parts _ e in few_back z (set_few c z.cpu h.1.0, set_few c z.iommu h.1.1.0)

  -- zones that there is room for, each read back
  stored_zones : (t : List Zone) → length t ≤ lim.zones → table_of (store lim t) ≡ map zone_of (map (store_zone lim) t)
  unfolding table_of
  stored_zones t h =
      let zs : List StoredZone = map (store_zone lim) t in
      let n : length zs ≡ length t = length-map t (store_zone lim) in
      ap (λ (k : ℕ). map zone_of (room k no_stored (room lim.zones (unused_zone lim) zs))) (sym n)
      ∙ ap (map zone_of) (read_back lim.zones no_stored (unused_zone lim) zs (omega arith))

  few_zones_law : (t : List Zone) → All SetsFew t → map zone_of (map (store_zone lim) t) ≡ t
  few_zones_law [] h = refl
  few_zones_law (z ∷ t) h = ap₂ (λ (y : Zone) (ys : List Zone). y ∷ ys) (few_back z h.0) (few_zones_law t h.1)

  pub zones_back : (t : List Zone) → length t ≤ lim.zones → All SetsFew t → table_of (store lim t) ≡ t
  zones_back t h f = stored_zones t h ∙ few_zones_law t f

  -- ---- what is unused is zero
  set_tidy : (c : Configuration) (xs : List Region) → sound_set lim c xs ≡ true → rest_zero (store_set lim xs) ≡ true
  unfolding rest_zero region_eq numbers_of each_two all_of
  set_tidy c xs e =
      none_all used (drop (length xs) (room lim.in_set no_region xs))
      ∙ ap (all (λ (r : Region). not (used r))) (room_after lim.in_set no_region xs (set_few c xs e))
      ∙ all_replicate (λ (r : Region). not (used r)) (lim.in_set - length xs) no_region refl

  zone_tidy : (c : Configuration) (z : Zone) → sound_zone lim c z ≡ true → tidy_zone (store_zone lim z) ≡ true
  unfolding tidy_zone sound_zone
  zone_tidy c z e =
      let h = parts _ e in
      whole _ (set_tidy c z.cpu h.1.0, (set_tidy c z.iommu h.1.1.0, tt))

  unused_zero : zero_zone (unused_zone lim) ≡ true
  unfolding zero_zone zero_set
  unused_zero =
      let e : zero_set (unused_set lim) ≡ true = whole _ (refl, (ap not (none_used lim.in_set), tt)) in
      whole _ (refl, (e, (e, tt)))

  -- ---- the table
  module _ (c : Configuration) (t : List Zone) (ok : SoundTable lim c t) where
    abbrev zones : List StoredZone
    zones = map (store_zone lim) t

    many : length zones ≡ length t
    many = length-map t (store_zone lim)

    few : length zones ≤ lim.zones
    few = let f : length t ≤ lim.zones = ok.few in omega (arith, many)

    pub table_back : table_of (store lim t) ≡ t
    table_back =
        stored_zones t ok.few ∙ map_back (sound_zone lim c) (store_zone lim) zone_of (zone_back c) t ok.zones

    pub store_tidy : tidy (store lim t) ≡ true
    unfolding tidy
    store_tidy =
        whole _ (
          ap (all tidy_zone)
              (ap (λ (n : ℕ). take n (room lim.zones (unused_zone lim) zones)) (sym many)
              ∙ room_back lim.zones (unused_zone lim) zones few)
              ∙ all_map (store_zone lim) tidy_zone t
              ∙ all_from (sound_zone lim c) (sound_zone lim c) (λ (z : Zone). tidy_zone (store_zone lim z))
              (λ z e f. zone_tidy c z e) t ok.zones ok.zones,
          (
            ap (all zero_zone)
                (ap (λ (n : ℕ). drop n (room lim.zones (unused_zone lim) zones)) (sym many)
                ∙ room_after lim.zones (unused_zone lim) zones few)
                ∙ all_replicate zero_zone (lim.zones - length zones) (unused_zone lim) unused_zero,
            tt,
          ),
        )

  -- a configuration that passed
  pub config_stored : (s : StoredConfig) → length s.records ≡ lim.regions → check lim s ≡ Sound
      → s ≡ store_config lim (config_of s)
  unfolding config_of
  config_stored s len e =
      let n : length (room s.count no_region s.records) ≡ s.count =
      length_room s.count no_region s.records in
      let r : room lim.regions no_region (room s.count no_region s.records) ≡ s.records =
      refilled lim.regions s.count no_region s.records len (few_counted lim s len e)
      (unused_zeros s.count lim.regions s.records len (rest_unused lim s len e)) in
      (λ i. record { count = sym n i; gic = s.gic; records = sym r i })

  pub config_back : (c : Configuration) → length c.regions ≤ lim.regions → config_of (store_config lim c) ≡ c
  unfolding config_of
  config_back c h =
      (λ i. record { regions = read_back lim.regions no_region no_region c.regions h i; gic = c.gic })

  -- ---- standing: neither 1 nor 2
  module _ (c : StoredConfig) (t : StoredTable) where
    pub stands_well : standing lim c t ≡ 0 → (check lim c ≡ Sound) × SoundTable lim (config_of c) (table_of t)
    unfolding standing_rules above_zero all check_table test_of
    stands_well e =
        let h = silent_number (standing_rules lim c t) refl e in (
          sound_answer _ (not-false _ (h 1)),
          sound_parts lim (config_of c) (table_of t) (parts _ (not-false _ (h 2))).1.1.0,
        )

  pub stored_stands : (c : StoredConfig) (t : List Zone) → check lim c ≡ Sound → SoundTable lim (config_of c) t
      → standing lim c (store lim t) ≡ 0
  unfolding standing_rules check_table
  stored_stands c t e ok =
      let s : is_sound (check lim c) ≡ true = ap is_sound e ∙ sound_is in
      let back : sound lim (config_of c) (table_of (store lim t)) ≡ true =
      ap (sound lim (config_of c)) (table_back (config_of c) t ok) ∙ parts_sound lim (config_of c) t ok in
      sym (quiet_answer (standing_rules lim c (store lim t)) 0
      (not_holds _ s, (not_holds _ (whole _ (s, (store_tidy (config_of c) t ok, (back, tt)))), tt)))

  -- ---- a run keeps a sound table sound, wherever it ends
  pub run_from_keeps : (c : Configuration) (i : ℕ) (t : List Zone) (qs : List Request) → SoundTable lim c t
      → SoundTable lim c (run_from lim c i t qs).table
  unfolding run_from
  run_from_keeps c i t qs ok = run_by_keeps (refusal lim c) (next lim c) (SoundTable lim c) (next_keeps lim c) i t qs ok
