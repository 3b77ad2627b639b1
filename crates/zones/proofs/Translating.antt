-- Translation: a region of one byte overlaps exactly the regions that cover its address, so the search by overlap finds
-- the covering one; in reach, no sum wraps.
use Rattle.rules.specs.Fields.{region_of}
use mathlib.Core.Path.{fun_ext}
use Prim.Native.Nat.{ℕ, ◌+◌, ◌-◌, ◌^◌, ◌≤◌, ◌<◌}
use native.Mathlib.Omega.{arith}
use mathlib.Core.Bool.{Bool, true, not}
use mathlib.Core.List.{List, [], ◌∷◌}
use mathlib.Core.Path.{◌≡◌, refl, sym, ap, ◌∙◌}
use borrow.Author.Tests.{ltb-true, leb-true, lt-ltb, le-leb}
use lib.ListN.{length, get_or}
use Rattle.std.specs.Prelude.{Result, Ok, Err, position, is_some}
use Rattle.std.specs.declared.option.Option.{Option}
use Rattle.std.specs.declared.option.Option.TheVariants.{Some, None}
use Rattle.lists.specs.First.{first_index, any, all}
use Rattle.lists.specs.Rules.{Rule, ◌when◌, first_rule}
use Rattle.lists.proofs.Every.{all_at}
use Rattle.lists.proofs.First.{first_passes}
use Rattle.lists.proofs.Places.{length_tab, get_d_tab}
use Rattle.lists.proofs.Rules.{rule_hit, rule_skip, rule_none, Telling, stage_hit, stage_skip, above_zero, numbers_tell}
use Rattle.lists.proofs.Tests.{same_test, parts, whole}
use Rattle.rules.specs.Addresses.{overlaps}
use Rattle.rules.specs.Changes.{region_set}
use Rattle.rules.specs.Limits.{most_in_set, limits}
use Rattle.rules.specs.Numbers.{number}
use Rattle.rules.specs.Regions.{in_reach, guest_overlap, no_region}
use Rattle.rules.specs.Requests.{find, standing_rules, standing}
use Rattle.rules.specs.Tables.{table_of, configured, sound_set, Zone}
use Rattle.rules.specs.Translation.{covers_guest, covering_in, phys_in, remaining_in, translation_rules, translated_as}
use Rattle.rules.specs.Translation.{translation, translated}
use Rattle.rules.specs.declared.Guest.{Guest}
use Rattle.rules.specs.declared.Region.{Region}
use Rattle.rules.specs.declared.Side.{Side}
use Rattle.rules.specs.declared.refusal.Refusal.{Refusal}
use Rattle.rules.specs.declared.refusal.Refusal.TheVariants.{NotCovered}
use Rattle.rules.proofs.Addresses.{overlap_shared}
use Rattle.rules.proofs.Configuration.{SoundConfiguration}
use Rattle.rules.proofs.Keeps.{sound_parts, set_sound}
use Rattle.rules.proofs.Tables.{configured_at}
use Rattle.rules.proofs.Translation.{covers_parts, none_told}
use Rattle.zones.specs.Decide.{ruled, name_rules, Ready}
use Rattle.zones.specs.Layout.{table_words, set_base}
use Rattle.zones.specs.Records.{record_at, records_at}
use Rattle.zones.specs.Translate.{told, Near}
use Rattle.zones.specs.View.{stored_config, config_in, stored_table, record_in, set_in, zones_in}
use Rattle.zones.proofs.ConfigReaders.{config_sound}
use Rattle.zones.proofs.Finding.{some_any, found_first}
use Rattle.zones.proofs.Deciding.{named_is, named_low, named_present, named_there}
use Rattle.zones.proofs.Ruling.{stage_refuses, number_ruled, number_some}
use Rattle.zones.proofs.Stepping.{stands_same, stands_ready}
use Rattle.zones.proofs.Writers.{set_in_law}
use Rattle.zones.specs.declared.translation.Stretch.{Stretch}

-- a region of one byte overlaps exactly the regions that cover its address
byte_covers : (a : ℕ) (r : Region) → overlaps a 1 r.v.0 r.size ≡ covers_guest a r
unfolding covers_guest
byte_covers a r =
    same_test _ _
    (λ e. let (x, ((l, h), (b, u))) = (overlap_shared a 1 r.v.0 r.size).0 e in
    whole _ (le-leb r.v.0 a (omega arith), (lt-ltb a (r.v.0 + r.size) (omega arith), tt)))
    (λ e. let p = parts _ e in
    let b : r.v.0 ≤ a = leb-true _ _ p.0 in
    let u : a < r.v.0 + r.size = ltb-true _ _ p.1.0 in
    (overlap_shared a 1 r.v.0 r.size).1 (a, ((omega arith, omega arith), (omega arith, omega arith))))

-- so what is found by overlap is found by cover
pub covering_told : (a : Guest) (e : Region) (t : Bool)
    → t ≡ guest_overlap (record { v = a; p = record { 0 = 0 }; size = 1; rights = record { 0 = 0 } }) e → t ≡ covers_guest a.0 e
covering_told a e t h = h ∙ byte_covers a.0 e

pub covering_found : (a k : ℕ) (xs : List Region) → k ≡ first_index (guest_overlap (region_of a 0 1 0)) xs
    → k ≡ first_index (covers_guest a) xs
covering_found a k xs e = e ∙ ap (λ (p : Region → Bool). first_index p xs) (fun_ext (byte_covers a))

-- ---- what is answered
module _ (w : List ℕ) (id : ℕ) (s : Side) (a : ℕ) where
  refused_as : (n : ℕ) → (n ≡ 0 → ⊥) → n ≡ first_rule (translation_rules (zones_in w) id s a) 0
      → record { number = n; phys = record { 0 = 0 }; remaining = 0 } ≡ translation (zones_in w) id s a
  unfolding translation
  refused_as n ne e =
      let y : Region = covering_in a (region_set (zones_in w) (find id (zones_in w)) s) in
      none_told n a y ne ∙ ap (λ (m : ℕ). translated_as m a y) e

  pub not_named : (e : Refusal) → ◌≡◌ {A = Result ℕ ℕ} (Err (number e)) (ruled (name_rules id (zones_in w)) (find id (zones_in w)))
      → told (Err e) ≡ translation (zones_in w) id s a
  unfolding translation_rules
  not_named e said =
      refused_as (number e) (number_some e) (number_ruled {A = ℕ} (translation_rules (zones_in w) id s a) 0 (number e)
      (stage_refuses (name_rules id (zones_in w))
      (18 when not (any (covers_guest a) (region_set (zones_in w) (find id (zones_in w)) s)) ∷ [])
      (find id (zones_in w)) 0 (number e) said))

  module _ (z : ℕ) (named : Ok z ≡ ruled (name_rules id (zones_in w)) (find id (zones_in w))) where
    ez : z ≡ find id (zones_in w)
    ez = named_is (zones_in w) id z named

    there : z < length (zones_in w)
    there = named_there (zones_in w) id z named

    same_set : set_in w z s ≡ region_set (zones_in w) (find id (zones_in w)) s
    same_set = sym (set_in_law w z s there) ∙ ap (λ (k : ℕ). region_set (zones_in w) k s) ez

    covered : (o : Option ℕ) → o ≡ position (covers_guest a) (set_in w z s)
        → any (covers_guest a) (region_set (zones_in w) (find id (zones_in w)) s) ≡ is_some o
    covered o eo =
        ap (any (covers_guest a)) (sym same_set)
        ∙ sym (some_any (covers_guest a) (set_in w z s))
        ∙ ap is_some (sym eo)

    last : (v : ℕ)
        → v ≡ first_rule (18 when not (any (covers_guest a) (region_set (zones_in w) (find id (zones_in w)) s)) ∷ []) 0
        → v ≡ first_rule (translation_rules (zones_in w) id s a) 0
    unfolding translation_rules
    last v e =
        rule_skip _ _ _ _ _ (named_low (zones_in w) id z named)
        (rule_skip _ _ _ _ _ (named_present (zones_in w) id z named) e)

    pub none_covers : ◌≡◌ {A = Option ℕ} None (position (covers_guest a) (set_in w z s))
        → told (Err NotCovered) ≡ translation (zones_in w) id s a
    none_covers eo =
        refused_as 18 (λ e. omega arith) (last 18 (rule_hit _ _ _ _ _ (ap not (covered None eo)) refl))

    module _ (i : ℕ) (eo : ◌≡◌ {A = Option ℕ} (Some i) (position (covers_guest a) (set_in w z s))) where
      ei : i ≡ first_index (covers_guest a) (set_in w z s)
      ei = (found_first (covers_guest a) (set_in w z s) i eo).0

      l : i < length (set_in w z s)
      l = (found_first (covers_guest a) (set_in w z s) i eo).1

      pub record_within : Near (zones_in w) → i < most_in_set
      record_within near =
          let b : length (region_set (zones_in w) z s) ≤ most_in_set = near.within.sets z s there in
          omega (arith, l, ap length (set_in_law w z s there))

      module _ (x : Region) (ex : x ≡ record_in w z s i) where
        region_here : x ≡ get_or (set_in w z s) i no_region
        unfolding set_in records_at record_in
        region_here =
            ex ∙ sym (get_d_tab _ (record_at w (set_base z s + 1)) i no_region
            (omega (arith, l, length_tab (get_or w (set_base z s) 0) (record_at w (set_base z s + 1)))))

        covers_here : covers_guest a x ≡ true
        covers_here =
            ap (covers_guest a) (region_here ∙ ap (λ (k : ℕ). get_or (set_in w z s) k no_region) ei)
            ∙ first_passes (covers_guest a) (set_in w z s) no_region (omega (arith, l, ei))

        pub from_start : x.v.0 ≤ a
        from_start = (covers_parts a x covers_here).0

        pub before_end : a - x.v.0 ≤ x.size
        before_end =
            let u : a < x.v.0 + x.size = (covers_parts a x covers_here).1 in
            omega arith

        pub no_wrap : Near (zones_in w) → x.p.0 + (a - x.v.0) < 2 ^ 64
        unfolding in_reach
        no_wrap near =
            let q : in_reach limits x ≡ true =
            ap (in_reach limits) (region_here ∙ ap (λ (l : List Region). get_or l i no_region) (sym (set_in_law w z s there)))
            ∙ near.reach z s i there (omega (arith, l, ap length (set_in_law w z s there))) in
            let b : x.p.0 + x.size ≤ limits.phys_reach = leb-true _ _ (parts _ q).1.0 in
            let u : a - x.v.0 ≤ x.size = before_end in
            omega arith

        pub one_covers : told (Ok (record { phys = record { 0 = x.p.0 + (a - x.v.0) }; remaining = x.size - (a - x.v.0) }))
            ≡ translation (zones_in w) id s a
        unfolding translation translated_as phys_in remaining_in covering_in
        one_covers =
            let y : Region = covering_in a (region_set (zones_in w) (find id (zones_in w)) s) in
            let ey : x ≡ y =
            region_here ∙ ap (λ (k : ℕ). get_or (set_in w z s) k no_region) ei ∙ ap (covering_in a) same_set in
            let accepted : 0 ≡ first_rule (translation_rules (zones_in w) id s a) 0 =
            last 0 (rule_skip _ _ _ _ _ (ap not (covered (Some i) eo)) (rule_none _ _ refl)) in
            ap (translated_as 0 a) ey ∙ ap (λ (m : ℕ). translated_as m a y) accepted

-- ---- a table that is ready has every region in reach
near_ready : (c t : List ℕ) → Ready c t → Near (zones_in t)
unfolding sound_set
near_ready c t r =
    let ok : SoundConfiguration limits (config_in c) = config_sound c r.config in
    record {
      within = r.words.within;
      reach = λ z s i h l.
          let xs : List Region = region_set (zones_in t) z s in
          let (k, m, q) =
          configured_at limits (config_in c) ok (get_or xs i no_region)
          (all_at (configured (config_in c)) xs no_region
          (parts _ (set_sound limits (config_in c) (zones_in t)
          (sound_parts limits (config_in c) (zones_in t) r.table) z s h)).1.0 i l) in
          ap (in_reach limits) q ∙ ok.near k m;
    }

standing_telling : (c t : List ℕ) → Telling (standing_rules limits (stored_config c) (stored_table t)) 0
unfolding standing_rules above_zero all
standing_telling c t = numbers_tell (standing_rules limits (stored_config c) (stored_table t)) refl

-- ---- from outside
module _ (c t : List ℕ) (id : ℕ) (s : Side) (a : Guest) where
  pub none_translated : (e : Refusal) → number e ≡ standing limits (stored_config c) (stored_table t)
      → told (Err e) ≡ translated limits (stored_config c) (stored_table t) id s a
  unfolding translated
  none_translated e said =
      let rs : List (Rule ℕ) = translation_rules (table_of (stored_table t)) id s a.0 in
      let y : Region = covering_in a.0 (region_set (table_of (stored_table t)) (find id (table_of (stored_table t))) s) in
      none_told (number e) a.0 y (number_some e) ∙ ap (λ (m : ℕ). translated_as m a.0 y)
      (stage_hit (standing_rules limits (stored_config c) (stored_table t)) rs (number e) 0 said (number_some e))

  module _ (stands : 0 ≡ standing limits (stored_config c) (stored_table t)) where
    pub now_translated : (r : Result Stretch Refusal) → told r ≡ translation (zones_in t) id s a.0
        → told r ≡ translated limits (stored_config c) (stored_table t) id s a
    unfolding translated translation
    now_translated r h =
        let rs : List (Rule ℕ) = translation_rules (table_of (stored_table t)) id s a.0 in
        h ∙ ap (λ (x : List Zone). translation x id s a.0) (stands_same c t 0 stands refl)
        ∙ ap (λ (m : ℕ). translated_as m a.0 (covering_in a.0
        (region_set (table_of (stored_table t)) (find id (table_of (stored_table t))) s)))
        (stage_skip (standing_rules limits (stored_config c) (stored_table t)) rs (first_rule rs 0) 0 0
        (standing_telling c t) stands refl refl)

    pub near_now : length t ≡ table_words → Near (zones_in t)
    near_now l = near_ready c t (stands_ready c t 0 stands refl l)
