-- The configuration's check as the code meets it: its tests in order are the rules', and the records at the positions
-- are those that the rules look at.
use Prim.Native.Nat.{ℕ, ◌+◌, ◌-◌, ◌*◌, ◌≤◌, ◌<◌}
use native.Mathlib.Omega.{arith}
use mathlib.Core.Bool.{Bool, true, false, not, not-not}
use mathlib.Core.List.{List, [], ◌∷◌, flat_map}
use mathlib.Core.Path.{◌≡◌, refl, sym, ap, subst, ◌∙◌}
use types.Run.{OneOf, miss}
use denote.Enum.Declared.{tag_of}
use borrow.Author.Tests.{eqb-false, lt-ltb, le-ltb}
use lib.ListN.{length, get_or, take, drop, length-take}
use Rattle.lists.specs.First.{first_index, any}
use Rattle.lists.specs.Places.{places}
use Rattle.lists.specs.Rules.{◌when◌, first_rule}
use Rattle.lists.proofs.Places.{get_d_tab, take_tab}
use Rattle.rules.specs.Configuration.{position_rules, check}
use Rattle.rules.specs.Limits.{most_regions, limits}
use Rattle.rules.specs.Regions.{well_formed, in_reach, phys_overlap, no_region, used}
use Rattle.rules.specs.declared.Checked.{Checked}
use Rattle.rules.specs.declared.Checked.TheVariants.{Sound, BadCount, BadGic, NotZero, Malformed, OutOfReach, Overlap}
use Rattle.rules.specs.declared.Region.{Region}
use Rattle.rules.specs.contracts.Checked.{the_type}
use Rattle.zones.specs.Layout.{region_words, config_records, config_words}
use Rattle.zones.specs.Packing.{zeros}
use Rattle.zones.specs.Records.{record_at, records_at}
use Rattle.zones.specs.View.{all_records, stored_config, ConfigPassed}
use Rattle.zones.proofs.Blocks.{free_zero}
use Rattle.zones.proofs.Finding.{some_any, found_first, found_none}
use Rattle.std.specs.Prelude.{position, is_some}
use Rattle.std.specs.declared.option.Option.{Option}
use Rattle.std.specs.declared.option.Option.TheVariants.{Some, None}

-- ---- what is found among the records before a position
module _ (w : List ℕ) (b n : ℕ) (p : Region → Bool) where
  pub some_record : (k : ℕ) → ◌≡◌ {A = Option ℕ} (Some k) (position p (records_at w b n)) → any p (records_at w b n) ≡ true
  some_record k e = sym (ap is_some e ∙ some_any p (records_at w b n))

  pub no_record : ◌≡◌ {A = Option ℕ} None (position p (records_at w b n)) → any p (records_at w b n) ≡ false
  no_record e = found_none p (records_at w b n) e

  pub overlap_at : (i k : ℕ) → ◌≡◌ {A = Option ℕ} (Some k) (position p (records_at w b n))
      → Overlap i k ≡ Overlap i (first_index p (records_at w b n))
  overlap_at i k e = ap (Overlap i) (found_first p (records_at w b n) k e).0

-- ---- whether some record past the count is used, by whether the words of those records are zero
module _ (w : List ℕ) (n : ℕ) (t : Bool) (h : n ≤ most_regions)
    (e : t ≡ zeros w (config_records + n * region_words) (config_words - (config_records + n * region_words))) where
  used_told : any used (drop n (all_records w)) ≡ not t
  used_told =
      let f : (most_regions - n) * region_words ≡ config_words - (config_records + n * region_words) = omega arith in
      sym (not-not (any used (drop n (all_records w))))
      ∙ ap not (free_zero w config_records most_regions n h ∙ ap (zeros w (config_records + n * region_words)) f ∙ sym e)

  pub none_used : t ≡ true → any used (drop n (all_records w)) ≡ false
  none_used f = used_told ∙ ap not f

-- ---- the rules at a position, where r is the record that was read there
pub rules_at : (w : List ℕ) (i : ℕ) (r : Region) (f : Checked) → r ≡ record_at w config_records i → i < most_regions
    → f ≡ first_rule (Malformed i when not (well_formed limits.page r) ∷ OutOfReach i when not (in_reach limits r)
    ∷ Overlap i (first_index (phys_overlap r) (records_at w config_records i)) when any (phys_overlap r)
    (records_at w config_records i) ∷ []) Sound
    → f ≡ first_rule (position_rules limits (all_records w) i) Sound
unfolding position_rules records_at
rules_at w i r f er h e =
    let here : get_or (all_records w) i no_region ≡ r =
    get_d_tab most_regions (record_at w config_records) i no_region h ∙ sym er in
    let earlier : take i (all_records w) ≡ records_at w config_records i =
    take_tab most_regions i (record_at w config_records) (omega arith) in
    rw (here, earlier) e

-- for so many positions there are keys
pub keyed_rules : (w keys : List ℕ) (n : ℕ) (v : Checked) → n ≤ length keys
    → v ≡ first_rule (flat_map (position_rules limits (all_records w)) (places 0 (length (take n keys)))) Sound
    → v ≡ first_rule (flat_map (position_rules limits (all_records w)) (places 0 n)) Sound
keyed_rules w keys n v h e =
    let q : length (take n keys) ≡ n = omega (arith, length-take n keys) in
    e ∙ ap (λ (m : ℕ). first_rule (flat_map (position_rules limits (all_records w)) (places 0 m)) Sound) q

-- ---- what a `let .. else` tells of a verdict, by its tag
pub is_sound_law : (v : Checked) → OneOf (0 ∷ []) (tag_of the_type v) → v ≡ Sound
is_sound_law Sound t = refl
is_sound_law BadCount t = absurd (eqb-false 1 0 refl t)
is_sound_law BadGic t = absurd (eqb-false 2 0 refl t)
is_sound_law (NotZero k) t = absurd (eqb-false 3 0 refl t)
is_sound_law (Malformed i) t = absurd (eqb-false 4 0 refl t)
is_sound_law (OutOfReach i) t = absurd (eqb-false 5 0 refl t)
is_sound_law (Overlap i k) t = absurd (eqb-false 6 0 refl t)

pub is_fault : (v : Checked) → OneOf (1 ∷ 2 ∷ 3 ∷ 4 ∷ 5 ∷ 6 ∷ []) (tag_of the_type v) → v ≡ Sound → ⊥
is_fault v t e =
    miss (1 ∷ 2 ∷ 3 ∷ 4 ∷ 5 ∷ 6 ∷ []) 0 tt (subst
    (λ (u : Checked). OneOf (1 ∷ 2 ∷ 3 ∷ 4 ∷ 5 ∷ 6 ∷ []) (tag_of the_type u)) e t)

pub not_zero_at : (k m : ℕ) → k ≡ m → NotZero k ≡ NotZero m
not_zero_at k m e = ap NotZero e

pub config_told : (w : List ℕ) (f : Checked) → f ≡ check limits (stored_config w) → f ≡ Sound → ConfigPassed w
config_told w f e g = sym e ∙ g
