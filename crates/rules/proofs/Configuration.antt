-- The check of a configuration: an answer is given as soon as its rule applies and no earlier one does; the positions
-- are gone through upward, those below being without fault.
use Prim.Native.Nat.{ℕ, ◌≤◌, ◌<◌}
use native.Mathlib.Decide.{dec_lt}
use native.Mathlib.Omega.{arith}
use mathlib.Core.Bool.{Bool, true, false, ◌||◌, true≢false}
use mathlib.Core.List.{List, flat_map}
use mathlib.Core.Path.{◌≡◌, refl, sym, ap, ap₂, ◌∙◌}
use borrow.Author.Tests.{ltb-false, leb-false, not-false}
use lib.Dec.{ltb, leb, eqb}
use lib.ListN.{length, get_or, take, drop, length-take}
use lib.Seq.{get_or-take}
use Rattle.lists.specs.First.{first_index, first_from, any}
use Rattle.lists.specs.Places.{places}
use Rattle.lists.specs.Rules.{first_rule}
use Rattle.lists.proofs.Every.{none_at}
use Rattle.lists.proofs.Room.{length_room, room_read}
use Rattle.lists.proofs.Rules.{rule_steps, Telling, rules_stop, rules_end, rules_past, Quiet, quiet, test_of, silent}
use Rattle.lists.proofs.Rules.{telling_places, quiet_places}
use Rattle.lists.proofs.Tests.{both_false, not_fails, not_holds}
use Rattle.rules.specs.Configuration.{config_of, position_rules, check_rules, check, is_sound, check_number}
use Rattle.rules.specs.Configuration.{Configuration, StoredConfig}
use Rattle.rules.specs.Limits.{Limits}
use Rattle.rules.specs.Regions.{well_formed, in_reach, phys_overlap, no_region, used}
use Rattle.rules.specs.declared.Checked.{Checked}
use Rattle.rules.specs.declared.Checked.TheVariants.{Sound, BadCount, BadGic, NotZero, Malformed, OutOfReach}
use Rattle.rules.specs.declared.Checked.TheVariants.{Overlap}
use Rattle.rules.specs.declared.Region.{Region}
use Rattle.rules.proofs.Addresses.{overlap_symmetric}

-- ---- at a position: no rule answers that all is sound
pub c1_faulty : BadCount ≡ Sound → ⊥
c1_faulty e = let z : ◌≡◌ {A = ℕ} 1 0 = ap check_number e in omega arith

pub c2_faulty : BadGic ≡ Sound → ⊥
c2_faulty e = let z : ◌≡◌ {A = ℕ} 2 0 = ap check_number e in omega arith

pub c3_faulty : (k : ℕ) → NotZero k ≡ Sound → ⊥
c3_faulty k e = let z : ◌≡◌ {A = ℕ} 3 0 = ap check_number e in omega arith

pub c4_faulty : (i : ℕ) → Malformed i ≡ Sound → ⊥
c4_faulty i e = let z : ◌≡◌ {A = ℕ} 4 0 = ap check_number e in omega arith

pub c5_faulty : (i : ℕ) → OutOfReach i ≡ Sound → ⊥
c5_faulty i e = let z : ◌≡◌ {A = ℕ} 5 0 = ap check_number e in omega arith

pub c6_faulty : (i k : ℕ) → Overlap i k ≡ Sound → ⊥
c6_faulty i k e = let z : ◌≡◌ {A = ℕ} 6 0 = ap check_number e in omega arith

-- ---- the test of an answer
pub sound_is : is_sound Sound ≡ true
unfolding is_sound
sound_is = refl

pub fault_unsound : (f : Checked) → (f ≡ Sound → ⊥) → is_sound f ≡ false
unfolding is_sound
fault_unsound Sound bad = absurd (bad refl)
fault_unsound BadCount bad = refl
fault_unsound BadGic bad = refl
fault_unsound (NotZero k) bad = refl
fault_unsound (Malformed i) bad = refl
fault_unsound (OutOfReach i) bad = refl
fault_unsound (Overlap i k) bad = refl

pub sound_answer : (f : Checked) → is_sound f ≡ true → f ≡ Sound
unfolding is_sound
sound_answer Sound e = refl
sound_answer BadCount e = absurd (true≢false (sym e))
sound_answer BadGic e = absurd (true≢false (sym e))
sound_answer (NotZero k) e = absurd (true≢false (sym e))
sound_answer (Malformed i) e = absurd (true≢false (sym e))
sound_answer (OutOfReach i) e = absurd (true≢false (sym e))
sound_answer (Overlap i k) e = absurd (true≢false (sym e))

module _ (lim : Limits) where
  -- ---- C1, C2, C3, each as soon as it applies and no earlier one does
  module _ (s : StoredConfig) where
    abbrev wrong_count : Bool
    wrong_count = eqb s.count 0 || ltb lim.regions s.count

    pub gives_c1 : wrong_count ≡ true → BadCount ≡ check lim s
    unfolding check check_rules
    gives_c1 a = search rule_steps

    module _ (a : wrong_count ≡ false) where
      pub gives_c2 : leb s.count s.gic ≡ true → BadGic ≡ check lim s
      unfolding check check_rules
      gives_c2 b = search rule_steps

      module _ (b : leb s.count s.gic ≡ false) where
        pub gives_c3 : any used (drop s.count s.records) ≡ true
            → NotZero (first_from used s.records s.count) ≡ check lim s
        unfolding check check_rules
        gives_c3 c = search rule_steps

        pub gives_positions : any used (drop s.count s.records) ≡ false
            → first_rule (flat_map (position_rules lim s.records) (places 0 s.count)) Sound ≡ check lim s
        unfolding check check_rules
        gives_positions c = search rule_steps

  pub telling_at : (records : List Region) (i : ℕ) → Telling (position_rules lim records i) Sound
  unfolding position_rules
  telling_at records i = search (c4_faulty, c5_faulty, c6_faulty)

  module _ (records : List Region) (i : ℕ) where
    abbrev here : Region
    here = get_or records i no_region

    pub gives_c4 : well_formed lim.page here ≡ false → Malformed i ≡ first_rule (position_rules lim records i) Sound
    unfolding position_rules
    gives_c4 a = search (rule_steps, not_fails, not_holds) depth 8

    module _ (a : well_formed lim.page here ≡ true) where
      pub gives_c5 : in_reach lim here ≡ false → OutOfReach i ≡ first_rule (position_rules lim records i) Sound
      unfolding position_rules
      gives_c5 b = search (rule_steps, not_fails, not_holds) depth 8

      module _ (b : in_reach lim here ≡ true) where
        pub gives_c6 : any (phys_overlap here) (take i records) ≡ true
            → Overlap i (first_index (phys_overlap here) (take i records)) ≡ first_rule (position_rules lim records i) Sound
        unfolding position_rules
        gives_c6 c = search (rule_steps, not_fails, not_holds) depth 8

        pub gives_none : any (phys_overlap here) (take i records) ≡ false
            → Sound ≡ first_rule (position_rules lim records i) Sound
        unfolding position_rules
        gives_none c = search (rule_steps, not_fails, not_holds) depth 8

  -- ---- the positions upward: those below i are without fault
  module _ (records : List Region) (n : ℕ) where
    abbrev whole : Checked
    whole = first_rule (flat_map (position_rules lim records) (places 0 n)) Sound

    pub first_fault : (i : ℕ) (v : Checked) → i < n
        → ((j : ℕ) → j < i → Sound ≡ first_rule (position_rules lim records j) Sound)
        → v ≡ first_rule (position_rules lim records i) Sound → (v ≡ Sound → ⊥) → v ≡ whole
    first_fault i v h f e bad =
        rules_stop (position_rules lim records) i n v Sound whole
        (rules_past (position_rules lim records) n Sound (telling_at records) i (omega arith)
        (λ j l. sym (f j l))) h e bad

    pub no_fault : ((j : ℕ) → j < n → Sound ≡ first_rule (position_rules lim records j) Sound) → Sound ≡ whole
    no_fault f =
        rules_end (position_rules lim records) n n Sound whole
        (rules_past (position_rules lim records) n Sound (telling_at records) n (omega arith) (λ j l. sym (f j l)))
        (omega arith)

  -- ---- what is so of a configuration that the check finds sound
  pub record SoundConfiguration (c : Configuration) : Type 0 where
    pub most : length c.regions ≤ lim.regions
    pub gic : c.gic < length c.regions
    pub formed : (i : ℕ) → i < length c.regions → well_formed lim.page (get_or c.regions i no_region) ≡ true
    pub near : (i : ℕ) → i < length c.regions → in_reach lim (get_or c.regions i no_region) ≡ true
    pub apart : (i j : ℕ) → i < length c.regions → j < length c.regions → (i ≡ j → ⊥)
        → phys_overlap (get_or c.regions i no_region) (get_or c.regions j no_region) ≡ false

  module _ (s : StoredConfig) (full : length s.records ≡ lim.regions) (e : check lim s ≡ Sound) where
    first_telling : Telling (check_rules lim s) Sound
    unfolding check_rules
    first_telling = (
      c1_faulty,
      (
        c2_faulty,
        (
          c3_faulty _,
          telling_places (position_rules lim s.records) Sound (telling_at s.records) 0 s.count,
        ),
      ),
    )

    tests_fail : Quiet (check_rules lim s)
    unfolding check
    tests_fail = quiet (check_rules lim s) Sound first_telling e

    no_fault_of : (n : ℕ) → test_of check_number n (check_rules lim s) ≡ false
    no_fault_of = silent check_number (check_rules lim s) tests_fail

    pub few_counted : s.count ≤ lim.regions
    unfolding check_rules test_of
    few_counted = ltb-false _ _ (both_false (eqb s.count 0) _ (no_fault_of 1)).1

    pub rest_unused : any used (drop s.count s.records) ≡ false
    unfolding check_rules test_of
    rest_unused = no_fault_of 3

    at_position : (i : ℕ) → i < s.count → Quiet (position_rules lim s.records i)
    unfolding check_rules
    at_position i h =
        quiet_places (position_rules lim s.records) 0 s.count tests_fail.1.1.1 i (omega arith) (omega arith)

    no_fault_at : (i : ℕ) → i < s.count → (n : ℕ) → test_of check_number n (position_rules lim s.records i) ≡ false
    no_fault_at i h = silent check_number (position_rules lim s.records i) (at_position i h)

    held_at : (i : ℕ) → i < s.count → get_or (config_of s).regions i no_region ≡ get_or s.records i no_region
    unfolding config_of
    held_at i h = room_read s.count no_region s.records i h

    many : length (config_of s).regions ≡ s.count
    unfolding config_of
    many = length_room s.count no_region s.records

    clear : (i j : ℕ) → j < i → i < s.count
        → phys_overlap (get_or s.records i no_region) (get_or s.records j no_region) ≡ false
    unfolding position_rules test_of
    clear i j h l =
        let w : j < length (take i s.records) = omega (arith, length-take i s.records, few_counted) in
        ap (phys_overlap (get_or s.records i no_region)) (sym (get_or-take i s.records j no_region h))
        ∙ none_at (phys_overlap (get_or s.records i no_region)) (take i s.records) no_region
        (no_fault_at i l 6) j w

    clear_both : (i j : ℕ) → i < s.count → j < s.count → (i ≡ j → ⊥)
        → phys_overlap (get_or s.records i no_region) (get_or s.records j no_region) ≡ false
    clear_both i j h l ne =
        elim (dec_lt j i) [ yes a ↦ clear i j a h | no a ↦ overlap_symmetric _ _ _ _ ∙ clear j i (omega arith) l ]

    pub passed : SoundConfiguration (config_of s)
    unfolding check_rules position_rules config_of test_of
    passed = record {
      most = (let f : s.count ≤ lim.regions = few_counted in omega (arith, many));
      gic = (let g : s.gic < s.count = leb-false _ _ (no_fault_of 2) in omega (arith, many));
      formed =
          λ i h. let l : i < s.count = omega (arith, many) in
          ap (well_formed lim.page) (held_at i l) ∙ not-false _ (no_fault_at i l 4);
      near =
          λ i h. let l : i < s.count = omega (arith, many) in
          ap (in_reach lim) (held_at i l) ∙ not-false _ (no_fault_at i l 5);
      apart =
          λ i j h l ne. let a : i < s.count = omega (arith, many) in
          let b : j < s.count = omega (arith, many) in
          ap₂ phys_overlap (held_at i a) (held_at j b) ∙ clear_both i j a b ne;
    }
