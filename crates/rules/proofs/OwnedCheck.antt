-- The check of a configuration with owners: C1, C2, C3 and C7 each as soon as it applies and no earlier one does, and
-- past them the plain check; so where it finds nothing the plain check finds nothing, and every owner is right.
use Prim.Native.Nat.{ℕ, ◌+◌, ◌-◌, ◌≤◌, ◌<◌}
use native.Mathlib.Omega.{arith}
use mathlib.Core.Bool.{Bool, true, false, cond, true≢false}
use mathlib.Core.List.{List, [], ◌∷◌, map}
use mathlib.Core.Path.{◌≡◌, refl, sym, ap, ◌∙◌}
use borrow.Author.Tests.{leb-true, eqb-true, eq-eqb, ne_eqb, not-false, ltb-true}
use lib.Dec.{leb, eqb}
use lib.ListN.{length, get_or, drop, length-drop}
use lib.Seq.{get_or-drop}
use Rattle.lists.specs.First.{first_index, first_from, any}
use Rattle.lists.specs.Places.{places}
use Rattle.lists.specs.Rules.{Rule, first_rule}
use Rattle.lists.proofs.Every.{none_at, none_make}
use Rattle.lists.proofs.First.{any_first, first_passes}
use Rattle.lists.proofs.Places.{length_places, get_d_places, get_d_tab}
use Rattle.lists.proofs.Room.{length_room, room_tab, room_read}
use Rattle.lists.proofs.Rules.{Quiet, quiet, Telling, telling_places, rule_steps}
use Rattle.lists.proofs.Tests.{both_false}
use Rattle.rules.specs.Configuration.{gic_of, config_of, wrong_count, wrong_gic, fault_rules, position_rules, check, is_sound}
use Rattle.rules.specs.Limits.{highest_id, Limits}
use Rattle.rules.specs.Owners.{gic_owner, owned_of, used_at, right_owner, wrong_at, plain_rule, owned_check_rules}
use Rattle.rules.specs.Owners.{owned_check, is_owned_sound, owner_of, Owned, StoredOwned}
use Rattle.rules.specs.Regions.{region_eq, no_region, used}
use Rattle.rules.specs.Tables.{configured}
use Rattle.rules.specs.declared.Checked.{Checked}
use Rattle.rules.specs.declared.Checked.TheVariants.{Sound, BadCount, BadGic, NotZero}
use Rattle.rules.specs.declared.OwnedChecked.{OwnedChecked}
use Rattle.rules.specs.declared.OwnedChecked.TheVariants.{Plain, WrongOwner}
use Rattle.rules.specs.declared.Region.{Region}
use Rattle.rules.proofs.Configuration.{c1_faulty, c2_faulty, c3_faulty, telling_at, sound_is, sound_answer}
use Rattle.rules.proofs.Configuration.{gives_positions, passed, SoundConfiguration}
use Rattle.rules.proofs.Regions.{equal_same}
use Rattle.rules.proofs.Tables.{position_configured, one_position, gic_position}

-- ---- the test of an answer
pub owned_sound_is : is_owned_sound (Plain Sound) ≡ true
unfolding is_owned_sound
owned_sound_is = sound_is

pub owned_sound_answer : (f : OwnedChecked) → is_owned_sound f ≡ true → f ≡ Plain Sound
unfolding is_owned_sound
owned_sound_answer (Plain f) e = ap Plain (sound_answer f e)
owned_sound_answer (WrongOwner i) e = absurd (true≢false (sym e))

-- ---- no rule answers that all is sound
plain_of : OwnedChecked → Checked
plain_of (Plain f) = f
plain_of (WrongOwner i) = BadCount

plain_faulty : (f : Checked) → (f ≡ Sound → ⊥) → Plain f ≡ Plain Sound → ⊥
unfolding plain_of
plain_faulty f bad e = bad (ap plain_of e)

c7_faulty : (i : ℕ) → WrongOwner i ≡ Plain Sound → ⊥
unfolding is_owned_sound is_sound
c7_faulty i e = true≢false (sym (ap is_owned_sound e))

telling_plain : (rs : List (Rule Checked)) → Telling rs Sound → Telling (map plain_rule rs) (Plain Sound)
telling_plain [] h = tt
telling_plain (r ∷ rs) h = (plain_faulty r.0 h.0, telling_plain rs h.1)

-- the positions: what the plain check finds there
plain_first : (rs : List (Rule Checked)) → first_rule (map plain_rule rs) (Plain Sound) ≡ Plain (first_rule rs Sound)
unfolding first_rule
plain_first [] = refl
plain_first ((a, true) ∷ rs) = refl
plain_first ((a, false) ∷ rs) = plain_first rs

module _ (lim : Limits) where
  module _ (s : StoredOwned) where
    abbrev n : ℕ
    n = s.config.count

    -- the positions past the count, and those before it
    abbrev pub late : List ℕ
    late = drop n (places 0 lim.regions)

    pub late_many : length late ≡ lim.regions - n
    late_many = length-drop n (places 0 lim.regions) ∙ ap (λ (m : ℕ). m - n) (length_places 0 lim.regions)

    pub late_at : (i : ℕ) → n + i < lim.regions → get_or late i 0 ≡ n + i
    late_at i h = get_or-drop n (places 0 lim.regions) i 0 ∙ get_d_places 0 lim.regions (n + i) 0 h ∙ omega arith

    pub place_at : (i : ℕ) → i < n → get_or (places 0 n) i 0 ≡ i
    place_at i h = get_d_places 0 n i 0 h ∙ omega arith

    -- ---- the answers
    pub owned_c1 : wrong_count lim s.config ≡ true → Plain BadCount ≡ owned_check lim s
    unfolding owned_check owned_check_rules
    owned_c1 a = search rule_steps

    module _ (a : wrong_count lim s.config ≡ false) where
      pub owned_c2 : wrong_gic s.config ≡ true → Plain BadGic ≡ owned_check lim s
      unfolding owned_check owned_check_rules
      owned_c2 b = search rule_steps

      module _ (b : wrong_gic s.config ≡ false) where
        pub owned_c3 : any (used_at s) late ≡ true
            → Plain (NotZero (first_from (used_at s) (places 0 lim.regions) n)) ≡ owned_check lim s
        unfolding owned_check owned_check_rules
        owned_c3 c = search rule_steps

        module _ (c : any (used_at s) late ≡ false) where
          pub owned_c7 : any (wrong_at s) (places 0 n) ≡ true
              → WrongOwner (first_index (wrong_at s) (places 0 n)) ≡ owned_check lim s
          unfolding owned_check owned_check_rules
          owned_c7 d = search rule_steps

          owned_positions : any (wrong_at s) (places 0 n) ≡ false
              → first_rule (map plain_rule (fault_rules lim s.config)) (Plain Sound) ≡ owned_check lim s
          unfolding owned_check owned_check_rules
          owned_positions d = search rule_steps

          module _ (full : length s.config.records ≡ lim.regions) where
            -- no record past the count is used
            pub rest_free : any used (drop n s.config.records) ≡ false
            unfolding used_at
            rest_free =
                none_make used (drop n s.config.records) no_region (λ i h.
                let l : n + i < lim.regions = omega (arith, length-drop n s.config.records) in
                let m : i < length late = omega (arith, late_many) in
                let f : used_at s (n + i) ≡ false = ap (used_at s) (sym (late_at i l)) ∙ none_at (used_at s) late 0 c i m in
                ap used (get_or-drop n s.config.records i no_region)
                ∙ (both_false (used (get_or s.config.records (n + i) no_region)) _ f).0)

            -- past C3 and C7 it is the plain check
            pub owned_plain : any (wrong_at s) (places 0 n) ≡ false → owned_check lim s ≡ Plain (check lim s.config)
            owned_plain d =
                sym (owned_positions d) ∙ plain_first (fault_rules lim s.config)
                ∙ ap Plain (gives_positions lim s.config a b rest_free)

  -- ---- what is so of a configuration with owners that the check finds sound
  pub record SoundOwned (o : Owned) : Type 0 where
    pub config : SoundConfiguration lim o.config
    pub many : length o.owners ≡ length o.config.regions
    pub gic : get_or o.owners o.config.gic gic_owner ≡ gic_owner
    pub ids : (i : ℕ) → i < length o.config.regions → (i ≡ o.config.gic → ⊥)
        → get_or o.owners i gic_owner ≤ highest_id

  module _ (s : StoredOwned) (full : length s.config.records ≡ lim.regions) (e : owned_check lim s ≡ Plain Sound) where
    owned_telling : Telling (owned_check_rules lim s) (Plain Sound)
    unfolding owned_check_rules
    owned_telling = (
      plain_faulty BadCount c1_faulty,
      (
        plain_faulty BadGic c2_faulty,
        (
          plain_faulty _ (c3_faulty _),
          (
            c7_faulty _,
            telling_plain (fault_rules lim s.config)
                (telling_places (position_rules lim s.config.records) Sound (telling_at lim s.config.records) 0
                (n s)),
          ),
        ),
      ),
    )

    tests_fail : Quiet (owned_check_rules lim s)
    unfolding owned_check
    tests_fail = quiet (owned_check_rules lim s) (Plain Sound) owned_telling e

    right_at_law : (i : ℕ) → i < n s → right_owner s i ≡ true
    unfolding owned_check_rules
    right_at_law i h =
        not-false _ (ap (wrong_at s) (sym (place_at s i h))
        ∙ none_at (wrong_at s) (places 0 (n s)) 0 tests_fail.1.1.1.0 i (omega (arith, length_places 0 (n s))))

    -- the plain check finds nothing either
    pub plain_passed : check lim s.config ≡ Sound
    unfolding owned_check_rules plain_of
    plain_passed =
        let (a, (b, (c, (d, others)))) = tests_fail in
        ap plain_of (sym (owned_plain s a b c full d) ∙ e)

    plain_ok : SoundConfiguration lim (config_of s.config)
    plain_ok = passed lim s.config full plain_passed

    counted : length (config_of s.config).regions ≡ n s
    unfolding config_of
    counted = length_room (n s) no_region s.config.records

    owner_at : (i : ℕ) → i < n s → get_or (owned_of s).owners i gic_owner ≡ get_or s.owners i 0
    unfolding owned_of
    owner_at i h =
        ap (λ (ns : List ℕ). get_or ns i gic_owner) (room_tab (n s) 0 s.owners)
        ∙ get_d_tab (n s) (λ j. get_or s.owners j 0) i gic_owner h

    -- which of the two tests it is
    owner_right : (b : Bool) (i : ℕ) → eqb i s.config.gic ≡ b → right_owner s i ≡ true
        → cond b (eqb (get_or s.owners i 0) gic_owner) (leb (get_or s.owners i 0) highest_id) ≡ true
    unfolding right_owner
    owner_right b i q h =
        ap (λ (c : Bool). cond c (eqb (get_or s.owners i 0) gic_owner) (leb (get_or s.owners i 0) highest_id)) (sym q) ∙ h

    pub owned_passed : SoundOwned (owned_of s)
    unfolding owned_of config_of
    owned_passed = record {
      config = plain_ok;
      many = length_room (n s) 0 s.owners ∙ sym counted;
      gic = (
          let h : (config_of s.config).gic < length (config_of s.config).regions = plain_ok.gic in
          let g : s.config.gic < n s = omega (arith, counted) in
          owner_at s.config.gic g
          ∙ eqb-true _ _ (owner_right true s.config.gic (eq-eqb s.config.gic s.config.gic refl)
          (right_at_law s.config.gic g)));
      ids = λ i h ne.
          let l : i < n s = omega (arith, counted) in
          let f : get_or s.owners i 0 ≤ highest_id =
          leb-true _ _ (owner_right false i (ne_eqb i s.config.gic ne) (right_at_law i l)) in
          omega (arith, owner_at i l);
    }

  -- ---- the owner of a configured region is the one at its position
  module _ (o : Owned) (ok : SoundOwned o) where
    abbrev place : Region → ℕ
    place r = first_index (region_eq r) o.config.regions

    place_within : (r : Region) → configured o.config r ≡ true → place r < length o.config.regions
    unfolding configured
    place_within r e = ltb-true _ _ (sym (any_first (region_eq r) o.config.regions) ∙ e)

    place_holds : (r : Region) → configured o.config r ≡ true → r ≡ get_or o.config.regions (place r) no_region
    place_holds r e =
        equal_same r (get_or o.config.regions (place r) no_region)
        (first_passes (region_eq r) o.config.regions no_region (place_within r e))

    owner_of_law : (i : ℕ) → i < length o.config.regions
        → owner_of o (get_or o.config.regions i no_region) ≡ get_or o.owners i gic_owner
    unfolding owner_of
    owner_of_law i h =
        let r : Region = get_or o.config.regions i no_region in
        let e : configured o.config r ≡ true = position_configured lim o.config ok.config i h in
        ap (λ (j : ℕ). get_or o.owners j gic_owner)
        (one_position lim o.config ok.config (place r) i (place_within r e) h (sym (place_holds r e)))

    -- the GIC's is no id
    pub gic_owned : (r : Region) → configured o.config r ≡ true → r ≡ gic_of o.config → owner_of o r ≡ gic_owner
    unfolding owner_of
    gic_owned r e g =
        ap (λ (i : ℕ). get_or o.owners i gic_owner)
        (gic_position lim o.config ok.config (place r) (place_within r e) (sym (place_holds r e) ∙ g))
        ∙ ok.gic

  -- and so as it is stored
  pub owner_stored : (s : StoredOwned) (full : length s.config.records ≡ lim.regions)
      (e : owned_check lim s ≡ Plain Sound) (i : ℕ) → i < s.config.count
      → owner_of (owned_of s) (get_or s.config.records i no_region) ≡ get_or s.owners i 0
  unfolding owned_of config_of
  owner_stored s full e i h =
      ap (owner_of (owned_of s)) (sym (room_read s.config.count no_region s.config.records i h))
      ∙ owner_of_law (owned_of s) (owned_passed s full e) i (omega (arith, counted s full e)) ∙ owner_at s full e i h
