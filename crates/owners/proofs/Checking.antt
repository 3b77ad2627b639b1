-- The check with owners from the first machine's: past C1 and C2, C3 is the lower of the first used record and the first
-- used owner past the count, C7 the first wrong owner before it, and where neither is, all is as the first finds it.
use Prim.Native.Nat.{ℕ, zero, suc, ◌+◌, ◌≤◌, ◌<◌}
use native.Mathlib.Decide.{dec_lt}
use native.Mathlib.Omega.{arith}
use mathlib.Core.Bool.{Bool, true, false, cond, not, true≢false}
use mathlib.Core.List.{List, flat_map}
use mathlib.Core.Logic.{◌⊎◌, inl, inr}
use mathlib.Core.Path.{◌≡◌, refl, sym, ap, ◌∙◌}
use borrow.Author.Tests.{eqb-true, ltb-true, ltb-false, leb-false, lt-ltb, le-ltb, le-leb, lt-leb, ne_eqb}
use lib.Dec.{ltb, eqb}
use lib.ListN.{length, get_or, take, drop, length-drop}
use Rattle.std.specs.Prelude.{Option, Some, None}
use Rattle.std.proofs.lemmas.Option.{none-some, same_Some}
use Rattle.lists.specs.First.{first_index, first_from, any}
use Rattle.lists.specs.Places.{places}
use Rattle.lists.specs.Rules.{first_rule}
use Rattle.lists.proofs.Every.{any_make, none_make}
use Rattle.lists.proofs.First.{first_is, first_within, from_passes, between_fails, from_least, from_is, any_from}
use Rattle.lists.proofs.Places.{length_places, get_d_places, length_tab}
use Rattle.lists.proofs.Tests.{both_false, false_both, or_left, or_right, holds_or_fails, whole}
use Rattle.rules.specs.Configuration.{wrong_count, wrong_gic, position_rules, check, is_sound, check_number, check_place}
use Rattle.rules.specs.Limits.{most_regions, limits, Limits}
use Rattle.rules.specs.Owners.{used_at, wrong_at, owned_check, is_owned_sound}
use Rattle.rules.specs.Regions.{well_formed, in_reach, phys_overlap, no_region, used}
use Rattle.rules.specs.declared.Checked.{Checked}
use Rattle.rules.specs.declared.Checked.TheVariants.{Sound, NotZero, Malformed, OutOfReach, Overlap}
use Rattle.rules.specs.declared.OwnedChecked.TheVariants.{Plain, WrongOwner}
use Rattle.rules.specs.declared.Region.{Region}
use Rattle.rules.proofs.Configuration.{gives_c1, gives_c2, gives_c3, gives_positions}
use Rattle.rules.proofs.OwnedCheck.{late, late_many, late_at, place_at, owned_c1, owned_c2, owned_c3, owned_c7, owned_plain}
use Rattle.zones.specs.Layout.{config_count, config_gic, config_records}
use Rattle.zones.specs.Records.{record_at, records_at}
use Rattle.zones.specs.View.{all_records, stored_config}
use Rattle.owners.specs.Fitting.{in_range, fits_at, unfit_at, owners_fit, first_unfit, first_wrong, used_record, below, Ranged}
use Rattle.owners.specs.View.{stored_owned}
use Rattle.owners.proofs.Fitting.{found_below, none_below, range_parts, fits_past, fits_below, unfit_from, unfit_there}
use Rattle.owners.proofs.Fitting.{fit_between, fit_range, fit_at, fit_make}

-- ---- C1 and C2 are the first machine's
module _ (c o : List ℕ) where
  in_range_law : wrong_count limits (stored_config c) ≡ false → wrong_gic (stored_config c) ≡ false → in_range c ≡ true
  unfolding in_range
  in_range_law a b =
      whole _ (
        le-leb (get_or c config_count 0) most_regions
            (ltb-false most_regions (get_or c config_count 0) (both_false (eqb (get_or c config_count 0) 0) _ a).1),
        (
          lt-ltb (get_or c config_gic 0) (get_or c config_count 0) (leb-false (get_or c config_count 0) (get_or c config_gic 0) b),
          tt,
        ),
      )

  early : in_range c ≡ false
      → (Plain (check limits (stored_config c)) ≡ owned_check limits (stored_owned c o))
      × (is_sound (check limits (stored_config c)) ≡ false)
  unfolding is_sound
  early f = by (wrong_count limits (stored_config c)) (wrong_gic (stored_config c)) refl refl
    where
      by : (a b : Bool) → wrong_count limits (stored_config c) ≡ a → wrong_gic (stored_config c) ≡ b
          → (Plain (check limits (stored_config c)) ≡ owned_check limits (stored_owned c o))
          × (is_sound (check limits (stored_config c)) ≡ false)
      by true b ea eb = (
        ap Plain (sym (gives_c1 limits (stored_config c) ea)) ∙ owned_c1 limits (stored_owned c o) ea,
        ap is_sound (sym (gives_c1 limits (stored_config c) ea)),
      )
      by false true ea eb = (
        ap Plain (sym (gives_c2 limits (stored_config c) ea eb)) ∙ owned_c2 limits (stored_owned c o) ea eb,
        ap is_sound (sym (gives_c2 limits (stored_config c) ea eb)),
      )
      by false false ea eb = absurd (true≢false (sym (in_range_law ea eb) ∙ f))

  pub early_plain : (f : Checked) → in_range c ≡ false → f ≡ check limits (stored_config c)
      → Plain f ≡ owned_check limits (stored_owned c o)
  early_plain f e h = ap Plain h ∙ (early e).0

-- ---- C3 of a record is told by its number
-- at the positions nothing gives that number
positions_late : (lim : Limits) (records : List Region) (k n : ℕ)
    → check_number (first_rule (flat_map (position_rules lim records) (places k n)) Sound) ≡ 3 → ⊥
unfolding flat_map places first_rule position_rules
positions_late lim records k zero e = omega arith
positions_late lim records k (suc n) e =
    by (not (well_formed lim.page (get_or records k no_region))) (not (in_reach lim (get_or records k no_region)))
    (any (phys_overlap (get_or records k no_region)) (take k records))
    (first_index (phys_overlap (get_or records k no_region)) (take k records))
    (first_rule (flat_map (position_rules lim records) (places (suc k) n)) Sound) (positions_late lim records (suc k) n) e
  where
    by : (x y z : Bool) (j : ℕ) (rest : Checked) → (check_number rest ≡ 3 → ⊥)
        → check_number (cond x (Malformed k) (cond y (OutOfReach k) (cond z (Overlap k j) rest))) ≡ 3 → ⊥
    by true y z j rest f e = omega arith
    by false true z j rest f e = omega arith
    by false false true j rest f e = omega arith
    by false false false j rest f e = f e

-- the place of C3, or the number of records
unfoldable pub record_or_end : Checked → ℕ
record_or_end f = cond (eqb (check_number f) 3) (check_place f) most_regions

no_record : (f : Checked) → (check_number f ≡ 3 → ⊥) → most_regions ≡ record_or_end f
unfolding record_or_end
no_record f ne = sym (ap (λ (b : Bool). cond b (check_place f) most_regions) (ne_eqb (check_number f) 3 ne))

module _ (f : Checked) (o : Option ℕ) (e : o ≡ used_record f) where
  pub record_there : (k : ℕ) → o ≡ Some k → (k ≡ record_or_end f) × (check_number f ≡ 3)
  unfolding used_record record_or_end
  record_there k h = by (eqb (check_number f) 3) refl (sym h ∙ e)
    where
      by : (b : Bool) → eqb (check_number f) 3 ≡ b → Some k ≡ cond b (Some (check_place f)) None
          → (k ≡ cond b (check_place f) most_regions) × (check_number f ≡ 3)
      by true q g = (same_Some _ _ g, eqb-true _ _ q)
      by false q g = absurd (none-some k (sym g))

  pub record_nowhere : o ≡ None → most_regions ≡ record_or_end f
  unfolding used_record record_or_end
  record_nowhere h = by (eqb (check_number f) 3) (sym h ∙ e)
    where
      by : (b : Bool) → None ≡ cond b (Some (check_place f)) None → most_regions ≡ cond b (check_place f) most_regions
      by true g = absurd (none-some _ g)
      by false g = refl

-- ---- past C1 and C2
module _ (c o : List ℕ) (e : Ranged c) where
  abbrev n : ℕ
  n = get_or c config_count 0

  few : n ≤ most_regions
  few = e.count

  count_right : wrong_count limits (stored_config c) ≡ false
  count_right =
      let g : get_or c config_gic 0 < n = e.gic in
      false_both _ _ (ne_eqb n 0 (λ z. omega arith)) (le-ltb _ _ few)

  gic_right : wrong_gic (stored_config c) ≡ false
  gic_right = lt-leb _ _ e.gic

  long : length (all_records c) ≡ most_regions
  unfolding records_at
  long = length_tab most_regions (record_at c config_records)

  -- the first used record past the count, or the number of records
  abbrev used_from : ℕ
  used_from = first_from used (all_records c) n

  used_some : any used (drop n (all_records c)) ≡ true → check limits (stored_config c) ≡ NotZero used_from
  used_some h = sym (gives_c3 limits (stored_config c) count_right gic_right h)

  used_within : used_from ≤ most_regions
  unfolding first_from
  used_within = omega (arith, first_within used (drop n (all_records c)), length-drop n (all_records c), long, few)

  used_any : any used (drop n (all_records c)) ≡ ltb used_from most_regions
  used_any = any_from used (all_records c) n (omega (arith, long, few)) ∙ ap (ltb used_from) long

  record_first : (f : Checked) (r : ℕ) → f ≡ check limits (stored_config c) → r ≡ record_or_end f → r ≡ used_from
  unfolding record_or_end
  record_first f r g h = h ∙ ap record_or_end g ∙ by (holds_or_fails (any used (drop n (all_records c))))
    where
      by : (any used (drop n (all_records c)) ≡ true) ⊎ (any used (drop n (all_records c)) ≡ false)
          → record_or_end (check limits (stored_config c)) ≡ used_from
      by (inl u) = ap record_or_end (used_some u)
      by (inr u) =
          let l : most_regions ≤ used_from = ltb-false _ _ (sym used_any ∙ u) in
          let q : most_regions ≡ used_from = omega (arith, used_within) in
          sym (no_record (check limits (stored_config c))
          (λ z. positions_late limits (all_records c) 0 n
          (ap check_number (gives_positions limits (stored_config c) count_right gic_right u) ∙ z)))
          ∙ q

  record_bound : (f : Checked) → f ≡ check limits (stored_config c) → check_number f ≡ 3 → used_from < most_regions
  record_bound f g h = by (holds_or_fails (any used (drop n (all_records c))))
    where
      by : (any used (drop n (all_records c)) ≡ true) ⊎ (any used (drop n (all_records c)) ≡ false)
          → used_from < most_regions
      by (inl u) = ltb-true _ _ (sym used_any ∙ u)
      by (inr u) = absurd
          (positions_late limits (all_records c) 0 n
          (ap check_number (gives_positions limits (stored_config c) count_right gic_right u) ∙ ap check_number (sym g) ∙ h))

  -- a position past the count where the record or the owner is used, and none before it where either is
  module _ (k : ℕ) (h : n ≤ k) (l : k < most_regions) (hit : used_at (stored_owned c o) k ≡ true)
      (free : (j : ℕ) → n ≤ j → j < k → used_at (stored_owned c o) j ≡ false) where
    position : (j : ℕ) → j < most_regions → get_or (places 0 most_regions) j 0 ≡ j
    position j m = let z : 0 + j ≡ j = omega arith in get_d_places 0 most_regions j 0 m ∙ z

    first_place : first_from (used_at (stored_owned c o)) (places 0 most_regions) n ≡ k
    first_place =
        from_is (used_at (stored_owned c o)) (places 0 most_regions) 0 n k h (omega (arith, length_places 0 most_regions))
        (ap (used_at (stored_owned c o)) (position k l) ∙ hit)
        (λ j a b. ap (used_at (stored_owned c o)) (position j (omega arith)) ∙ free j a b)

    c3_at : Plain (NotZero k) ≡ owned_check limits (stored_owned c o)
    c3_at =
        ap (λ (j : ℕ). Plain (NotZero j)) (sym first_place)
        ∙ owned_c3 limits (stored_owned c o) count_right gic_right
        (any_from (used_at (stored_owned c o)) (places 0 most_regions) n (omega (arith, length_places 0 most_regions, few))
        ∙ lt-ltb (first_from (used_at (stored_owned c o)) (places 0 most_regions) n) (length (places 0 most_regions))
        (omega (arith, first_place, length_places 0 most_regions)))

  -- an owner past the count is used where it does not fit
  record_used : (j : ℕ) → used (get_or (all_records c) j no_region) ≡ true → used_at (stored_owned c o) j ≡ true
  unfolding used_at
  record_used j u = or_left (used (get_or (all_records c) j no_region)) (not (eqb (get_or o j 0) 0)) u

  owner_used : (j : ℕ) → n ≤ j → fits_at (stored_owned c o) j ≡ false → used_at (stored_owned c o) j ≡ true
  unfolding used_at
  owner_used j h u =
      or_right (used (get_or (all_records c) j no_region)) (not (eqb (get_or o j 0) 0)) (ap not (fits_past c o j h ∙ u))

  both_free : (j : ℕ) → n ≤ j → used (get_or (all_records c) j no_region) ≡ false → fits_at (stored_owned c o) j ≡ true
      → used_at (stored_owned c o) j ≡ false
  unfolding used_at
  both_free j h u v =
      false_both (used (get_or (all_records c) j no_region)) (not (eqb (get_or o j 0) 0)) u (ap not (fits_past c o j h ∙ v))

  -- ---- what each return answers: r is the first used record, w the first owner past the count that does not fit
  module _ (f : Checked) (r w : ℕ) (ef : f ≡ check limits (stored_config c)) (er : r ≡ record_or_end f)
      (ew : w ≡ unfit_from c o n) where
    first_record : r ≡ used_from
    first_record = record_first f r ef er

    record_free : (j : ℕ) → n ≤ j → j < r → used (get_or (all_records c) j no_region) ≡ false
    record_free j h l = between_fails used (all_records c) no_region n j h (omega (arith, first_record))

    owner_late : n ≤ w
    owner_late = omega (arith, ew, from_least (unfit_at (stored_owned c o)) (places 0 most_regions) 0 n)

    pub owner_first : w < r → Plain (NotZero w) ≡ owned_check limits (stored_owned c o)
    owner_first l =
        let m : w < most_regions = omega (arith, first_record, used_within) in
        c3_at w owner_late m (owner_used w owner_late (unfit_there c o n w ew m))
        (λ j a b. both_free j a (record_free j a (omega arith)) (fit_between c o n w ew j a b (omega arith)))

    pub record_is : r < most_regions → f ≡ NotZero r
    record_is l =
        ef ∙ used_some (used_any ∙ lt-ltb used_from most_regions (omega (arith, first_record))) ∙ ap NotZero (sym first_record)

    pub plain_record : r ≤ w → r < most_regions → Plain f ≡ owned_check limits (stored_owned c o)
    plain_record l m =
        let a : n ≤ r = omega (arith, first_record, from_least used (all_records c) no_region n) in
        ap Plain (record_is m)
        ∙ c3_at r a m
        (record_used r (ap (λ (j : ℕ). used (get_or (all_records c) j no_region)) first_record
        ∙ from_passes used (all_records c) no_region n (omega (arith, first_record, long))))
        (λ j b d. both_free j b (record_free j b d) (fit_between c o n w ew j b (omega arith) (omega arith)))

    -- nothing is used past the count
    module _ (l : r ≤ w) (m : most_regions ≤ r) where
      none_late : any (used_at (stored_owned c o)) (late limits (stored_owned c o)) ≡ false
      none_late =
          none_make (used_at (stored_owned c o)) (late limits (stored_owned c o)) 0
          (λ i h.
          let a : n + i < most_regions = omega (arith, late_many limits (stored_owned c o)) in
          ap (used_at (stored_owned c o)) (late_at limits (stored_owned c o) i a)
          ∙ both_free (n + i) (omega arith) (record_free (n + i) (omega arith) (omega arith))
          (fit_between c o n w ew (n + i) (omega arith) (omega arith) a))

      module _ (v : ℕ) (ev : v ≡ unfit_from c o 0) where
        right_before : (j : ℕ) → j < v → j < n → wrong_at (stored_owned c o) j ≡ false
        right_before j a b =
            ap not (fits_below c o j b ∙ fit_between c o 0 v ev j (omega arith) a (omega (arith, few)))

        pub wrong_owner : v < n → WrongOwner v ≡ owned_check limits (stored_owned c o)
        wrong_owner h =
            let hit : wrong_at (stored_owned c o) v ≡ true =
            ap not (fits_below c o v h ∙ unfit_there c o 0 v ev (omega (arith, few))) in
            let there : wrong_at (stored_owned c o) (get_or (places 0 n) v 0) ≡ true =
            ap (wrong_at (stored_owned c o)) (place_at limits (stored_owned c o) v h) ∙ hit in
            let q : first_index (wrong_at (stored_owned c o)) (places 0 n) ≡ v =
            first_is (wrong_at (stored_owned c o)) (places 0 n) 0 v (omega (arith, length_places 0 n)) there
            (λ j a. ap (wrong_at (stored_owned c o)) (place_at limits (stored_owned c o) j (omega arith))
            ∙ right_before j a (omega arith)) in
            ap WrongOwner (sym q)
            ∙ owned_c7 limits (stored_owned c o) count_right gic_right none_late
            (any_make (wrong_at (stored_owned c o)) (places 0 n) 0 v (omega (arith, length_places 0 n)) there)

        pub plain_right : n ≤ v → Plain f ≡ owned_check limits (stored_owned c o)
        plain_right h =
            ap Plain ef
            ∙ sym (owned_plain limits (stored_owned c o) count_right gic_right none_late long
            (none_make (wrong_at (stored_owned c o)) (places 0 n) 0
            (λ i b. let a : i < n = omega (arith, length_places 0 n) in
            ap (wrong_at (stored_owned c o)) (place_at limits (stored_owned c o) i a) ∙ right_before i (omega arith) a)))

-- ---- by what is looked for: the first owner past the count that does not fit, and the record of C3
module _ (c o : List ℕ) (e : Ranged c) (f : Checked) (ef : f ≡ check limits (stored_config c)) (own rec : Option ℕ) (m : ℕ)
    (em : m ≡ get_or c config_count 0) (ew : own ≡ first_unfit c o m) (er : rec ≡ used_record f) where
  abbrev own_first : ℕ
  own_first = unfit_from c o (get_or c config_count 0)

  own_is : own ≡ below most_regions own_first
  unfolding first_unfit
  own_is = ew ∙ ap (λ (k : ℕ). below most_regions (unfit_from c o k)) em

  record_within : (k : ℕ) → rec ≡ Some k → k < most_regions
  record_within k h =
      omega (
        arith,
        record_first c o e f k ef (record_there f rec er k h).0,
        record_bound c o e f ef (record_there f rec er k h).1,
      )

  pub owner_only : (k : ℕ) → own ≡ Some k → rec ≡ None → Plain (NotZero k) ≡ owned_check limits (stored_owned c o)
  owner_only k h g =
      let there = found_below most_regions own_first own own_is k h in
      owner_first c o e f most_regions k ef (record_nowhere f rec er g) there.0 there.1

  pub owner_before : (k j : ℕ) → own ≡ Some k → rec ≡ Some j → k < j
      → Plain (NotZero k) ≡ owned_check limits (stored_owned c o)
  owner_before k j h g l =
      owner_first c o e f j k ef (record_there f rec er j g).0 (found_below most_regions own_first own own_is k h).0 l

  pub record_before : (k j : ℕ) → own ≡ Some k → rec ≡ Some j → j ≤ k → Plain f ≡ owned_check limits (stored_owned c o)
  record_before k j h g l =
      plain_record c o e f j k ef (record_there f rec er j g).0 (found_below most_regions own_first own own_is k h).0 l
      (record_within j g)

  pub record_only : (j : ℕ) → own ≡ None → rec ≡ Some j → Plain f ≡ owned_check limits (stored_owned c o)
  record_only j h g =
      let none_near : most_regions ≤ own_first = none_below most_regions own_first own own_is h in
      let l : j < most_regions = record_within j g in
      plain_record c o e f j own_first ef (record_there f rec er j g).0 refl (omega arith) l

  module _ (h : own ≡ None) (g : rec ≡ None) (all : Option ℕ) (ea : all ≡ first_wrong c o) where
    none_near : most_regions ≤ own_first
    none_near = none_below most_regions own_first own own_is h

    all_is : all ≡ below (get_or c config_count 0) (unfit_from c o 0)
    unfolding first_wrong
    all_is = ea

    pub wrong_told : (v : ℕ) → all ≡ Some v → WrongOwner v ≡ owned_check limits (stored_owned c o)
    wrong_told v q =
        let there = found_below (get_or c config_count 0) (unfit_from c o 0) all all_is v q in
        wrong_owner c o e f most_regions own_first ef (record_nowhere f rec er g) refl none_near (omega arith) v there.0 there.1

    pub none_wrong : all ≡ None → Plain f ≡ owned_check limits (stored_owned c o)
    none_wrong q =
        plain_right c o e f most_regions own_first ef (record_nowhere f rec er g) refl none_near (omega arith) (unfit_from c o 0) refl
        (none_below (get_or c config_count 0) (unfit_from c o 0) all all_is q)

-- ---- owners that fit leave the first machine's check as it is, and others are a fault
module _ (c o : List ℕ) where
  abbrev found : Checked
  found = check limits (stored_config c)

  abbrev count : ℕ
  count = get_or c config_count 0

  -- the first used record, the first owner past the count that does not fit, the first of all
  abbrev r : ℕ
  r = record_or_end found

  abbrev w : ℕ
  w = unfit_from c o count

  abbrev v : ℕ
  v = unfit_from c o 0

  pub fit_plain : owners_fit c o ≡ true → owned_check limits (stored_owned c o) ≡ Plain (check limits (stored_config c))
  fit_plain e =
      sym (elim (dec_lt r most_regions) [
        | yes m ↦ plain_record c o g found r w refl refl refl (omega (arith, none_unfit count)) m
        | no m ↦
            plain_right c o g found r w refl refl refl (omega (arith, few_used, none_unfit count)) (omega arith) v refl
            (omega (arith, g.count, none_unfit 0))
      ])
    where
      g : Ranged c
      g = fit_range c o e

      none_unfit : (k : ℕ) → most_regions ≤ unfit_from c o k
      none_unfit k =
          elim (dec_lt (unfit_from c o k) most_regions) [
            | yes a ↦ absurd
                (true≢false (sym (fit_at c o e (unfit_from c o k) a) ∙ unfit_there c o k (unfit_from c o k) refl a))
            | no a ↦ omega arith
          ]

      few_used : r ≤ most_regions
      few_used = omega (arith, record_first c o g found r refl refl, used_within c o g)

  pub unfit_fault : owners_fit c o ≡ false → is_owned_sound (owned_check limits (stored_owned c o)) ≡ false
  unfolding is_owned_sound is_sound
  unfit_fault f = by (holds_or_fails (in_range c))
    where
      by : (in_range c ≡ true) ⊎ (in_range c ≡ false) → is_owned_sound (owned_check limits (stored_owned c o)) ≡ false
      by (inr g) = ap is_owned_sound (sym (early c o g).0) ∙ (early c o g).1
      by (inl h) =
          let g : Ranged c = range_parts c h in
          elim (dec_lt w r) [
            | yes a ↦ ap is_owned_sound (sym (owner_first c o g found r w refl refl refl a))
            | no a ↦ elim (dec_lt r most_regions) [
              | yes b ↦ ap is_owned_sound (sym (plain_record c o g found r w refl refl refl (omega arith) b))
                  ∙ ap is_sound (record_is c o g found r w refl refl refl b)
              | no b ↦ elim (dec_lt v count) [
                | yes d ↦ ap is_owned_sound
                    (sym (wrong_owner c o g found r w refl refl refl (omega arith) (omega arith) v refl d))
                | no d ↦ absurd
                    (true≢false (sym (fit_make c o h (λ i l. fits i l (omega arith) (omega arith))) ∙ f))
              ]
            ]
          ]
        where
          fits : (i : ℕ) → i < most_regions → most_regions ≤ w → count ≤ v → fits_at (stored_owned c o) i ≡ true
          fits i h a b =
              elim (dec_lt i count) [
                | yes q ↦ fit_between c o 0 v refl i (omega arith) (omega arith) h
                | no q ↦ fit_between c o count w refl i (omega arith) (omega arith) h
              ]
