-- The check of a configuration with owners: what an answer says is enough for it, and something that an answer says is
-- always so; past C7 it is the plain check's.
use Prim.Native.Nat.{ℕ, ◌+◌, ◌-◌, ◌≤◌, ◌<◌}
use native.Mathlib.Decide.{ℕ_discrete}
use native.Mathlib.Omega.{arith}
use mathlib.Core.Bool.{true, false, true≢false}
use mathlib.Core.Logic.{◌⊎◌, inl, inr, ⊎_elim}
use mathlib.Core.Path.{◌≡◌, refl, sym, ap, ◌∙◌}
use borrow.Author.Tests.{ltb-true, ltb-false, leb-true, leb-false, eqb-true, eqb-false, not-false, le-leb}
use borrow.Author.Tests.{le-ltb, lt-ltb, lt-leb, eq-eqb, ne_eqb}
use lib.Dec.{ltb, eqb}
use lib.ListN.{length, get_or}
use Rattle.lists.specs.First.{first_index, first_from, any}
use Rattle.lists.specs.Places.{places}
use Rattle.lists.proofs.Every.{any_make, none_at, none_make}
use Rattle.lists.proofs.First.{any_first, any_from, first_passes, before_fails, first_is, from_passes, between_fails}
use Rattle.lists.proofs.First.{from_least, from_is}
use Rattle.lists.proofs.Lines.{exactly}
use Rattle.lists.proofs.Places.{length_places, get_d_places}
use Rattle.lists.proofs.Tests.{both_false, false_both, or_left, or_right, not_holds, holds_or_fails, true_of}
use Rattle.rules.specs.Configuration.{wrong_count, wrong_gic, check}
use Rattle.rules.specs.Limits.{Limits}
use Rattle.rules.specs.Owners.{used_at, right_owner, wrong_at, owned_check, owned_check_number, owned_check_place}
use Rattle.rules.specs.Owners.{owned_check_earlier, StoredOwned}
use Rattle.rules.specs.declared.Checked.{Checked}
use Rattle.rules.specs.declared.Checked.TheVariants.{Sound, BadCount, BadGic, NotZero, Malformed, OutOfReach, Overlap}
use Rattle.rules.specs.declared.OwnedChecked.{OwnedChecked}
use Rattle.rules.specs.declared.OwnedChecked.TheVariants.{Plain, WrongOwner}
use Rattle.rules.proofs.OwnedCheck.{late, late_many, late_at, place_at, owned_c1, owned_c2, owned_c3, owned_c7}
use Rattle.rules.proofs.OwnedCheck.{owned_plain, plain_passed, owner_stored}
use Rattle.promises.specs.Configuration.{at, RightCount, Means}
use Rattle.promises.specs.OwnedConfiguration.{Free, FreeUpTo, OwnedMeans, OwnedCheckIsExact, PassesThere}
use Rattle.promises.specs.OwnedConfiguration.{OwnerIsAtPosition, Right, OwnedOpening, AllRight, nothing, c1, c2, c3}
use Rattle.promises.specs.OwnedConfiguration.{c4, c5, c6, c7, OwnedFinds, OwnedCheckNumbersAreExact}
use Rattle.promises.proofs.Configuration.{zero_unused, unused_zero, check_is_exact}

-- ---- what the tests mean
free_unused : (s : StoredOwned) (j : ℕ) → Free s j → used_at s j ≡ false
unfolding used_at
free_unused s j (r, o) = false_both _ _ (zero_unused (at s.config j) r) (not_holds _ (eq-eqb _ 0 o))

unused_free : (s : StoredOwned) (j : ℕ) → used_at s j ≡ false → Free s j
unfolding used_at
unused_free s j e =
    let (r, o) = both_false _ _ e in
    (unused_zero (at s.config j) r, eqb-true _ _ (not-false _ o))

right_test : (s : StoredOwned) (i : ℕ) → Right s i → right_owner s i ≡ true
unfolding right_owner
right_test s i h =
    elim (ℕ_discrete i s.config.gic) [
      | yes q ↦ rw (eq-eqb i s.config.gic q) (eq-eqb _ _ (h.gic q))
      | no ne ↦ rw (ne_eqb i s.config.gic ne) (le-leb _ _ (h.id ne))
    ]

test_right : (s : StoredOwned) (i : ℕ) → right_owner s i ≡ true → Right s i
unfolding right_owner
test_right s i e = record {
  gic = λ q. eqb-true _ _ (rw (eq-eqb i s.config.gic q) at e);
  id = λ ne. leb-true _ _ (rw (ne_eqb i s.config.gic ne) at e);
}

module _ (lim : Limits) where
  module _ (s : StoredOwned) where
    abbrev n : ℕ
    n = s.config.count

    right_count : RightCount lim s.config → wrong_count lim s.config ≡ false
    right_count h = false_both _ _ (ne_eqb n 0 (λ e. omega arith)) (le-ltb lim.regions n (omega arith))

    count_right : wrong_count lim s.config ≡ false → RightCount lim s.config
    count_right e =
        let (z, m) = both_false (eqb n 0) (ltb lim.regions n) e in
        let ne : n ≡ 0 → ⊥ = eqb-false _ _ z in
        (omega arith, ltb-false _ _ m)

    -- C3: past the count
    all_free : FreeUpTo s lim.regions → any (used_at s) (late lim s) ≡ false
    all_free f =
        none_make (used_at s) (late lim s) 0 (λ i h.
        let l : n + i < lim.regions = omega (arith, late_many lim s) in
        ap (used_at s) (late_at lim s i l) ∙ free_unused s (n + i) (f (n + i) (omega arith) l))

    -- C7: below the count
    no_wrong : ((i : ℕ) → i < n → Right s i) → any (wrong_at s) (places 0 n) ≡ false
    no_wrong f =
        none_make (wrong_at s) (places 0 n) 0 (λ i h.
        let l : i < n = omega (arith, length_places 0 n) in
        ap (wrong_at s) (place_at lim s i l) ∙ not_holds _ (right_test s i (f i l)))

    all_places : (i : ℕ) → i < lim.regions → get_or (places 0 lim.regions) i 0 ≡ i
    all_places i h = get_d_places 0 lim.regions i 0 h ∙ omega arith

    -- ---- what an answer says is enough for it
    module _ (full : length s.config.records ≡ lim.regions) where
      from_rest : (f : Checked) → AllRight lim s → Means lim s.config f → owned_check lim s ≡ Plain f
      from_rest f r m =
          owned_plain lim s (right_count r.opening.count) (lt-leb _ _ r.opening.gic)
          (all_free r.opening.rest) full (no_wrong r.owners)
          ∙ ap Plain ((check_is_exact lim s.config full f).1 m)

      from_means : (f : OwnedChecked) → OwnedMeans lim s f → owned_check lim s ≡ f
      from_means (Plain Sound) (r, m) = from_rest Sound r m
      from_means (Plain BadCount) (inl z) = sym (owned_c1 lim s (or_left _ _ (eq-eqb n 0 z)))
      from_means (Plain BadCount) (inr m) =
          sym (owned_c1 lim s (or_right (eqb n 0) _ (lt-ltb lim.regions n m)))
      from_means (Plain BadGic) (c, g) = sym (owned_c2 lim s (right_count c) (le-leb _ _ g))
      from_means (Plain (NotZero k)) (c, g, low, high, ne, f) =
          let used : used_at s k ≡ true = true_of _ (λ e. ne (unused_free s k e)) in
          let all = places 0 lim.regions in
          let first : first_from (used_at s) all n ≡ k =
          from_is (used_at s) all 0 n k low (omega (arith, length_places 0 lim.regions))
          (ap (used_at s) (all_places k high) ∙ used)
          (λ j a b. ap (used_at s) (all_places j (omega arith)) ∙ free_unused s j (f j a b)) in
          let inside : first_from (used_at s) all n < length all = omega (arith, length_places 0 lim.regions) in
          let found : any (used_at s) (late lim s) ≡ true =
          any_from (used_at s) all n (omega (arith, length_places 0 lim.regions)) ∙ lt-ltb _ _ inside in
          sym (owned_c3 lim s (right_count c) (lt-leb _ _ g) found) ∙ ap (λ (j : ℕ). Plain (NotZero j)) first
      from_means (Plain (Malformed i)) (r, m) = from_rest (Malformed i) r m
      from_means (Plain (OutOfReach i)) (r, m) = from_rest (OutOfReach i) r m
      from_means (Plain (Overlap i k)) (r, m) = from_rest (Overlap i k) r m
      from_means (WrongOwner i) (o, l, wrong, earlier) =
          let here : wrong_at s (get_or (places 0 n) i 0) ≡ true =
          ap (wrong_at s) (place_at lim s i l) ∙ true_of _ (λ e. wrong (test_right s i (not-false _ e))) in
          let m : i < length (places 0 n) = omega (arith, length_places 0 n) in
          let first : first_index (wrong_at s) (places 0 n) ≡ i =
          first_is (wrong_at s) (places 0 n) 0 i m here
          (λ j h. ap (wrong_at s) (place_at lim s j (omega arith)) ∙ not_holds _ (right_test s j (earlier j h))) in
          sym (owned_c7 lim s (right_count o.count) (lt-leb _ _ o.gic) (all_free o.rest)
          (any_make (wrong_at s) (places 0 n) 0 i m here)) ∙ ap WrongOwner first

      -- ---- something that an answer says is always so
      module _ (c : RightCount lim s.config) (g : s.config.gic < n) where
        some_used : any (used_at s) (late lim s) ≡ true → (f : OwnedChecked) × OwnedMeans lim s f
        some_used e =
            let all = places 0 lim.regions in
            let long = length_places 0 lim.regions in
            let k : ℕ = first_from (used_at s) all n in
            let inside : k < length all = ltb-true _ _ (sym (any_from (used_at s) all n (omega (arith, long))) ∙ e) in
            let high : k < lim.regions = omega (arith, long) in
            let low : n ≤ k = from_least (used_at s) all 0 n in (
              Plain (NotZero k),
              (
                c,
                g,
                low,
                high,
                (λ h. true≢false
                    (sym (ap (used_at s) (sym (all_places k high)) ∙ from_passes (used_at s) all 0 n inside)
                    ∙ free_unused s k h)),
                (λ j a b. unused_free s j
                    (ap (used_at s) (sym (all_places j (omega arith))) ∙ between_fails (used_at s) all 0 n j a b)),
              ),
            )

        module _ (free : any (used_at s) (late lim s) ≡ false) where
          opened : OwnedOpening lim s
          opened = record {
            count = c;
            gic = g;
            rest = λ j low high.
                let q : n + (j - n) ≡ j = omega arith in
                unused_free s j
                (ap (used_at s) (sym q ∙ sym (late_at lim s (j - n) (omega arith)))
                ∙ none_at (used_at s) (late lim s) 0 free (j - n) (omega (arith, late_many lim s)));
          }

          some_wrong : any (wrong_at s) (places 0 n) ≡ true → (f : OwnedChecked) × OwnedMeans lim s f
          some_wrong e =
              let i : ℕ = first_index (wrong_at s) (places 0 n) in
              let h : i < length (places 0 n) = ltb-true _ _ (sym (any_first (wrong_at s) (places 0 n)) ∙ e) in
              let l : i < n = omega (arith, length_places 0 n) in (
                WrongOwner i,
                (
                  opened,
                  l,
                  (λ r. true≢false
                      (sym (ap (wrong_at s) (sym (place_at lim s i l)) ∙ first_passes (wrong_at s) (places 0 n) 0 h)
                      ∙ not_holds _ (right_test s i r))),
                  (λ j m. test_right s j
                      (not-false _ (ap (wrong_at s) (sym (place_at lim s j (omega arith)))
                      ∙ before_fails (wrong_at s) (places 0 n) 0 j m))),
                ),
              )

          rest_means : any (wrong_at s) (places 0 n) ≡ false → (f : Checked) → Means lim s.config f
              → OwnedMeans lim s (Plain f)
          rest_means none = by
            where
              right : AllRight lim s
              right = record {
                opening = opened;
                owners = λ i h. test_right s i
                    (not-false _ (ap (wrong_at s) (sym (place_at lim s i h))
                    ∙ none_at (wrong_at s) (places 0 n) 0 none i (omega (arith, length_places 0 n))));
              }

              by : (f : Checked) → Means lim s.config f → OwnedMeans lim s (Plain f)
              by Sound m = (right, m)
              by BadCount m = m
              by BadGic m = m
              by (NotZero k) (a, b, low, high, ne, z) =
                  absurd (ne (right.opening.rest k low high).0)
              by (Malformed i) m = (right, m)
              by (OutOfReach i) m = (right, m)
              by (Overlap i k) m = (right, m)

          some_rest : (f : OwnedChecked) × OwnedMeans lim s f
          some_rest =
              ⊎_elim some_wrong
              (λ none. (
                Plain (check lim s.config),
                rest_means none (check lim s.config)
                    ((check_is_exact lim s.config full (check lim s.config)).0 refl),
              ))
              (holds_or_fails (any (wrong_at s) (places 0 n)))

        past_gic : (f : OwnedChecked) × OwnedMeans lim s f
        past_gic = ⊎_elim some_used some_rest (holds_or_fails (any (used_at s) (late lim s)))

      some_answer : (f : OwnedChecked) × OwnedMeans lim s f
      some_answer =
          ⊎_elim (λ e. (Plain BadCount, bad_count e))
          (λ e. ⊎_elim (λ g. (Plain BadGic, (count_right e, leb-true _ _ g)))
          (λ g. past_gic (count_right e) (leb-false _ _ g)) (holds_or_fails (wrong_gic s.config)))
          (holds_or_fails (wrong_count lim s.config))
        where
          bad_count : wrong_count lim s.config ≡ true → (n ≡ 0) ⊎ (lim.regions < n)
          bad_count e =
              elim (ℕ_discrete n 0) [
                | yes z ↦ inl z
                | no ne ↦ inr (ltb-true _ _ (rw (ne_eqb n 0 ne) at e))
              ]

  pub owned_check_is_exact : OwnedCheckIsExact lim
  owned_check_is_exact s full =
      exactly (owned_check lim s) (OwnedMeans lim s) (some_answer s full) (from_means s full)

  -- ---- in numbers
  finds : (s : StoredOwned) (f : OwnedChecked) → OwnedMeans lim s f
      → OwnedFinds lim s (owned_check_number f) (owned_check_place f) (owned_check_earlier f)
  finds s (Plain Sound) h = nothing h
  finds s (Plain BadCount) h = c1 h
  finds s (Plain BadGic) h = c2 h
  finds s (Plain (NotZero k)) h = c3 k h
  finds s (Plain (Malformed i)) h = c4 i h
  finds s (Plain (OutOfReach i)) h = c5 i h
  finds s (Plain (Overlap i k)) h = c6 i k h
  finds s (WrongOwner i) h = c7 i h

  pub owned_check_numbers_are_exact : OwnedCheckNumbersAreExact lim
  owned_check_numbers_are_exact s full n i k = (
    (λ (a, b, c). rw (← a, ← b, ← c)
        (finds s (owned_check lim s) ((owned_check_is_exact s full (owned_check lim s)).0 refl))),
    by n i k,
  )
    where
      Told : ℕ → ℕ → ℕ → Type 0
      Told n i k =
          (owned_check_number (owned_check lim s) ≡ n) × (owned_check_place (owned_check lim s) ≡ i)
          × (owned_check_earlier (owned_check lim s) ≡ k)

      is : (f : OwnedChecked) → OwnedMeans lim s f → Told (owned_check_number f) (owned_check_place f) (owned_check_earlier f)
      is f h =
          let e : owned_check lim s ≡ f = (owned_check_is_exact s full f).1 h in
          (ap owned_check_number e, ap owned_check_place e, ap owned_check_earlier e)

      by : (n i k : ℕ) → OwnedFinds lim s n i k → Told n i k
      by n i k (nothing h) = is (Plain Sound) h
      by n i k (c1 h) = is (Plain BadCount) h
      by n i k (c2 h) = is (Plain BadGic) h
      by n i k (c3 j h) = is (Plain (NotZero j)) h
      by n i k (c4 j h) = is (Plain (Malformed j)) h
      by n i k (c5 j h) = is (Plain (OutOfReach j)) h
      by n i k (c6 j m h) = is (Plain (Overlap j m)) h
      by n i k (c7 j h) = is (WrongOwner j) h

  pub passes_there : PassesThere lim
  passes_there s (full, long, e) = (full, plain_passed lim s full e)

  pub owner_is_at_position : OwnerIsAtPosition lim
  owner_is_at_position s (full, long, e) i h = owner_stored lim s full e i h
