-- The owner at a position, and the loop that looks for the first that does not fit: what is left gives the whole answer.
use Prim.Native.Nat.{ℕ, ◌+◌, ◌≤◌, ◌<◌}
use native.Mathlib.Decide.{dec_lt}
use native.Mathlib.Omega.{arith}
use mathlib.Core.Bool.{Bool, true, false, cond, not, true≢false}
use mathlib.Core.List.{List}
use mathlib.Core.Path.{◌≡◌, refl, sym, ap, ◌∙◌}
use borrow.Author.Tests.{ltb-false, leb-true, leb-false, ltb-true, lt-ltb, le-ltb, le-leb, lt-leb, eq-eqb, ne_eqb, not-true, not-false}
use lib.Dec.{ltb, leb, eqb}
use lib.ListN.{length, get_or}
use Rattle.std.specs.Prelude.{Option, Some, None, is_some, MatchOption}
use Rattle.std.proofs.lemmas.Option.{none-some, same_Some}
use Rattle.lists.specs.First.{first_from, all}
use Rattle.lists.specs.Places.{places}
use Rattle.lists.proofs.First.{from_passes, between_fails, from_is, from_least}
use Rattle.lists.proofs.Places.{length_places, get_d_places, every_at, every_make}
use Rattle.lists.proofs.Tests.{true_of, same_test, parts, whole, all_miss, all_pass, all_last}
use Rattle.rules.specs.Limits.{most_regions, highest_id}
use Rattle.rules.specs.Owners.{gic_owner, right_owner}
use Rattle.zones.specs.Layout.{config_count, config_gic}
use Rattle.owners.specs.Fitting.{in_range, fits_at, unfit_at, owners_fit, first_unfit, first_wrong, below, Ranged}
use Rattle.owners.specs.View.{stored_owned}

-- ---- the count, and the GIC's position
module _ (c : List ℕ) where
  pub count_high : most_regions < get_or c config_count 0 → in_range c ≡ false
  unfolding in_range
  count_high h = sym (all_miss _ _ (lt-leb _ _ h))

  gic_told : get_or c config_count 0 ≤ most_regions → ltb (get_or c config_gic 0) (get_or c config_count 0) ≡ in_range c
  unfolding in_range
  gic_told h = all_pass _ _ _ (le-leb _ _ h) (all_last _ _ refl)

  pub range_parts : in_range c ≡ true → Ranged c
  unfolding in_range
  range_parts e = record { count = leb-true _ _ (parts _ e).0; gic = ltb-true _ _ (parts _ e).1.0 }

  pub range_make : Ranged c → in_range c ≡ true
  unfolding in_range
  range_make e = whole _ (le-leb _ _ e.count, (lt-ltb _ _ e.gic, tt))

  pub gic_high : get_or c config_count 0 ≤ most_regions → get_or c config_count 0 ≤ get_or c config_gic 0 → in_range c ≡ false
  gic_high h g = sym (gic_told h) ∙ le-ltb _ _ g

-- ---- a number that is told where it is below n
pub below_there : (n i j : ℕ) → i ≡ j → i < n → Some i ≡ below n j
below_there n i j e h = ap Some e ∙ sym (ap (λ (b : Bool). cond b (Some j) None) (lt-ltb j n (omega arith)))

pub below_none : (n j : ℕ) → n ≤ j → None ≡ below n j
below_none n j h = sym (ap (λ (b : Bool). cond b (Some j) None) (le-ltb j n h))

module _ (n i : ℕ) (o : Option ℕ) (e : o ≡ below n i) where
  pub found_below : (k : ℕ) → o ≡ Some k → (k ≡ i) × (k < n)
  found_below k h = by (ltb i n) refl (sym h ∙ e)
    where
      by : (b : Bool) → ltb i n ≡ b → Some k ≡ cond b (Some i) None → (k ≡ i) × (k < n)
      by true q g = let j : k ≡ i = same_Some _ _ g in (j, omega (arith, ltb-true _ _ q))
      by false q g = absurd (none-some k (sym g))

  pub none_below : o ≡ None → n ≤ i
  none_below h = by (ltb i n) refl (sym h ∙ e)
    where
      by : (b : Bool) → ltb i n ≡ b → None ≡ cond b (Some i) None → n ≤ i
      by true q g = absurd (none-some _ g)
      by false q g = ltb-false _ _ q

-- ---- an owner
module _ (c o : List ℕ) (i : ℕ) where
  pub fits_past : get_or c config_count 0 ≤ i → eqb (get_or o i 0) 0 ≡ fits_at (stored_owned c o) i
  unfolding fits_at
  fits_past h = rw (le-ltb i (get_or c config_count 0) h)

  pub fits_below : i < get_or c config_count 0 → right_owner (stored_owned c o) i ≡ fits_at (stored_owned c o) i
  unfolding fits_at
  fits_below h = rw (lt-ltb i (get_or c config_count 0) h)

  pub fits_gic : i < get_or c config_count 0 → i ≡ get_or c config_gic 0
      → eqb (get_or o i 0) gic_owner ≡ fits_at (stored_owned c o) i
  unfolding right_owner
  fits_gic h e =
      sym (ap (λ (b : Bool). cond b (eqb (get_or o i 0) gic_owner) (leb (get_or o i 0) highest_id)) (eq-eqb i (get_or c config_gic 0) e))
      ∙ fits_below h

  pub fits_id : i < get_or c config_count 0 → (i ≡ get_or c config_gic 0 → ⊥)
      → leb (get_or o i 0) highest_id ≡ fits_at (stored_owned c o) i
  unfolding right_owner
  fits_id h ne =
      sym (ap (λ (b : Bool). cond b (eqb (get_or o i 0) gic_owner) (leb (get_or o i 0) highest_id)) (ne_eqb i (get_or c config_gic 0) ne))
      ∙ fits_below h

-- ---- the first that does not fit, from position k on
module _ (c o : List ℕ) where
  abbrev pub unfit_from : ℕ → ℕ
  unfit_from k = first_from (unfit_at (stored_owned c o)) (places 0 most_regions) k

  position : (i : ℕ) → i < most_regions → get_or (places 0 most_regions) i 0 ≡ i
  position i h = let e : 0 + i ≡ i = omega arith in get_d_places 0 most_regions i 0 h ∙ e

  -- what an answer says
  module _ (k i : ℕ) (e : i ≡ unfit_from k) where
    pub unfit_there : i < most_regions → fits_at (stored_owned c o) i ≡ false
    unfit_there h =
        let l : unfit_from k < length (places 0 most_regions) = omega (arith, length_places 0 most_regions) in
        let q : get_or (places 0 most_regions) (unfit_from k) 0 ≡ i =
        ap (λ (j : ℕ). get_or (places 0 most_regions) j 0) (sym e) ∙ position i h in
        not-true _
        (ap (unfit_at (stored_owned c o)) (sym q)
        ∙ from_passes (unfit_at (stored_owned c o)) (places 0 most_regions) 0 k l)

    pub fit_between : (j : ℕ) → k ≤ j → j < i → j < most_regions → fits_at (stored_owned c o) j ≡ true
    fit_between j h l m =
        not-false _
        (ap (unfit_at (stored_owned c o)) (sym (position j m))
        ∙ between_fails (unfit_at (stored_owned c o)) (places 0 most_regions) 0 k j h (omega arith))

  -- what `find` says of the positions from k on that are below n
  unfit_below : (k n : ℕ) (r : Option ℕ) → n ≤ most_regions
      → MatchOption r ((j : ℕ) → k ≤ j → j < n → fits_at (stored_owned c o) j ≡ true)
      (λ i. (k ≤ i) × (i < n) × (fits_at (stored_owned c o) i ≡ false)
      × ((j : ℕ) → k ≤ j → j < i → fits_at (stored_owned c o) j ≡ true))
      → r ≡ below n (unfit_from k)
  unfit_below k n None m h =
      below_none n (unfit_from k)
      (elim (dec_lt (unfit_from k) n) [
        | yes l ↦
            absurd
            (true≢false
            (sym (h (unfit_from k) (from_least (unfit_at (stored_owned c o)) (places 0 most_regions) 0 k) l)
            ∙ unfit_there k (unfit_from k) refl (omega arith)))
        | no l ↦ omega arith
      ])
  unfit_below k n (Some i) m (a, l, f, before) =
      below_there n i (unfit_from k)
      (sym
      (from_is (unfit_at (stored_owned c o)) (places 0 most_regions) 0 k i a (omega (arith, length_places 0 most_regions))
      (ap (unfit_at (stored_owned c o)) (position i (omega arith)) ∙ ap not f)
      (λ j x y. ap (unfit_at (stored_owned c o)) (position j (omega arith)) ∙ ap not (before j x y)))) l

  pub unfit_found : (k : ℕ) (r : Option ℕ)
      → MatchOption r ((j : ℕ) → k ≤ j → j < most_regions → fits_at (stored_owned c o) j ≡ true)
      (λ i. (k ≤ i) × (i < most_regions) × (fits_at (stored_owned c o) i ≡ false)
      × ((j : ℕ) → k ≤ j → j < i → fits_at (stored_owned c o) j ≡ true))
      → r ≡ first_unfit c o k
  unfolding first_unfit
  unfit_found k r h = unfit_below k most_regions r (omega arith) h

  pub wrong_found : (n : ℕ) (r : Option ℕ) → Ranged c → n ≡ get_or c config_count 0
      → MatchOption r ((j : ℕ) → 0 ≤ j → j < n → fits_at (stored_owned c o) j ≡ true)
      (λ i. (0 ≤ i) × (i < n) × (fits_at (stored_owned c o) i ≡ false)
      × ((j : ℕ) → 0 ≤ j → j < i → fits_at (stored_owned c o) j ≡ true))
      → r ≡ first_wrong c o
  unfolding first_wrong
  wrong_found n r e q h =
      unfit_below 0 n r (omega (arith, e.count)) h ∙ ap (λ (m : ℕ). below m (unfit_from 0)) q

  -- all fit
  pub all_fit : (k : ℕ) → k ≡ unfit_from 0 → leb most_regions k ≡ all (fits_at (stored_owned c o)) (places 0 most_regions)
  all_fit k e =
      same_test (leb most_regions k) (all (fits_at (stored_owned c o)) (places 0 most_regions))
      (λ a. let l : most_regions ≤ k = leb-true _ _ a in
      every_make (fits_at (stored_owned c o)) 0 most_regions
      (λ j h m. fit_between 0 k e j (omega arith) (omega arith) (omega arith)))
      (λ a. true_of _ (λ f. true≢false
      (sym (every_at (fits_at (stored_owned c o)) 0 most_regions a k (omega arith) (below f)) ∙ unfit_there 0 k e (below f))))
    where
      below : leb most_regions k ≡ false → k < most_regions
      below f = leb-false most_regions k f

  pub none_fits : in_range c ≡ false → owners_fit c o ≡ false
  unfolding owners_fit
  none_fits h = sym (all_miss _ _ h)

  -- all fit where none is found that does not
  pub fits_told : (r : Option ℕ) (b : Bool) → Ranged c → r ≡ first_unfit c o 0 → is_some r ≡ not b → b ≡ owners_fit c o
  unfolding owners_fit first_unfit
  fits_told r b e f g = by r refl
    where
      fit : leb most_regions (unfit_from 0) ≡ owners_fit c o
      fit = all_pass _ _ _ (range_make c e) (all_last _ _ (all_fit (unfit_from 0) refl))

      by : (x : Option ℕ) → r ≡ x → b ≡ owners_fit c o
      by None q =
          not-false b (sym g ∙ ap is_some q) ∙ sym (le-leb _ _ (none_below most_regions (unfit_from 0) r f q)) ∙ fit
      by (Some k) q =
          let there = found_below most_regions (unfit_from 0) r f k q in
          not-true b (sym g ∙ ap is_some q) ∙ sym (lt-leb most_regions (unfit_from 0) (omega (arith, there.0, there.1))) ∙ fit

  module _ (e : owners_fit c o ≡ true) where
    pub fit_range : Ranged c
    unfolding owners_fit
    fit_range = range_parts c (parts _ e).0

    pub fit_at : (i : ℕ) → i < most_regions → fits_at (stored_owned c o) i ≡ true
    unfolding owners_fit
    fit_at i h = every_at (fits_at (stored_owned c o)) 0 most_regions (parts _ e).1.0 i (omega arith) (omega arith)

  pub fit_make : in_range c ≡ true → ((i : ℕ) → i < most_regions → fits_at (stored_owned c o) i ≡ true)
      → owners_fit c o ≡ true
  unfolding owners_fit
  fit_make e f = whole _ (e, (every_make (fits_at (stored_owned c o)) 0 most_regions (λ i h l. f i (omega arith)), tt))
