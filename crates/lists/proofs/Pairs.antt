-- Every two elements stand in a relation: said of each two indices, so that an element appended or put in another's
-- place is held against the others alone, and taking one out asks nothing.
use Prim.Native.Nat.{ℕ, zero, suc, ◌+◌, ◌≤◌, ◌<◌, suc-le-suc}
use native.Mathlib.Decide.{dec_lt}
use native.Mathlib.Omega.{arith}
use mathlib.Core.Bool.{Bool, true, false, not, ◌&&◌, true≢false, and-false}
use mathlib.Core.List.{List, [], ◌∷◌, ◌++◌}
use mathlib.Core.Path.{◌≡◌, refl, sym, ap, ◌∙◌}
use borrow.Author.Tests.{leb-true, not-true, le-leb}
use lib.Dec.{leb}
use lib.ListN.{length, get_or, set}
use Rattle.lists.specs.First.{first_index, first_from, all}
use Rattle.lists.specs.Pairs.{pairwise}
use Rattle.lists.specs.Room.{remove_at}
use Rattle.lists.proofs.Every.{all_at, all_make, all_one, all_append, all_set, all_removed}
use Rattle.lists.proofs.First.{first_passes, before_fails, from_passes, between_fails, from_least}
use Rattle.lists.proofs.Tests.{both_true, true_both, same_test}

module _ {A : Type 0} (r : A → A → Bool) where
  pub pairs_at : (xs : List A) (d : A) → pairwise r xs ≡ true → (i j : ℕ) → i < j → j < length xs
      → r (get_or xs i d) (get_or xs j d) ≡ true
  unfolding pairwise
  pairs_at [] d e i j h k = absurd (omega arith)
  pairs_at (x ∷ xs) d e zero zero h k = absurd (omega arith)
  pairs_at (x ∷ xs) d e zero (suc j) h k =
      all_at (r x) xs d (both_true (all (r x) xs) (pairwise r xs) e).0 j (omega arith)
  pairs_at (x ∷ xs) d e (suc i) zero h k = absurd (omega arith)
  pairs_at (x ∷ xs) d e (suc i) (suc j) h k =
      pairs_at xs d (both_true (all (r x) xs) (pairwise r xs) e).1 i j (omega arith) (omega arith)

  pub pairs_make : (xs : List A) (d : A) → ((i j : ℕ) → i < j → j < length xs → r (get_or xs i d) (get_or xs j d) ≡ true)
      → pairwise r xs ≡ true
  unfolding pairwise
  pairs_make [] d f = refl
  pairs_make (x ∷ xs) d f =
      true_both (all (r x) xs) (pairwise r xs) (all_make (r x) xs d (λ j h. f 0 (suc j) (omega arith) (suc-le-suc h)))
      (pairs_make xs d (λ i j h k. f (suc i) (suc j) (suc-le-suc h) (suc-le-suc k)))

  pub pairs_append : (xs : List A) (v : A) → pairwise r xs ≡ true → all (λ (x : A). r x v) xs ≡ true
      → pairwise r (xs ++ v ∷ []) ≡ true
  unfolding pairwise all
  pairs_append [] v e f = refl
  pairs_append (x ∷ xs) v e f =
      let b = both_true (all (r x) xs) (pairwise r xs) e in
      let g = both_true (r x v) (all (λ (y : A). r y v) xs) f in
      true_both (all (r x) (xs ++ v ∷ [])) (pairwise r (xs ++ v ∷ []))
      (all_append (r x) xs (v ∷ []) b.0 (all_one (r x) v g.0)) (pairs_append xs v b.1 g.1)

  pub pairs_removed : (xs : List A) (k : ℕ) → pairwise r xs ≡ true → pairwise r (remove_at k xs) ≡ true
  unfolding pairwise remove_at
  pairs_removed [] zero e = refl
  pairs_removed [] (suc k) e = refl
  pairs_removed (x ∷ xs) zero e = (both_true (all (r x) xs) (pairwise r xs) e).1
  pairs_removed (x ∷ xs) (suc k) e =
      let b = both_true (all (r x) xs) (pairwise r xs) e in
      true_both (all (r x) (remove_at k xs)) (pairwise r (remove_at k xs)) (all_removed (r x) xs k b.0)
      (pairs_removed xs k b.1)

  pub pairs_set : (xs : List A) (k : ℕ) (v d : A) → pairwise r xs ≡ true
      → ((j : ℕ) → j < length xs → j < k → r (get_or xs j d) v ≡ true)
      → ((j : ℕ) → j < length xs → k < j → r v (get_or xs j d) ≡ true) → pairwise r (set xs k v) ≡ true
  unfolding pairwise
  pairs_set [] k v d e f g = refl
  pairs_set (x ∷ xs) zero v d e f g =
      true_both (all (r v) xs) (pairwise r xs) (all_make (r v) xs d (λ i h. g (suc i) (suc-le-suc h) (omega arith)))
      (both_true (all (r x) xs) (pairwise r xs) e).1
  pairs_set (x ∷ xs) (suc k) v d e f g =
      let b = both_true (all (r x) xs) (pairwise r xs) e in
      true_both (all (r x) (set xs k v)) (pairwise r (set xs k v))
      (all_set (r x) xs k v b.0 (f 0 (omega arith) (omega arith)))
      (pairs_set xs k v d b.1 (λ j h q. f (suc j) (suc-le-suc h) (suc-le-suc q))
      (λ j h q. g (suc j) (suc-le-suc h) (suc-le-suc q)))

-- of any two elements at most one passes exactly when none passes after the first that does
module _ {A : Type 0} (p : A → Bool) (d : A) where
  pub at_most_one : (xs : List A)
      → pairwise (λ (x y : A). not (p x && p y)) xs ≡ leb (length xs) (first_from p xs (first_index p xs + 1))
  at_most_one xs =
      same_test (pairwise (λ (x y : A). not (p x && p y)) xs) (leb (length xs) (first_from p xs (first_index p xs + 1)))
      (λ e. le-leb _ _ (none_later e)) (λ e. one_only (leb-true _ _ e))
    where
      none_later : pairwise (λ (x y : A). not (p x && p y)) xs ≡ true → length xs ≤ first_from p xs (first_index p xs + 1)
      none_later e =
          elim (dec_lt (first_from p xs (first_index p xs + 1)) (length xs)) [
            | no a ↦ omega arith
            | yes a ↦
                (let l : first_index p xs + 1 ≤ first_from p xs (first_index p xs + 1) = from_least p xs d
                (first_index p xs + 1) in
                absurd (true≢false
                (sym
                (true_both _ _ (first_passes p xs d (omega arith))
                (from_passes p xs d (first_index p xs + 1) a))
                ∙ not-true _
                (pairs_at (λ (x y : A). not (p x && p y)) xs d e (first_index p xs)
                (first_from p xs (first_index p xs + 1)) (omega arith) a))))
          ]

      fails : length xs ≤ first_from p xs (first_index p xs + 1) → (i j : ℕ) → i < j → j < length xs
          → (p (get_or xs i d) && p (get_or xs j d)) ≡ false
      fails h i j a b =
          elim (dec_lt i (first_index p xs)) [
            | yes q ↦ ap (λ (t : Bool). t && p (get_or xs j d)) (before_fails p xs d i q)
            | no q ↦
                ap (λ (t : Bool). p (get_or xs i d) && t)
                (between_fails p xs d (first_index p xs + 1) j (omega arith) (omega arith))
                ∙ and-false (p (get_or xs i d))
          ]

      one_only : length xs ≤ first_from p xs (first_index p xs + 1) → pairwise (λ (x y : A). not (p x && p y)) xs ≡ true
      one_only h = pairs_make (λ (x y : A). not (p x && p y)) xs d (λ i j a b. ap not (fails h i j a b))
