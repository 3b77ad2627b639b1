-- The first element that passes a test: it passes and none before it does. Where a search stands, the answer from there
-- on is the whole answer, as none before has passed.
use Prim.Native.Nat.{ℕ, zero, suc, ◌+◌, ◌-◌, ◌≤◌, ◌<◌}
use native.Mathlib.Decide.{dec_lt}
use native.Mathlib.Nat.{add-zero}
use native.Mathlib.Numerals.{add-one}
use native.Mathlib.Omega.{arith}
use mathlib.Core.Bool.{Bool, true, false, cond, ◌||◌, true≢false}
use mathlib.Core.List.{List, [], ◌∷◌}
use mathlib.Core.Path.{◌≡◌, refl, sym, ap, ◌∙◌}
use borrow.Author.Tests.{lt-ltb}
use lib.Dec.{ltb, leb-suc-suc}
use lib.ListN.{length, get_or, drop, length-drop, drop_of_length-le}
use lib.Seq.{drop-cons, get_or-drop}
use Rattle.lists.specs.First.{first_index, first_from, any}
use Rattle.lists.proofs.Tests.{same_ltb}

any_cons : (t u : Bool) (k n : ℕ) → u ≡ ltb k n → (t || u) ≡ ltb (cond t 0 (suc k)) (suc n)
any_cons true u k n e = sym (lt-ltb 0 (suc n) (omega arith))
any_cons false u k n e = e ∙ sym (leb-suc-suc (suc k) n)

module _ {A : Type 0} (p : A → Bool) where
  -- some element passes exactly where the first that passes stands within the list
  pub any_first : (xs : List A) → any p xs ≡ ltb (first_index p xs) (length xs)
  unfolding any first_index
  any_first [] = refl
  any_first (x ∷ xs) = any_cons (p x) (any p xs) (first_index p xs) (length xs) (any_first xs)

  pub first_within : (xs : List A) → first_index p xs ≤ length xs
  unfolding first_index
  first_within [] = omega arith
  first_within (x ∷ xs) = by (p x) (first_within xs)
    where
      by : (t : Bool) → first_index p xs ≤ length xs → cond t 0 (suc (first_index p xs)) ≤ suc (length xs)
      by true h = omega arith
      by false h = omega arith

  -- it passes, and none before it does
  pub first_passes : (xs : List A) (d : A) → first_index p xs < length xs → p (get_or xs (first_index p xs) d) ≡ true
  unfolding first_index
  first_passes [] d h = absurd (omega arith)
  first_passes (x ∷ xs) d h = by (p x) refl h (first_passes xs d)
    where
      by : (t : Bool) → p x ≡ t → cond t 0 (suc (first_index p xs)) < suc (length xs)
          → (first_index p xs < length xs → p (get_or xs (first_index p xs) d) ≡ true)
          → p (get_or (x ∷ xs) (cond t 0 (suc (first_index p xs))) d) ≡ true
      by true e h later = e
      by false e h later = later (omega arith)

  pub before_fails : (xs : List A) (d : A) (i : ℕ) → i < first_index p xs → p (get_or xs i d) ≡ false
  unfolding first_index
  before_fails [] d i h = absurd (omega arith)
  before_fails (x ∷ xs) d i h = by (p x) refl i h (before_fails xs d)
    where
      by : (t : Bool) → p x ≡ t → (i : ℕ) → i < cond t 0 (suc (first_index p xs))
          → ((j : ℕ) → j < first_index p xs → p (get_or xs j d) ≡ false) → p (get_or (x ∷ xs) i d) ≡ false
      by true e i h later = absurd (omega arith)
      by false e zero h later = e
      by false e (suc i) h later = later i (omega arith)

  -- an element that passes while none before it does is the first
  pub first_is : (xs : List A) (d : A) (k : ℕ) → k < length xs → p (get_or xs k d) ≡ true
      → ((j : ℕ) → j < k → p (get_or xs j d) ≡ false) → first_index p xs ≡ k
  first_is xs d k h e f =
      let q : first_index p xs ≤ k =
      elim (dec_lt k (first_index p xs)) [
        | yes a ↦ absurd (true≢false (sym e ∙ before_fails xs d k a))
        | no a ↦ omega arith
      ] in
      elim (dec_lt (first_index p xs) k) [
        | yes a ↦ absurd
            (true≢false (sym (first_passes xs d (omega arith)) ∙ f (first_index p xs) a))
        | no a ↦ omega arith
      ]

  -- ---- from an index on: what is left gives the whole answer
  pub from_zero : (xs : List A) → first_from p xs 0 ≡ first_index p xs
  unfolding first_from
  from_zero xs = omega arith

  pub from_pass : (xs : List A) (i : ℕ) (d : A) → i < length xs → p (get_or xs i d) ≡ false
      → first_from p xs i ≡ first_from p xs (i + 1)
  unfolding first_from first_index
  from_pass xs i d h e = rw (add-one i, drop-cons xs i d h, e) (omega arith)

  pub from_hit : (xs : List A) (i : ℕ) (d : A) → i < length xs → p (get_or xs i d) ≡ true → first_from p xs i ≡ i
  unfolding first_from first_index
  from_hit xs i d h e = rw (drop-cons xs i d h, e) (add-zero i)

  pub from_end : (xs : List A) (i : ℕ) → length xs ≤ i → first_from p xs i ≡ i
  unfolding first_from first_index
  from_end xs i h = rw (drop_of_length-le xs {i = i} h) (add-zero i)

  pub any_from : (xs : List A) (i : ℕ) → i ≤ length xs → any p (drop i xs) ≡ ltb (first_from p xs i) (length xs)
  unfolding first_from
  any_from xs i h =
      any_first (drop i xs)
      ∙ same_ltb (first_index p (drop i xs)) (length (drop i xs)) (i + first_index p (drop i xs)) (length xs)
      (λ a. omega (arith, length-drop i xs)) (λ a. omega (arith, length-drop i xs))

  -- the first from index i on passes, none between does, and an element of which that is so is the first
  module _ (xs : List A) (d : A) (i : ℕ) where
    shifted : (j : ℕ) → i ≤ j → get_or (drop i xs) (j - i) d ≡ get_or xs j d
    shifted j h = let e : i + (j - i) ≡ j = omega arith in get_or-drop i xs (j - i) d ∙ ap (λ (k : ℕ). get_or xs k d) e

    pub from_passes : first_from p xs i < length xs → p (get_or xs (first_from p xs i) d) ≡ true
    unfolding first_from
    from_passes h =
        let e : i + first_index p (drop i xs) - i ≡ first_index p (drop i xs) = omega arith in
        ap p (sym (shifted (i + first_index p (drop i xs)) (omega arith)) ∙ ap (λ (k : ℕ). get_or (drop i xs) k d) e)
        ∙ first_passes (drop i xs) d (omega (arith, length-drop i xs))

    pub between_fails : (j : ℕ) → i ≤ j → j < first_from p xs i → p (get_or xs j d) ≡ false
    unfolding first_from
    between_fails j h l = ap p (sym (shifted j h)) ∙ before_fails (drop i xs) d (j - i) (omega arith)

    pub from_least : i ≤ first_from p xs i
    unfolding first_from
    from_least = omega arith

    pub from_is : (k : ℕ) → i ≤ k → k < length xs → p (get_or xs k d) ≡ true
        → ((j : ℕ) → i ≤ j → j < k → p (get_or xs j d) ≡ false) → first_from p xs i ≡ k
    unfolding first_from
    from_is k h l e f =
        let q : first_index p (drop i xs) ≡ k - i =
        first_is (drop i xs) d (k - i) (omega (arith, length-drop i xs)) (ap p (shifted k h) ∙ e)
        (λ j b. ap p (get_or-drop i xs j d) ∙ f (i + j) (omega arith) (omega arith)) in
        omega arith
