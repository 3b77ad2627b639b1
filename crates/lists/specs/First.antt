-- The first element of a list that passes a test; whether some element passes, and whether every one does.
use Rattle.std.specs.Prelude.{ℕ, suc, ◌+◌, Bool, true, false, cond, ◌&&◌, ◌||◌, List, [], ◌∷◌, drop}

module _ {A : Type 0} where
  -- the index of the first element that passes, or the length where none does
  unfoldable pub first_index : (A → Bool) → List A → ℕ
  first_index p [] = 0
  first_index p (x ∷ xs) = cond (p x) 0 (suc (first_index p xs))

  -- the same among the elements from index i on
  unfoldable pub first_from : (A → Bool) → List A → ℕ → ℕ
  first_from p xs i = i + first_index p (drop i xs)

  -- some element passes
  unfoldable pub any : (A → Bool) → List A → Bool
  any p [] = false
  any p (x ∷ xs) = p x || any p xs

  -- every element passes
  unfoldable pub all : (A → Bool) → List A → Bool
  all p [] = true
  all p (x ∷ xs) = p x && all p xs
