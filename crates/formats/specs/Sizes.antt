-- How many bytes values take.
use Rattle.std.specs.Prelude.{ℕ, ◌+◌, List, [], ◌∷◌, ◌++◌}

-- the sum of what the elements of a list take
unfoldable pub total : {A : Type 0} → (A → ℕ) → List A → ℕ
total size [] = 0
total size (x ∷ xs) = size x + total size xs

-- what each element of a list gives at its place, the first at `at`
unfoldable pub along : {A R : Type 0} → (A → ℕ) → (ℕ → A → List R) → ℕ → List A → List R
along size give at [] = []
along size give at (x ∷ xs) = give at x ++ along size give (at + size x) xs
