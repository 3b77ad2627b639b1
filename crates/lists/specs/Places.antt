-- Numbers in a row, and the list that a function gives at them.
use Rattle.std.specs.Prelude.{ℕ, zero, suc, List, [], ◌∷◌, map}

-- n numbers: k, k + 1, ..
unfoldable pub places : ℕ → ℕ → List ℕ
places k zero = []
places k (suc n) = k ∷ places (suc k) n

-- f 0, f 1, .., f (n - 1)
unfoldable pub tab : {A : Type 0} → ℕ → (ℕ → A) → List A
tab n f = map f (places 0 n)
