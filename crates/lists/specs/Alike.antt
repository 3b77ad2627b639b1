-- How far two lists of numbers go alike.
use Rattle.std.specs.Prelude.{ℕ, suc, ◌≤◌, ◌<◌, cond, List, [], ◌∷◌, ◌≡◌, eqb, length, get_or}

-- the first place of the first list where the second lacks the same number, or the first list's length
unfoldable pub alike : List ℕ → List ℕ → ℕ
alike [] c = 0
alike (x ∷ b) [] = 0
alike (x ∷ b) (y ∷ c) = cond (eqb x y) (suc (alike b c)) 0

-- ---- the same in plain words
-- the second has the same number at a place
abbrev pub SameAt : List ℕ → List ℕ → ℕ → Type 0
SameAt b c i = (i < length c) × (get_or c i 0 ≡ get_or b i 0)

-- at every place before k it has, and at k it has not, unless the first ends there
pub record FirstLack (b c : List ℕ) (k : ℕ) : Type 0 where
  pub within : k ≤ length b
  pub before : (i : ℕ) → i < k → SameAt b c i
  pub lacks : k < length b → SameAt b c k → ⊥
