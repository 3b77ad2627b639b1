-- Positions named in some order.
use Rattle.std.specs.Prelude.{ℕ, ◌<◌, Bool, cond, not, List, [], ◌∷◌, ◌≡◌, ltb, eqb, length, get_or}

-- the elements that pass, in their order
unfoldable pub keep : {A : Type 0} → (A → Bool) → List A → List A
keep p [] = []
keep p (x ∷ xs) = cond (p x) (x ∷ keep p xs) (keep p xs)

-- the number is below n; two numbers differ
unfoldable pub is_below : ℕ → ℕ → Bool
is_below n i = ltb i n

unfoldable pub differ : ℕ → ℕ → Bool
differ i j = not (eqb i j)

-- every number below n is among them
abbrev pub Among : List ℕ → ℕ → Type 0
Among ps n = (i : ℕ) → i < n → (a : ℕ) × (a < length ps) × (get_or ps a 0 ≡ i)
