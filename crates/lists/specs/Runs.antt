-- Steps one after another.
use Rattle.std.specs.Prelude.{List, [], ◌∷◌}

-- the state after each of a list of inputs in turn
unfoldable pub runs : {S Q : Type 0} → (S → Q → S) → S → List Q → S
runs step s [] = s
runs step s (q ∷ qs) = runs step (step s q) qs

-- what is said to each of them in turn
unfoldable pub told : {S Q A : Type 0} → (S → Q → A) → (S → Q → S) → S → List Q → List A
told say step s [] = []
told say step s (q ∷ qs) = say s q ∷ told say step (step s q) qs

-- calls in turn, each at what the one before left: `Call s q a t` is one call, at s with q, that answered a and left t
pub data InTurn {S Q A : Type 0} (Call : S → Q → A → S → Type 0) : S → List Q → List A → S → Type 0 where
  none : {s : S} → InTurn Call s [] [] s
  call : {s t u : S} {q : Q} {qs : List Q} {a : A} {os : List A} → Call s q a t → InTurn Call t qs os u → InTurn Call s (q ∷ qs) (a ∷ os) u
