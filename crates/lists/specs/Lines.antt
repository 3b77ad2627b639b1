-- Lines of a table of answers, in order: an answer, and the condition under which it is given, said in plain words.
use Rattle.std.specs.Prelude.{List, [], ◌∷◌, ◌⊎◌, ◌↔◌, ◌≡◌}

abbrev pub Line : Type 0 → Type 1
Line R = R × Type 0

infix 70 ◌given◌
abbrev pub ◌given◌ : {R : Type 0} → R → Type 0 → Line R
a given P = (a, P)

-- a is the answer of the first line whose condition holds; where none holds, a is what Rest says
abbrev pub FirstOf : {R : Type 0} → List (Line R) → (R → Type 0) → R → Type 0
FirstOf [] Rest a = Rest a
FirstOf (k ∷ ks) Rest a = (k.1 × (k.0 ≡ a)) ⊎ ((k.1 → ⊥) × FirstOf ks Rest a)

-- f is a exactly when P says so of a
abbrev pub Exactly : {R : Type 0} → R → (R → Type 0) → Type 0
Exactly {R} f P = (a : R) → (f ≡ a) ↔ P a
