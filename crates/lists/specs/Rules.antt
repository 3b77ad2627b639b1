-- Rules in order: the first one whose test holds gives the answer.
use Rattle.std.specs.Prelude.{ℕ, ◌<◌, Bool, true, false, cond, not, List, [], ◌∷◌, map, ◌⊎◌, ◌≡◌, eqb, length, get_or}
use Rattle.lists.specs.Pairs.{pairwise}

-- an answer, and the test under which it is given
abbrev pub Rule : Type 0 → Type 0
Rule R = R × Bool

infix 70 ◌when◌
abbrev pub ◌when◌ : {R : Type 0} → R → Bool → Rule R
a when t = (a, t)

-- the answer of the first rule that applies, or `other` where none does
unfoldable pub first_rule : {R : Type 0} → List (Rule R) → R → R
first_rule [] other = other
first_rule (r ∷ rs) other = cond r.1 r.0 (first_rule rs other)

module _ {R : Type 0} where
  -- rule k applies and no earlier one does
  pub record Applies (rs : List (Rule R)) (d : Rule R) (k : ℕ) : Type 0 where
    pub there : k < length rs
    pub holds : (get_or rs k d).1 ≡ true
    pub earlier : (j : ℕ) → j < k → (get_or rs j d).1 ≡ false

  -- no rule applies
  abbrev pub Silent : List (Rule R) → Rule R → Type 0
  Silent rs d = (j : ℕ) → j < length rs → (get_or rs j d).1 ≡ false

  -- a is the answer of a rule that applies with no earlier one, or none applies and a is `other`
  abbrev pub Given : List (Rule R) → R → Rule R → R → Type 0
  Given rs other d a = ((k : ℕ) × Applies rs d k × ((get_or rs k d).0 ≡ a)) ⊎ (Silent rs d × (other ≡ a))

-- the answers of rules are numbers that differ from each other and from 0
unfoldable pub numbered : List (Rule ℕ) → Bool
numbered rs = pairwise (λ (m n : ℕ). not (eqb m n)) (0 ∷ map (λ (r : Rule ℕ). r.0) rs)
