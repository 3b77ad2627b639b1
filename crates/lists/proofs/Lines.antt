-- Where each rule's test means its line's condition, the first rule that applies is the first line whose condition
-- holds.
use mathlib.Core.Bool.{Bool, true, false, cond, not, true≢false}
use mathlib.Core.List.{List, [], ◌∷◌, map}
use mathlib.Core.Logic.{inl, inr, ◌↔◌}
use mathlib.Core.Path.{◌≡◌, refl, sym, subst, ◌∙◌}
use borrow.Author.Tests.{not-true}
use Rattle.lists.specs.Lines.{◌given◌, FirstOf, Exactly, Line}
use Rattle.lists.specs.Rules.{◌when◌, first_rule, Rule}
use Rattle.lists.proofs.Tests.{not_fails, false_of}

-- a test that means a condition, and one that means that it does not hold
abbrev pub Tells : Bool → Type 0 → Type 0
Tells t P = (t ≡ true) ↔ P

pub tells_not : (t : Bool) (P : Type 0) → Tells t P → Tells (not t) (P → ⊥)
tells_not t P (f, g) = ((λ e h. true≢false (sym (g h) ∙ not-true t e)), λ n. not_fails t (false_of t (λ e. n (f e))))

-- something is always said, and only the truth: then what is said is exact
pub exactly : {R : Type 0} (f : R) (P : R → Type 0) → (a : R) × P a → ((a : R) → P a → f ≡ a) → Exactly f P
exactly f P some told a = ((λ e. subst P (sym (told some.0 some.1) ∙ e) some.1), told a)

pub exactly_of : {R : Type 0} {f g : R} {P : R → Type 0} → f ≡ g → Exactly g P → Exactly f P
exactly_of {P = P} e h = subst (λ x. Exactly x P) (sym e) h

module _ {R : Type 0} where
  -- as many rules as lines, with the same answers, and each test means its line's condition
  infixr 40 ◌and◌
  pub data Matches : List (Rule R) → List (Line R) → Type 1 where
    all : Matches [] []
    ◌and◌ : {a : R} {t : Bool} {P : Type 0} {rs : List (Rule R)} {ks : List (Line R)} → Tells t P → Matches rs ks
        → Matches (a when t ∷ rs) (a given P ∷ ks)

  -- no condition holds
  abbrev pub NoneOf : List (Line R) → Type 0
  NoneOf [] = Unit {0}
  NoneOf (k ∷ ks) = (k.1 → ⊥) × NoneOf ks

  -- the first line's condition holds; it does not, and the answer is that of the others
  module _ (k : Line R) (ks : List (Line R)) (Rest : R → Type 0) (f a : R) where
    line_hit : k.1 → f ≡ k.0 → (f ≡ a) ↔ FirstOf (k ∷ ks) Rest a
    line_hit h q = ((λ e. inl (h, sym q ∙ e)), by)
      where
        by : FirstOf (k ∷ ks) Rest a → f ≡ a
        by (inl (h', e)) = q ∙ e
        by (inr (n, o)) = absurd (n h)

    line_miss : (k.1 → ⊥) → (f ≡ a) ↔ FirstOf ks Rest a → (f ≡ a) ↔ FirstOf (k ∷ ks) Rest a
    line_miss n later = ((λ e. inr (n, later.0 e)), by)
      where
        by : FirstOf (k ∷ ks) Rest a → f ≡ a
        by (inl (h, e)) = absurd (n h)
        by (inr (n', o)) = later.1 o

  -- the first rule that applies is the first line whose condition holds
  pub first_of : {rs : List (Rule R)} {ks : List (Line R)} (other : R) (Rest : R → Type 0) → Matches rs ks
      → (NoneOf ks → Exactly other Rest) → Exactly (first_rule rs other) (FirstOf ks Rest)
  unfolding first_rule
  first_of other Rest all g a = g tt a
  first_of other Rest (◌and◌ {a = b} {t = t} {P = P} {rs = rs} {ks = ks} h m) g a =
      by t h (λ n. first_of other Rest m (λ none. g (n, none)) a)
    where
      by : (c : Bool) → Tells c P → ((P → ⊥) → (first_rule rs other ≡ a) ↔ FirstOf ks Rest a)
          → (cond c b (first_rule rs other) ≡ a) ↔ FirstOf (b given P ∷ ks) Rest a
      by true f later = line_hit (b given P) ks Rest b a (f.0 refl) refl
      by false f later =
          let n : P → ⊥ = λ p. true≢false (sym (f.1 p)) in
          line_miss (b given P) ks Rest (first_rule rs other) a n (later n)

  -- what is made of the first answer is the first of what is made of each
  pub first_map : {S : Type 0} (f : R → S) (rs : List (Rule R)) (other : R)
      → f (first_rule rs other) ≡ first_rule (map (λ (r : Rule R). (f r.0, r.1)) rs) (f other)
  unfolding first_rule
  first_map f [] other = refl
  first_map f ((b, true) ∷ rs) other = refl
  first_map f ((b, false) ∷ rs) other = first_map f rs other
