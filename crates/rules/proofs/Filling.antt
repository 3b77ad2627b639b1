-- A filler answers 0 exactly where none of its refusals applies and its bytes fit; then they stand at the buffer's start.
use Prim.Native.Nat.{ℕ, ◌≤◌}
use native.Mathlib.Omega.{arith}
use mathlib.Core.Bool.{Bool, true, false, cond, true≢false}
use mathlib.Core.List.{List, [], ◌∷◌, ◌++◌}
use mathlib.Core.Path.{◌≡◌, refl, ap}
use borrow.Author.Tests.{ltb-false, le-ltb, eq-eqb, ne_eqb}
use lib.Dec.{ltb}
use lib.ListN.{length, drop}
use Rattle.lists.specs.Rules.{Rule, first_rule}
use Rattle.lists.proofs.Rules.{Quiet}
use Rattle.rules.specs.Applying.{plain}
use Rattle.rules.specs.Filling.{fill_answer, fill_leaves}
use Rattle.rules.specs.declared.Outcome.{Outcome}

-- each answer, where it is given, is none of success
abbrev pub Refusing : List (Rule Outcome) → Type 0
Refusing [] = Unit {0}
Refusing (r ∷ rs) = (r.1 ≡ true → r.0.number ≡ 0 → ⊥) × Refusing rs

module _ (b : List ℕ) (room : ℕ) where
  pub zero_fits : (rs : List (Rule Outcome)) → Refusing rs → (fill_answer rs b room).number ≡ 0
      → Quiet rs × (length b ≤ room)
  unfolding fill_answer first_rule
  zero_fits [] z e = (tt, by (ltb room (length b)) refl e)
    where
      by : (t : Bool) → ltb room (length b) ≡ t → (cond t (plain 28 0) (plain 0 (length b))).number ≡ 0
          → length b ≤ room
      by true h f = absurd (omega arith)
      by false h f = ltb-false _ _ h
  zero_fits ((a, true) ∷ rs) z e = absurd (z.0 refl e)
  zero_fits ((a, false) ∷ rs) z e = let (q, l) = zero_fits rs z.1 e in ((refl, q), l)

  pub fits_zero : (rs : List (Rule Outcome)) → Quiet rs → length b ≤ room → fill_answer rs b room ≡ plain 0 (length b)
  unfolding fill_answer first_rule
  fits_zero [] q l = ap (λ (t : Bool). cond t (plain 28 0) (plain 0 (length b))) (le-ltb room (length b) l)
  fits_zero ((a, true) ∷ rs) q l = absurd (true≢false q.0)
  fits_zero ((a, false) ∷ rs) q l = fits_zero rs q.1 l

module _ (o : Outcome) (b w : List ℕ) where
  pub leaves_all : (o.number ≡ 0 → ⊥) → fill_leaves o b w ≡ w
  unfolding fill_leaves
  leaves_all ne = ap (λ (t : Bool). cond t (b ++ drop (length b) w) w) (ne_eqb o.number 0 ne)

  pub leaves_filled : o.number ≡ 0 → fill_leaves o b w ≡ b ++ drop (length b) w
  unfolding fill_leaves
  leaves_filled e = ap (λ (t : Bool). cond t (b ++ drop (length b) w) w) (eq-eqb o.number 0 e)
