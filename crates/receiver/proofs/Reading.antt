-- As many bytes as the longest plan has, after which more came, are refused by the number and at the place that they
-- say themselves.
use Prim.Native.Nat.{ℕ, ◌-◌, ◌≤◌}
use native.Mathlib.Omega.{arith}
use mathlib.Core.List.{List, [], ◌∷◌, ◌++◌}
use mathlib.Core.Path.{◌≡◌, refl, ap, ◌∙◌}
use lib.ListN.{length, length-append}
use Rattle.formats.specs.Formats.{Out, got, bad, at_end}
use Rattle.rules.specs.Limits.{Limits}
use Rattle.rules.specs.Plan.{read_plan, Plan}
use Rattle.rules.specs.Sizes.{longest_size}
use Rattle.rules.proofs.Plan.{plan_ends}
use Rattle.rules.proofs.Receiving.{followed, read_followed}
use Rattle.receiver.specs.Words.{over_number, over_place}

module _ (l : Limits) where
  pub over_read : (u : List ℕ) (x : ℕ) (v : List ℕ) → longest_size l ≤ length u
      → (t : List ℕ) × (read_plan l (u ++ (x ∷ v)) ≡ bad (over_number (read_plan l u)) t)
      × (length (u ++ (x ∷ v)) - length t ≡ over_place (length u) (read_plan l u))
  unfolding followed over_number over_place at_end
  over_read u x v h = by (read_plan l u) refl
    where
      by : (o : Out Plan) → read_plan l u ≡ o
          → (t : List ℕ) × (read_plan l (u ++ (x ∷ v)) ≡ bad (over_number o) t)
          × (length (u ++ (x ∷ v)) - length t ≡ over_place (length u) o)
      by (got p t) e =
          let n : t ≡ [] = plan_ends l u p t e in (
            x ∷ v,
            read_followed l u (x ∷ v) h ∙ ap (followed (x ∷ v)) (e ∙ ap (got p) n),
            omega (arith, length-append u (x ∷ v)),
          )
      by (bad k t) e = (
        t ++ (x ∷ v),
        read_followed l u (x ∷ v) h ∙ ap (followed (x ∷ v)) e,
        omega (arith, length-append u (x ∷ v), length-append t (x ∷ v)),
      )
