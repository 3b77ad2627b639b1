-- Plans in pieces: what is stored ends within the longest plan; and as many bytes as that has read alike whatever
-- follows them: only where they read whole does what follows change the answer, to 22 at their end.
use Prim.Native.Nat.{ℕ, ◌+◌, ◌-◌, ◌≤◌, min}
use native.Mathlib.Omega.{arith}
use mathlib.Core.Bool.{Bool, true, false, cond, not}
use mathlib.Core.List.{List, [], ◌∷◌, ◌++◌}
use mathlib.Core.Path.{◌≡◌, refl, ap, ◌∙◌}
use borrow.Author.Tests.{ltb-false}
use lib.Dec.{ltb, eqb}
use lib.ListN.{length}
use Rattle.lists.proofs.Tests.{both_false}
use Rattle.formats.specs.Formats.{Out, got, bad, then, at_end, read_file}
use Rattle.formats.proofs.Most.{onto}
use Rattle.rules.specs.Limits.{Limits}
use Rattle.rules.specs.Plan.{plan_format, read_plan, Plan}
use Rattle.rules.specs.Receiving.{is_over, stored_in, fitting}
use Rattle.rules.specs.Sizes.{longest_size}
use Rattle.rules.specs.declared.Receiver.{Receiver}
use Rattle.rules.proofs.Sizes.{plan_most}

-- what was read, with more bytes behind it
unfoldable pub followed : List ℕ → Out Plan → Out Plan
followed v (got p t) = at_end p (t ++ v)
followed v (bad k t) = bad k (t ++ v)

module _ (l : Limits) where
  pub read_followed : (u v : List ℕ) → longest_size l ≤ length u → read_plan l (u ++ v) ≡ followed v (read_plan l u)
  unfolding read_plan read_file then onto followed at_end
  read_followed u v h =
      ap (λ (o : Out Plan). then o at_end) ((plan_most l).past u v h) ∙ by ((plan_format l).read u)
    where
      by : (o : Out Plan) → then (onto v o) at_end ≡ followed v (then o at_end)
      by (got p []) = refl
      by (got p (c ∷ t)) = refl
      by (bad k t) = refl

  module _ (r : Receiver) where
    pub stored_most : stored_in l r ≤ longest_size l
    unfolding stored_in is_over
    stored_most = by (is_over l r) refl
      where
        by : (t : Bool) → is_over l r ≡ t → cond t (longest_size l) r.stored ≤ longest_size l
        by true e = omega arith
        by false e =
            ltb-false (longest_size l) r.stored
            (both_false (not (eqb r.more 0)) (ltb (longest_size l) r.stored) e).1

    -- what fits is part of what came, and there is room for it
    module _ (n : ℕ) where
      fitting_is : fitting l r n ≡ min n (longest_size l - stored_in l r)
      unfolding fitting
      fitting_is = refl

      pub fitting_room : stored_in l r + fitting l r n ≤ longest_size l
      fitting_room = omega (arith, fitting_is, stored_most)

      pub fitting_part : fitting l r n ≤ n
      fitting_part = omega (arith, fitting_is)
