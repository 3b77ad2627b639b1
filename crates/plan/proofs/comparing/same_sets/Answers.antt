-- The second set begins where the first ends, if that is the same.
use Rattle.std.proofs.Common.{rules}
use mathlib.Core.Path.{◌∙◌}
use Rattle.plan.proofs.Holding.{sets_other, second_within, sets_second}
use Rattle.plan.proofs.comparing.same_sets.Goals as goal

pub returns-in_err-at : goal.returns-in_err-at
returns-in_err-at c = c.from_residual.ensures ∙ sets_other _ _ _ _ c.in_err-at.ensures

pub same_regions-requires-2 : goal.same_regions-requires-2
same_regions-requires-2 c = ((second_within _ c.args.w.now _ c.args.k _ c.in_ok-at.ensures, search rules), search rules)

pub returns : goal.returns
returns c = sets_second _ _ _ _ _ c.in_ok-at.ensures _ c.same_regions-2.ensures
