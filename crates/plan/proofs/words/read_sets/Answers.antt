-- One set after the other: a refusal of the first is the whole answer.
use Rattle.std.proofs.Common.{rules}
use Rattle.plan.proofs.Into.{sets_stop, sets_go, within_end}
use Rattle.plan.proofs.Told.{passed_on}
use Rattle.plan.proofs.words.read_sets.Goals as goal

pub returns-in_err-at : goal.returns-in_err-at
returns-in_err-at c = rw (passed_on _ _ c.from_residual.ensures) (sets_stop _ _ _ _ _ _ c.in_err-at.ensures)

pub read_set-requires-2 : goal.read_set-requires-2
read_set-requires-2 c = ((within_end _ _ _ _ c.in_ok-at.ensures, search rules), search rules)

pub returns : goal.returns
returns c = sets_go _ _ _ _ _ _ c.in_ok-at.ensures _ _ c.read_set-2.ensures
