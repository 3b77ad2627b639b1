-- By how the plan is judged: its requests are run on a copy, or it is turned away.
use Rattle.plan.proofs.Judging.{turned_applied, turned_refused}
use Rattle.storage.proofs.Beside.{beside_away, beside_own}
use Rattle.storage.proofs.answer_beside.Goals as goal

pub returns-in-Ok : goal.returns-in-Ok
returns-in-Ok g c =
    beside_own _ _ _ _ _ _ _ c.in-Ok.ensures.applied _ c.copy_table.ensures _ _ c.run_in.ensures.ran c.run_in.ensures.stands

pub returns-in-Err : goal.returns-in-Err
returns-in-Err g c =
    beside_away _ _ _ _ _ _ _ (turned_applied _ _ _ _ _ _ c.in-Err.ensures.applied) (turned_refused _ _ _ _ _ _ c.in-Err.ensures.applied)
