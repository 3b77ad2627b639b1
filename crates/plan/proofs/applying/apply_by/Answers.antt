-- By how the plan is judged: its requests are run, or it is turned away.
use Rattle.plan.proofs.Judging.{own_held, own_applied, turned_applied}
use Rattle.plan.proofs.applying.apply_by.Goals as goal

pub run_or_undo-requires : goal.run_or_undo-requires
run_or_undo-requires g c = own_held _ _ _ _ _ _ c.in-Ok.ensures.applied

pub returns-in-Ok : goal.returns-in-Ok
returns-in-Ok g c = own_applied _ _ _ _ _ _ c.in-Ok.ensures.applied _ _ c.run_or_undo.ensures

pub returns-in-Err : goal.returns-in-Err
returns-in-Err g c = turned_applied _ _ _ _ _ _ c.in-Err.ensures.applied
