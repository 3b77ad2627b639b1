-- Two cases: a request was refused, and the table is read back; or none was.
use Rattle.plan.proofs.Undoing.{own_below, run_undone_by, run_kept_by}
use Rattle.plan.proofs.applying.run_or_undo.Goals as goal

pub returns-then-outcome-eq-REQUEST_REFUSED : goal.returns-then-outcome-eq-REQUEST_REFUSED
returns-then-outcome-eq-REQUEST_REFUSED g c =
    let stands = c.run_in-outcome.ensures.stands in
    run_undone_by _ _ _ _ _ _ c.run_in-outcome.ensures.ran stands.stood (own_below _ _ _ stands)
    c.if-outcome-eq-REQUEST_REFUSED.true _ c.requires c.told-table _ c.refill.ensures

pub returns-else-outcome-eq-REQUEST_REFUSED : goal.returns-else-outcome-eq-REQUEST_REFUSED
returns-else-outcome-eq-REQUEST_REFUSED g c =
    let stands = c.run_in-outcome.ensures.stands in
    run_kept_by _ _ _ _ _ _ c.run_in-outcome.ensures.ran stands.stood (own_below _ _ _ stands)
    c.if-outcome-eq-REQUEST_REFUSED.false
