-- By what the marks' reader answered, and then by where the regions end.
use Rattle.plan.proofs.Locating.{marks_refused, regions_refused, zones_lead}
use Rattle.plan.proofs.Told.{passed_on}
use Rattle.plan.proofs.finding.find_four.Goals as goal

pub returns-in_err-gic : goal.returns-in_err-gic
returns-in_err-gic c = rw (passed_on _ _ c.from_residual.ensures) (marks_refused _ _ _ c.in_err-gic.ensures)

pub returns-in_err-zones : goal.returns-in_err-zones
returns-in_err-zones c =
    rw (passed_on _ _ c.from_residual-in_err-zones.ensures)
    (regions_refused _ _ _ c.in_ok-gic.ensures _ c.in_err-zones.ensures)

pub returns : goal.returns
returns c = zones_lead _ _ _ c.in_ok-gic.ensures _ c.in_ok-zones.ensures _ c.find_from_zones.ensures
