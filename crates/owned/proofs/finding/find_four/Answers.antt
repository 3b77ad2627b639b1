-- By what the marks' reader answered, then by where the regions end, then by where the owners end.
use Rattle.plan.proofs.Locating.{marks_there}
use Rattle.plan.proofs.Told.{passed_on}
use Rattle.owned.proofs.Locating.{marks_refused, regions_refused, owners_there, owners_refused, zones_lead}
use Rattle.owned.proofs.finding.find_four.Goals as goal

pub returns-in_err-gic : goal.returns-in_err-gic
returns-in_err-gic c = rw (passed_on _ _ c.from_residual.ensures) (marks_refused _ _ c.in_err-gic.ensures)

pub returns-in_err-owners : goal.returns-in_err-owners
returns-in_err-owners c =
    rw (passed_on _ _ c.from_residual-in_err-owners.ensures)
    (regions_refused _ _ c.in_ok-gic.ensures _ c.in_err-owners.ensures)

pub returns-in_err-zones : goal.returns-in_err-zones
returns-in_err-zones c =
    rw (passed_on _ _ c.from_residual-in_err-zones.ensures)
    (owners_refused _ _ c.in_ok-gic.ensures _ c.in_ok-owners.ensures _ c.u32_at-count.ensures _ c.in_err-zones.ensures)

pub returns : goal.returns
returns c =
    zones_lead _ _ c.in_ok-gic.ensures _ c.in_ok-owners.ensures _ c.u32_at-count.ensures _ c.in_ok-zones.ensures _
    c.find_from_zones.ensures
