-- By what was found: a refusal of the bytes, or the sections, which are read where they begin.
use Rattle.plan.proofs.Outcomes.{read_away, fits, plan_read}
use Rattle.plan.proofs.Told.{passed_on}
use Rattle.plan.proofs.read.read_plan.Goals as goal

pub returns-in_err-gic : goal.returns-in_err-gic
returns-in_err-gic c = rw (passed_on _ _ c.from_residual.ensures) (read_away _ _ _ c.in_err-gic.ensures)

pub slice_bounds-read_regions_in-count : goal.slice_bounds-read_regions_in-count
slice_bounds-read_regions_in-count c = (fits _ _ c.in_ok-gic.ensures).regions

pub slice_bounds-read_regions_in-start : goal.slice_bounds-read_regions_in-start
slice_bounds-read_regions_in-start c = (fits _ _ c.in_ok-gic.ensures).regions

pub slice_bounds-read_zones_in-count : goal.slice_bounds-read_zones_in-count
slice_bounds-read_zones_in-count c = (fits _ _ c.in_ok-gic.ensures).zones

pub slice_bounds-read_zones_in-start : goal.slice_bounds-read_zones_in-start
slice_bounds-read_zones_in-start c = (fits _ _ c.in_ok-gic.ensures).zones

pub returns : goal.returns
returns c =
    plan_read _ _ c.in_ok-gic.ensures _ _ _ _ c.read_regions_in.ensures c.read_zones_in.ensures
