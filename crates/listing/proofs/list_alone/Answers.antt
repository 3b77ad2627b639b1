-- By what was found: a refusal of the bytes, or the sections, which are read where they begin.
use Rattle.std.proofs.Common.{ap, ◌∙◌}
use Rattle.plan.proofs.Outcomes.{fits, plan_read, read_away}
use Rattle.writer.proofs.Filling.{filled_with}
use Rattle.listing.proofs.Listing.{alone_away, alone_listed}
use Rattle.listing.proofs.list_alone.Goals as goal

pub returns-in-Err : goal.returns-in-Err
returns-in-Err c = ap (λ o. filled_with o c.args.buffer.now) c.refused.ensures
    ∙ alone_away c.args.plan.now c.args.buffer.now _ _ (read_away _ _ _ c.in-Err.ensures)

pub slice_bounds-read_regions_in-count : goal.slice_bounds-read_regions_in-count
slice_bounds-read_regions_in-count c = (fits _ _ c.in-Ok.ensures).regions

pub slice_bounds-read_regions_in-start : goal.slice_bounds-read_regions_in-start
slice_bounds-read_regions_in-start c = (fits _ _ c.in-Ok.ensures).regions

pub slice_bounds-read_zones_in-count : goal.slice_bounds-read_zones_in-count
slice_bounds-read_zones_in-count c = (fits _ _ c.in-Ok.ensures).zones

pub slice_bounds-read_zones_in-start : goal.slice_bounds-read_zones_in-start
slice_bounds-read_zones_in-start c = (fits _ _ c.in-Ok.ensures).zones

pub returns : goal.returns
returns c =
    alone_listed c.args.plan.now c.args.buffer.now _
    (plan_read _ _ c.in-Ok.ensures _ _ _ _ c.read_regions_in.ensures c.read_zones_in.ensures) _ _ c.list_after.ensures
