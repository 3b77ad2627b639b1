-- By what was found: a refusal of the bytes, or the sections, which are read where they begin.
use Rattle.std.proofs.Common.{◌∙◌}
use Rattle.plan.proofs.Outcomes.{alone_away, alone_reads, fits, plan_read, read_away}
use Rattle.plan.proofs.applying.apply_alone.Goals as goal

pub returns-in-Err : goal.returns-in-Err
returns-in-Err c = c.refused.ensures ∙ alone_away _ _ (read_away _ _ _ c.in-Err.ensures)

pub slice_bounds-read_regions_in-count : goal.slice_bounds-read_regions_in-count
slice_bounds-read_regions_in-count c = (fits _ _ c.in-Ok.ensures).regions

pub slice_bounds-read_regions_in-start : goal.slice_bounds-read_regions_in-start
slice_bounds-read_regions_in-start c = (fits _ _ c.in-Ok.ensures).regions

pub slice_bounds-read_zones_in-count : goal.slice_bounds-read_zones_in-count
slice_bounds-read_zones_in-count c = (fits _ _ c.in-Ok.ensures).zones

pub slice_bounds-read_zones_in-start : goal.slice_bounds-read_zones_in-start
slice_bounds-read_zones_in-start c = (fits _ _ c.in-Ok.ensures).zones

pub returns : goal.returns
returns c =
    alone_reads _ _ (plan_read _ _ c.in-Ok.ensures _ _ _ _ c.read_regions_in.ensures c.read_zones_in.ensures) _ _
    c.apply_words.ensures
