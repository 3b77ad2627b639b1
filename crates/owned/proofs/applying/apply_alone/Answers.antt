-- By what was found: a refusal of the bytes, or the plan at its own base.
use Rattle.std.proofs.Common.{◌∙◌}
use Rattle.owned.proofs.Outcomes.{fits, alone_away, alone_found}
use Rattle.owned.proofs.applying.apply_alone.Goals as goal

pub returns-in-Err : goal.returns-in-Err
returns-in-Err c = c.refused.ensures ∙ alone_away _ _ _ c.in-Err.ensures

pub slice_bounds-read_owners-count : goal.slice_bounds-read_owners-count
slice_bounds-read_owners-count c = (fits _ _ c.in-Ok.ensures).regions

pub slice_bounds-read_owners-start : goal.slice_bounds-read_owners-start
slice_bounds-read_owners-start c = (fits _ _ c.in-Ok.ensures).regions

pub slice_bounds-read_regions_in-count : goal.slice_bounds-read_regions_in-count
slice_bounds-read_regions_in-count c = (fits _ _ c.in-Ok.ensures).regions

pub slice_bounds-read_regions_in-start : goal.slice_bounds-read_regions_in-start
slice_bounds-read_regions_in-start c = (fits _ _ c.in-Ok.ensures).regions

pub slice_bounds-read_zones_in-count : goal.slice_bounds-read_zones_in-count
slice_bounds-read_zones_in-count c = (fits _ _ c.in-Ok.ensures).zones

pub slice_bounds-read_zones_in-start : goal.slice_bounds-read_zones_in-start
slice_bounds-read_zones_in-start c = (fits _ _ c.in-Ok.ensures).zones

pub returns : goal.returns
returns c =
    alone_found _ _ c.in-Ok.ensures _ _ _ _ _ c.read_owners-owners.ensures c.read_regions_in.ensures c.read_zones_in.ensures _ _
    c.apply_words.ensures
