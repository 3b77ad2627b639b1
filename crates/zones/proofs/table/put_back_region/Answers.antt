-- The words above the gap go up again, and the region's own stand in it.
use Rattle.zones.proofs.Undoing.{region_back}
use Rattle.zones.proofs.table.put_back_region.Goals as goal

pub returns : goal.returns
returns c = region_back _ _ _ _ _ _ _ _ _ c.set_base-b.ensures.0 c.set_base-b.ensures.1 c.set_len-n.ensures
    c.open_gap.ensures c.write_region.ensures
