-- The zones above the gap go up again, and in it stand zeros after the id.
use Rattle.zones.proofs.Undoing.{zone_back}
use Rattle.zones.proofs.table.put_back_zone.Goals as goal

pub returns : goal.returns
returns c = zone_back _ _ _ _ _ _ _ _ c.zone_base-at.ensures c.zone_base.ensures c.zone_count-n.ensures
    c.open_gap.ensures c.clear.ensures
