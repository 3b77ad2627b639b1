-- By what the count's reader answered: a refusal, or the zones after it.
use Rattle.std.proofs.Common.{rules}
use Rattle.plan.proofs.Fields.{field_there_law}
use Rattle.plan.proofs.Into.{kept_after, count_most, zones_stop, zones_lead, zones_room}
use Rattle.plan.proofs.Told.{passed_on}
use Rattle.plan.proofs.words.read_table.Goals as goal

pub returns-in_err-n : goal.returns-in_err-n
returns-in_err-n c = rw (passed_on _ _ c.from_residual.ensures) (zones_stop _ _ _ c.in_err-n.ensures)

pub read_zone_list-requires : goal.read_zone_list-requires
read_zone_list-requires c = (
  (field_there_law _ _ _ _ _ c.in_ok-n.ensures, count_most _ _ _ _ _ c.in_ok-n.ensures),
  search (zones_room, rules),
)

pub shape_of-w : goal.shape_of-w
shape_of-w c = search (kept_after, rules)

pub returns : goal.returns
returns c = search (zones_lead, rules)
