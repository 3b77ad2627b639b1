-- By what the count's reader answered: a refusal, or so many zones.
use Rattle.plan.proofs.Fields.{field_there_law}
use Rattle.plan.proofs.Locating.{zones_none, zones_pass}
use Rattle.plan.proofs.Told.{passed_on}
use Rattle.plan.proofs.finding.pass_zones_at.Goals as goal

pub returns-in_err-n : goal.returns-in_err-n
returns-in_err-n c = rw (passed_on _ _ c.from_residual.ensures) (zones_none _ _ _ c.in_err-n.ensures)

pub pass_zone_list-requires : goal.pass_zone_list-requires
pass_zone_list-requires c = field_there_law _ _ _ _ _ c.in_ok-n.ensures

pub returns : goal.returns
returns c = zones_pass _ _ _ c.in_ok-n.ensures _ c.pass_zone_list.ensures
