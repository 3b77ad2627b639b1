-- The id is there or not; then two sets, of which the first says where the second begins.
use Rattle.plan.proofs.Fields.{field_there_law}
use Rattle.plan.proofs.Locating.{zone_none, zone_stops, second_there, zone_ends}
use Rattle.plan.proofs.Told.{passed_on}
use Rattle.plan.proofs.finding.pass_zone.Goals as goal

pub returns-in_err-number_at : goal.returns-in_err-number_at
returns-in_err-number_at c = rw (passed_on _ _ c.from_residual.ensures) (zone_none _ _ _ c.in_err-number_at.ensures)

pub pass_list-requires : goal.pass_list-requires
pass_list-requires c = field_there_law _ _ _ _ _ c.in_ok-number_at.ensures

pub returns-in_err-at : goal.returns-in_err-at
returns-in_err-at c =
    rw (passed_on _ _ c.from_residual-in_err-at.ensures) (zone_stops _ _ _ c.in_ok-number_at.ensures _ c.in_err-at.ensures)

pub pass_list-requires-2 : goal.pass_list-requires-2
pass_list-requires-2 c = second_there _ _ _ c.in_ok-number_at.ensures _ c.in_ok-at.ensures

pub returns : goal.returns
returns c = zone_ends _ _ _ c.in_ok-number_at.ensures _ c.in_ok-at.ensures _ c.pass_list-2.ensures
