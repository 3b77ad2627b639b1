-- The zone begins where it must, since there is such a zone; its id is stored there, and its sets behind it.
use Rattle.std.proofs.Common.{rules, arith}
use lib.ListN.{length-set}
use Rattle.zones.proofs.Readers.{start_is}
use Rattle.plan.proofs.Fields.{field_there_law}
use Rattle.plan.proofs.Into.{kept_after, zone_stops, zone_leads}
use Rattle.plan.proofs.Told.{passed_on}
use Rattle.plan.proofs.words.read_zone.Goals as goal

pub returns-in_err-id : goal.returns-in_err-id
returns-in_err-id c = rw (passed_on _ _ c.from_residual.ensures) (zone_stops _ _ _ _ _ c.in_err-id.ensures)

pub offset_bounds-w-z : goal.offset_bounds-w-z
offset_bounds-w-z c = omega (arith, start_is _ _ c.zone_start-z.ensures (omega arith))

pub bounds-w-z : goal.bounds-w-z
bounds-w-z c = omega (arith, start_is _ _ c.zone_start-z.ensures (omega arith))

pub overflow_add-z : goal.overflow_add-z
overflow_add-z c = omega (arith, start_is _ _ c.zone_start-z.ensures (omega arith))

pub read_sets-requires : goal.read_sets-requires
read_sets-requires c = (
  field_there_law _ _ _ _ _ c.in_ok-id.ensures,
  simp length-set (omega (arith, start_is _ _ c.zone_start-z.ensures (omega arith))),
)

pub shape_of-w : goal.shape_of-w
shape_of-w c = search (kept_after, rules)

pub returns : goal.returns
returns c = search (zone_leads, rules)
