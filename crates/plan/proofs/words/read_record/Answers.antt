-- The record is placed where it has room, which is what the step says.
use Rattle.plan.proofs.Into.{record_stops, record_ends}
use Rattle.plan.proofs.Told.{passed_on}
use Rattle.plan.proofs.words.read_record.Goals as goal

pub returns-in_err-r : goal.returns-in_err-r
returns-in_err-r c = rw (passed_on _ _ c.from_residual.ensures) (record_stops _ _ _ _ _ _ c.in_err-r.ensures)

pub returns : goal.returns
returns c = record_ends _ _ _ _ _ _ _ c.in_ok-r.ensures c.put_region.ensures c.requires.1
