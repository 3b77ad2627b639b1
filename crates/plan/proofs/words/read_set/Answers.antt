-- By what the count's reader answered: a refusal, or the records after it.
use Rattle.std.proofs.Common.{rules}
use Rattle.plan.proofs.Fields.{field_there_law}
use Rattle.plan.proofs.Into.{kept_after, set_stops, set_leads, records_room}
use Rattle.plan.proofs.Told.{passed_on}
use Rattle.plan.proofs.words.read_set.Goals as goal

pub returns-in_err-n : goal.returns-in_err-n
returns-in_err-n c = rw (passed_on _ _ c.from_residual.ensures) (set_stops _ _ _ _ _ _ _ _ c.in_err-n.ensures)

pub read_records-requires : goal.read_records-requires
read_records-requires c = (field_there_law _ _ _ _ _ c.in_ok-n.ensures, records_room _ _ _ _ _ _ _ _ c.in_ok-n.ensures c.requires.1)

pub shape_of-w : goal.shape_of-w
shape_of-w c = search (kept_after, rules)

pub returns : goal.returns
returns c = search (set_leads, rules)
