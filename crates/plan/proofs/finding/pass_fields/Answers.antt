-- By what the count's reader answered: a refusal, or as many fields, which are cut or there.
use Rattle.plan.proofs.Fields.{field_there_law}
use Rattle.plan.proofs.Passing.{fields_stop, fields_short, fields_end}
use Rattle.plan.proofs.Told.{passed_on}
use Rattle.plan.proofs.finding.pass_fields.Goals as goal

pub returns-in_err-n : goal.returns-in_err-n
returns-in_err-n c = rw (passed_on _ _ c.from_residual.ensures) (fields_stop _ _ _ _ _ _ c.in_err-n.ensures)

pub overflow_sub-whole : goal.overflow_sub-whole
overflow_sub-whole c = field_there_law _ _ _ _ _ c.in_ok-n.ensures

pub returns-then-whole-n : goal.returns-then-whole-n
returns-then-whole-n c = fields_short _ _ _ _ _ _ c.in_ok-n.ensures c.if-whole-n.true

pub returns : goal.returns
returns c = fields_end _ _ _ _ _ _ c.in_ok-n.ensures c.if-whole-n.false
