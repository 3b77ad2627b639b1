-- A number made of a reason is that reason's.
use Rattle.plan.specs.Told.{by_number}
use Rattle.plan.proofs.finding.whole_numbered.Goals as goal

pub returns : goal.returns
returns c = c.whole_at.ensures.told_by_any by_number (λ r e h. h)
