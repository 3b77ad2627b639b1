use mathlib.Core.Path.{◌∙◌}
use Rattle.plan.proofs.Passing.{requests_pass}
use Rattle.plan.proofs.finding.pass_requests.Goals as goal

pub returns : goal.returns
returns c = c.pass_fields.ensures ∙ requests_pass _ _ c.requires
