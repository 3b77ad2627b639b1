use mathlib.Core.Path.{◌∙◌}
use Rattle.plan.proofs.Passing.{regions_pass}
use Rattle.plan.proofs.finding.pass_list.Goals as goal

pub returns : goal.returns
returns c = c.pass_fields.ensures ∙ regions_pass _ _ _ _ c.requires
