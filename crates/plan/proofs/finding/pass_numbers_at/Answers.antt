-- By whether the bytes reach the section.
use Rattle.std.proofs.Common.{arith}
use mathlib.Core.Path.{◌∙◌}
use Rattle.plan.proofs.Locating.{reached_there, list_beyond}
use Rattle.plan.proofs.Numbers.{numbers_pass}
use Rattle.plan.proofs.Told.{passed_on}
use Rattle.plan.proofs.finding.pass_numbers_at.Goals as goal

pub returns-in_err-reaches : goal.returns-in_err-reaches
returns-in_err-reaches c = rw (passed_on _ _ c.from_residual.ensures) (list_beyond _ _ _ _ _ _ c.in_err-reaches.ensures)

pub pass_fields-requires : goal.pass_fields-requires
pass_fields-requires c = (reached_there _ _ _ c.in_ok-reaches.ensures, omega arith)

pub returns : goal.returns
returns c = c.pass_fields.ensures ∙ numbers_pass _ _ _ (reached_there _ _ _ c.in_ok-reaches.ensures)
