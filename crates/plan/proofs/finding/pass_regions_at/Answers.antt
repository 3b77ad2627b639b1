-- By whether the bytes reach the section.
use Rattle.plan.proofs.Locating.{reached_there, list_beyond}
use Rattle.plan.proofs.Told.{passed_on}
use Rattle.plan.proofs.finding.pass_regions_at.Goals as goal

pub returns-in_err-reaches : goal.returns-in_err-reaches
returns-in_err-reaches c = rw (passed_on _ _ c.from_residual.ensures) (list_beyond _ _ _ _ _ _ c.in_err-reaches.ensures)

pub pass_list-requires : goal.pass_list-requires
pass_list-requires c = reached_there _ _ _ c.in_ok-reaches.ensures
