-- What lies in the words is handed back by value.
use Rattle.plan.proofs.Answers.{regions_by}
use Rattle.plan.proofs.Told.{passed_on, answer_else}
use Rattle.plan.proofs.sections.read_regions.Goals as goal

pub returns-in_err-end : goal.returns-in_err-end
returns-in_err-end c =
    rw (passed_on _ _ c.from_residual.ensures) (answer_else _ _ _ _ _ c.in_err-end.ensures.section)

pub returns : goal.returns
returns c = regions_by _ _ _ _ c.in_ok-end.ensures
