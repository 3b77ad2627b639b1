use Rattle.plan.proofs.Outcomes.{applied_in}
use Rattle.plan.proofs.applying.apply_words.Goals as goal

pub returns : goal.returns
returns c = applied_in _ _ _ _ _ _ c.apply_by.ensures
