-- What is refused leaves the words that were given.
use mathlib.Core.Path.{subst}
use Rattle.std.proofs.lemmas.Result.{err_from_is_err_and}
use Rattle.zones.specs.Step.{Stepped}
use Rattle.zones.proofs.Kept.{refused_step_stays}
use Rattle.zones.proofs.Ruling.{number_some}
use Rattle.zones.proofs.steps.step.Goals as goal

pub returns-in_err-step_in : goal.returns-in_err-step_in
returns-in_err-step_in c = let p = err_from_is_err_and c.from_residual.result c.from_residual.ensures.1 in
    let h = c.in_err-step_in.ensures in
    rw (p.1, p.2) (subst (Stepped _ _ _ _) (refused_step_stays _ _ _ _ _ h (number_some _)) h)
