-- Two cases: the plan has earned the number, or the state does not stand.
use mathlib.Core.Path.{ap, ap₂, ◌∙◌}
use Rattle.plan.specs.Steps.{away_with}
use Rattle.plan.proofs.base.away.Goals as goal

pub returns-in-Ok : goal.returns-in-Ok
returns-in-Ok c =
    rw c.in-Ok.is (c.turned_away.ensures ∙ ap (λ k. away_with 0 k c.args.earned.at) c.from.ensures)

pub returns-in-Err : goal.returns-in-Err
returns-in-Err c =
    rw c.in-Err.is
    (c.turned_away-in-Err.ensures
    ∙ ap₂ (λ own k. away_with own k c.args.earned.at) c.from-in-Err.ensures c.from-in-Err-2.ensures)
