-- By the number: a refusal leaves the state, 0 moves it.
use Rattle.plan.proofs.Outcomes.{value_refused, edition_room, value_accepted}
use borrow.Author.Rules.{rules}
use Rattle.plan.proofs.applying.apply.Goals as goal

pub returns-then-outcome-ne0 : goal.returns-then-outcome-ne0
returns-then-outcome-ne0 c = search (value_refused, rules)

pub overflow_add-result : goal.overflow_add-result
overflow_add-result c = search (edition_room, rules)

pub returns : goal.returns
returns c = search (value_accepted, rules)
