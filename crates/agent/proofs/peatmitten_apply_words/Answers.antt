-- By the number: a refusal leaves the edition, 0 raises it.
use Rattle.agent.proofs.Answers.{applies_refused, applies_accepted, next_room}
use borrow.Author.Rules.{rules}
use Rattle.agent.proofs.peatmitten_apply_words.Goals as goal

pub overflow_add-edition : goal.overflow_add-edition
overflow_add-edition c = search (next_room, rules)

pub returns-then-outcome-eq0 : goal.returns-then-outcome-eq0
returns-then-outcome-eq0 c = search (applies_accepted, rules)

pub returns-else-outcome-eq0 : goal.returns-else-outcome-eq0
returns-else-outcome-eq0 c = search (applies_refused, rules)
