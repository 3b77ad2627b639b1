-- By the number: a refusal leaves the edition, 0 raises it; the receiver is put back either way.
use Rattle.agent.proofs.Pieces.{ends_refused, ends_accepted, end_room}
use borrow.Author.Rules.{rules}
use Rattle.agent.proofs.peatmitten_end_words.Goals as goal

pub overflow_add-edition : goal.overflow_add-edition
overflow_add-edition c = search (end_room, rules)

pub returns-then-ending-eq0 : goal.returns-then-ending-eq0
returns-then-ending-eq0 c = search (ends_accepted, rules)

pub returns-else-ending-eq0 : goal.returns-else-ending-eq0
returns-else-ending-eq0 c = search (ends_refused, rules)
