-- By the second word, then by the first.
use Rattle.std.proofs.Common.{rules}
use Rattle.receiver.proofs.Calls.{more_came, none_came}
use Rattle.receiver.proofs.is_over.Goals as goal

pub returns-then-r-ne0 : goal.returns-then-r-ne0
returns-then-r-ne0 c = search (more_came, rules)

pub returns-else-r-ne0 : goal.returns-else-r-ne0
returns-else-r-ne0 c = search (none_came, rules)
