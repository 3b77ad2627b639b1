-- By the slot that is current.
use Rattle.storage.proofs.Calls.{stored_first, stored_second}
use borrow.Author.Rules.{rules}
use Rattle.storage.proofs.apply_stored.Goals as goal

pub returns-then-slot-eq0 : goal.returns-then-slot-eq0
returns-then-slot-eq0 c = search (stored_first, rules)

pub returns : goal.returns
returns c = search (stored_second, rules)
