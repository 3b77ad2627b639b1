-- Two cases: more came, or what the first word says.
use Rattle.std.proofs.Common.{rules}
use Rattle.receiver.proofs.Calls.{stored_over, stored_under}
use Rattle.receiver.proofs.stored_in.Goals as goal

pub returns-then-is_over : goal.returns-then-is_over
returns-then-is_over c = search (stored_over, rules)

pub returns-else-is_over : goal.returns-else-is_over
returns-else-is_over c = search (stored_under, rules)
