-- Its request, or nothing for a region that is held.
use Rattle.std.proofs.Common.{rules}
use Rattle.wanted.proofs.Putting.{held_put, lacked_put}
use Rattle.wanted.proofs.list.put_lacked.Goals as goal

pub returns-then-not-is_held-clause-wrote : goal.returns-then-not-is_held-clause-wrote
returns-then-not-is_held-clause-wrote c = search (lacked_put, rules)

pub returns-else-not-is_held-clause-wrote : goal.returns-else-not-is_held-clause-wrote
returns-else-not-is_held-clause-wrote c = search (held_put, rules)
