-- Nothing for a zone that is there, else its request.
use Rattle.std.proofs.Common.{rules}
use Rattle.wanted.proofs.Putting.{there_put, missed_put}
use Rattle.wanted.proofs.list.put_missed.Goals as goal

pub returns-then-find_zone-lt-TABLE_WORDS-clause-wrote : goal.returns-then-find_zone-lt-TABLE_WORDS-clause-wrote
returns-then-find_zone-lt-TABLE_WORDS-clause-wrote c = search (there_put, rules)

pub returns-clause-wrote : goal.returns-clause-wrote
returns-clause-wrote c = search (missed_put, rules)
