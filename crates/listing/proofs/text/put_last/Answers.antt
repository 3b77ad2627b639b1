-- The rights and a space, then the shift.
use Rattle.std.proofs.Common.{rules}
use Rattle.listing.proofs.Putting.{last_put}
use Rattle.listing.proofs.text.put_last.Goals as goal

pub returns-clause-wrote : goal.returns-clause-wrote
returns-clause-wrote c = search (last_put, rules)
