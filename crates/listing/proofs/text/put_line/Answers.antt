-- The id, the word of the side, then the rest.
use Rattle.std.proofs.Common.{rules}
use Rattle.listing.proofs.Putting.{line_put}
use Rattle.listing.proofs.text.put_line.Goals as goal

pub returns-clause-wrote : goal.returns-clause-wrote
returns-clause-wrote c = search (line_put, rules)
