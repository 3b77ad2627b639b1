-- The lines of the two sets, one behind the other.
use Rattle.std.proofs.Common.{rules}
use Rattle.listing.proofs.Putting.{zone_put}
use Rattle.listing.proofs.lines.put_zone_at.Goals as goal

pub returns-clause-wrote : goal.returns-clause-wrote
returns-clause-wrote c = search (zone_put, rules)
