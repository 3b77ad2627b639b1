-- The zone is where its start says.
use Rattle.std.proofs.Common.{rules}
use Rattle.writer.proofs.Putting.{zone_there}
use Rattle.listing.proofs.Putting.{zone_lines_law}
use Rattle.listing.proofs.lines.put_zone.Goals as goal

pub put_zone_at-requires : goal.put_zone_at-requires
put_zone_at-requires c = (search rules, search (zone_there, rules))

pub returns-clause-wrote : goal.returns-clause-wrote
returns-clause-wrote c = search (zone_lines_law, rules)
