-- The words of zone z begin where its id stands.
use Rattle.std.proofs.Common.{rules}
use Rattle.writer.proofs.Putting.{zone_there, zone_written}
use Rattle.writer.proofs.sections.put_zone.Goals as goal

pub put_zone_at-requires : goal.put_zone_at-requires
put_zone_at-requires c = (search rules, search (zone_there, rules))

pub returns-clause-wrote : goal.returns-clause-wrote
returns-clause-wrote c = search (zone_written, rules)
