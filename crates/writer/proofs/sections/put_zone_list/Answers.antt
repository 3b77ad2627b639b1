-- One zone more each time.
use Rattle.std.proofs.Common.{rules}
use Rattle.writer.proofs.Putting.{zones_none, zones_on, zones_end_law}
use Rattle.writer.proofs.sections.put_zone_list.Goals as goal

pub loop-z-init : goal.loop-z-init
loop-z-init c = record { moved = search rules; wrote = search (zones_none, rules) }

pub loop-z-preserved : goal.loop-z-preserved
loop-z-preserved c = record { moved = search rules; wrote = search (zones_on, rules) }

pub put_zone-requires : goal.put_zone-requires
put_zone-requires c = (search rules, (search rules, c.requires.1 c.loop-z.z (search rules)))

pub returns-clause-wrote : goal.returns-clause-wrote
returns-clause-wrote c = search (zones_end_law, rules)
