-- One zone more each time.
use Rattle.std.proofs.Common.{rules}
use Rattle.wanted.proofs.Putting.{rows_none, rows_on, regions_end}
use Rattle.wanted.proofs.list.put_regions.Goals as goal

pub loop-z-init : goal.loop-z-init
loop-z-init c = record { moved = search rules; wrote = search (rows_none, rules) }

pub loop-z-preserved : goal.loop-z-preserved
loop-z-preserved c = record { moved = search rules; wrote = search (rows_on, rules) }

pub returns-clause-wrote : goal.returns-clause-wrote
returns-clause-wrote c = search (regions_end, rules)
