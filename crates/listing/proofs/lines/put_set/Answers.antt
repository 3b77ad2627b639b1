-- One line more each time.
use Rattle.std.proofs.Common.{rules}
use Rattle.listing.proofs.Putting.{set_none, set_on, set_end}
use Rattle.listing.proofs.lines.put_set.Goals as goal

pub loop-i-init : goal.loop-i-init
loop-i-init c = record { moved = search rules; wrote = search (set_none, rules) }

pub loop-i-preserved : goal.loop-i-preserved
loop-i-preserved c = record { moved = search rules; wrote = search (set_on, rules) }

pub returns-clause-wrote : goal.returns-clause-wrote
returns-clause-wrote c = search (set_end, rules)
