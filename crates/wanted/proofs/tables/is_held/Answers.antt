use borrow.Author.Rules.{rules}
use Rattle.lists.proofs.First.{from_zero}
use Rattle.zones.proofs.Records.{record_read, record_on}
use Rattle.wanted.proofs.Looking.{region_held, region_lacked}
use Rattle.wanted.proofs.tables.is_held.Goals as goal

pub loop-i-init : goal.loop-i-init
loop-i-init c = search from_zero

pub returns-then-region_eq : goal.returns-then-region_eq
returns-then-region_eq c = search (region_held, record_read, rules)

pub loop-i-preserved : goal.loop-i-preserved
loop-i-preserved c = search (record_on, record_read, rules)

pub returns : goal.returns
returns c = search (region_lacked, rules)
