use borrow.Author.Rules.{rules}
use Rattle.lists.proofs.First.{from_zero}
use Rattle.zones.proofs.Readers.{zone_on}
use Rattle.wanted.proofs.Looking.{zone_found, zone_nowhere}
use Rattle.wanted.proofs.tables.find_zone.Goals as goal

pub loop-z-init : goal.loop-z-init
loop-z-init c = search from_zero

pub returns-then-id_at-id : goal.returns-then-id_at-id
returns-then-id_at-id c = search (zone_found, rules)

pub loop-z-preserved : goal.loop-z-preserved
loop-z-preserved c = search (zone_on, rules)

pub returns : goal.returns
returns c = search (zone_nowhere, rules)
