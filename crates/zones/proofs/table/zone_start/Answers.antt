-- The two answers are those of the test.
use borrow.Author.Rules.{rules}
use Rattle.zones.proofs.Readers.{start_within, start_past}
use Rattle.zones.proofs.table.zone_start.Goals as goal

pub returns-then-z-lt-MOST_ZONES : goal.returns-then-z-lt-MOST_ZONES
returns-then-z-lt-MOST_ZONES c = search (start_within, rules)

pub returns : goal.returns
returns c = search (start_past, rules)
