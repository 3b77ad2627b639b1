-- Each return is one test of the conjunction: the count, then zeros after its records.
use borrow.Author.Rules.{rules}
use borrow.Author.Tests.{lt-leb}
use mathlib.Core.Path.{◌∙◌}
use Rattle.lists.proofs.Tests.{conjunction}
use Rattle.zones.specs.Packing.{set_packed}
use Rattle.zones.proofs.Packing.{free_records}
use Rattle.zones.proofs.table.set_packed.Goals as goal

pub returns-then-n-le-MOST_IN_SET : goal.returns-then-n-le-MOST_IN_SET
unfolding set_packed
returns-then-n-le-MOST_IN_SET c = search (conjunction, free_records, rules)

pub returns-else-n-le-MOST_IN_SET : goal.returns-else-n-le-MOST_IN_SET
unfolding set_packed
returns-else-n-le-MOST_IN_SET c = lt-leb _ _ c.if-n-le-MOST_IN_SET.false ∙ search conjunction
