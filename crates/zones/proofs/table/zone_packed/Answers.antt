-- Each return is one test of the conjunction: the CPU set, then the IOMMU set.
use borrow.Author.Rules.{rules}
use mathlib.Core.Path.{◌∙◌}
use Rattle.lists.proofs.Tests.{conjunction}
use Rattle.zones.specs.Packing.{zone_packed}
use Rattle.zones.proofs.Packing.{packed_at}
use Rattle.zones.proofs.table.zone_packed.Goals as goal

pub returns-then-set_packed : goal.returns-then-set_packed
unfolding zone_packed
returns-then-set_packed c = search (conjunction, packed_at, rules) depth 12

pub returns-else-set_packed : goal.returns-else-set_packed
unfolding zone_packed
returns-else-set_packed c = c.if-set_packed.false ∙ search (conjunction, packed_at, rules) depth 12
