-- The tests stand in the order of the definition.
use borrow.Author.Rules.{rules}
use mathlib.Core.Path.{◌∙◌}
use Rattle.lists.proofs.Tests.{conjunction}
use Rattle.zones.specs.Packing.{packed}
use Rattle.zones.proofs.Packing.{free_zones}
use Rattle.zones.proofs.table.is_packed.Goals as goal

pub returns-then-n-gt-MOST_ZONES : goal.returns-then-n-gt-MOST_ZONES
unfolding packed
returns-then-n-gt-MOST_ZONES c = search conjunction

pub returns-then-zones_packed : goal.returns-then-zones_packed
unfolding packed
returns-then-zones_packed c = search (conjunction, free_zones, rules) depth 12

pub returns-else-zones_packed : goal.returns-else-zones_packed
unfolding packed
returns-else-zones_packed c = c.if-zones_packed.false ∙ search conjunction depth 12
