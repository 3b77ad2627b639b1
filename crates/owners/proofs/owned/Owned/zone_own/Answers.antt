-- The CPU set, then the IOMMU set, each at its word.
use borrow.Author.Rules.{rules}
use native.Mathlib.Omega.{arith}
use Rattle.zones.proofs.Readers.{start_is}
use Rattle.owners.proofs.Owns.{zone_stop, zone_told}
use Rattle.owners.proofs.owned.Owned.zone_own.Goals as goal

pub offset_bounds-t-k : goal.offset_bounds-t-k
offset_bounds-t-k c = omega (arith, start_is _ _ c.zone_start-k.ensures c.requires)

pub bounds-t-k : goal.bounds-t-k
bounds-t-k c = omega (arith, start_is _ _ c.zone_start-k.ensures c.requires)

pub overflow_add-k : goal.overflow_add-k
overflow_add-k c = omega (arith, start_is _ _ c.zone_start-k.ensures c.requires)

pub set_own-requires : goal.set_own-requires
set_own-requires c = omega (arith, start_is _ _ c.zone_start-k.ensures c.requires)

pub overflow_add-k-then-set_own : goal.overflow_add-k-then-set_own
overflow_add-k-then-set_own c = omega (arith, start_is _ _ c.zone_start-k.ensures c.requires)

pub overflow_add-k-then-set_own-2 : goal.overflow_add-k-then-set_own-2
overflow_add-k-then-set_own-2 c = omega (arith, start_is _ _ c.zone_start-k.ensures c.requires)

pub set_own-requires-then-set_own : goal.set_own-requires-then-set_own
set_own-requires-then-set_own c = omega (arith, start_is _ _ c.zone_start-k.ensures c.requires)

pub returns-then-set_own : goal.returns-then-set_own
returns-then-set_own c = search (zone_told, rules)

pub returns-else-set_own : goal.returns-else-set_own
returns-else-set_own c = search (zone_stop, rules)
