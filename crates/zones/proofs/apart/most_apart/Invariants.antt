-- Invariant: the positions below lo have no fault, by what the last call that said so told.
use Prim.Native.Nat.{◌-◌, ◌≤◌}
use Rattle.zones.specs.Spans.{ClearBelow}
use Rattle.zones.proofs.apart.most_apart.Given as goal

abbrev pub invariant-loop-hi : goal.invariant-loop-hi
invariant-loop-hi l = ((l.lo ≤ l.hi) × (l.hi ≤ l.n)) × ClearBelow l.c l.lo

abbrev pub decreases-loop-hi : goal.decreases-loop-hi
decreases-loop-hi l = l.hi - l.lo
