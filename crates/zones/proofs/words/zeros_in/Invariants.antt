-- Invariant: whether the words from k on are zero is the whole answer.
use Prim.Native.Nat.{◌-◌, ◌≤◌}
use mathlib.Core.Path.{◌≡◌}
use Rattle.zones.specs.Packing.{zeros}
use Rattle.zones.proofs.words.zeros_in.Given as goal

abbrev pub invariant-loop-k : goal.invariant-loop-k
invariant-loop-k l = (l.k ≤ l.e) × (zeros l.s l.k (l.e - l.k) ≡ zeros l.s l.a (l.e - l.a))

abbrev pub decreases-loop-k : goal.decreases-loop-k
decreases-loop-k l = l.e - l.k
