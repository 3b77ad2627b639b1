-- Invariant: from k up to `end` stand the words `width` before, and the others as they were.
use Prim.Native.Nat.{◌+◌, ◌≤◌}
use mathlib.Core.Path.{◌≡◌}
use Rattle.zones.proofs.Opening.{raised}
use Rattle.zones.proofs.words.open_gap.Given as goal

abbrev pub invariant-loop-k : goal.invariant-loop-k
invariant-loop-k l = ((l.at + l.width ≤ l.k) × (l.k ≤ l.end)) × (l.s ≡ raised l.initial.s l.width l.end l.k)
