-- Invariant: from `at` up to k stand the words `width` further on, and the others as they were.
use Prim.Native.Nat.{◌+◌, ◌-◌}
use mathlib.Core.Path.{◌≡◌}
use lib.ListN.{drop}
use lib.Seq.{paste}
use Rattle.zones.proofs.words.move_down.Given as goal

abbrev pub invariant-loop-k : goal.invariant-loop-k
invariant-loop-k l = l.s ≡ paste l.initial.s l.at (drop (l.at + l.width) l.initial.s) (l.k - l.at)
