-- Invariant: none of the bits is set exactly where the first i words are zero.
use mathlib.Core.Path.{◌≡◌}
use lib.Dec.{eqb}
use Rattle.zones.specs.Packing.{zeros}
use Rattle.zones.proofs.words.bits_in.Given as goal

abbrev pub invariant-loop-i : goal.invariant-loop-i
invariant-loop-i l = eqb l.x 0 ≡ zeros l.s l.k l.i
