-- Invariant: what is counted and what is left to count are one more than all.
use Prim.Native.Nat.{suc, ◌+◌, ◌≤◌}
use mathlib.Core.Path.{◌≡◌}
use Rattle.formats.specs.Texts.{width}
use Rattle.listing.proofs.text.width.Given as goal

abbrev pub invariant-loop-rest : goal.invariant-loop-rest
invariant-loop-rest l = (l.k ≤ 20) × (l.k + width l.rest ≡ suc (width l.n))

abbrev pub decreases-loop-rest : goal.decreases-loop-rest
decreases-loop-rest l = l.rest
