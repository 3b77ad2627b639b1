-- Invariant: every region below i is well formed and in reach, so that each sum is below the reach and a page; the
-- number of keys stays.
use mathlib.Core.Path.{◌≡◌}
use lib.ListN.{length}
use Rattle.zones.specs.Spans.{FitBelow}
use Rattle.zones.proofs.keys.fill_keys.Given as goal

abbrev pub invariant-loop-i : goal.invariant-loop-i
invariant-loop-i l = FitBelow l.c l.i × (length l.keys ≡ length l.initial.keys)
