-- Invariant: whether the positions that are left to name stand in turn from `reached` on is the whole answer, and with
-- those met they are all that are named.
use Prim.Native.Nat.{◌+◌, ◌-◌, ◌≤◌}
use mathlib.Core.List.{map}
use mathlib.Core.Path.{◌≡◌}
use lib.ListN.{length}
use Rattle.zones.specs.Spans.{spaced, span_at, named}
use Rattle.zones.proofs.apart.apart_below.Given as goal

abbrev pub invariant-loop-key : goal.invariant-loop-key
invariant-loop-key l = (l.met ≤ l.key-index)
    × ((spaced l.reached (map (span_at l.c) (named l.keys l.m l.key-index (length l.keys - l.key-index)))
    ≡ spaced 0 (map (span_at l.c) (named l.keys l.m 0 (length l.keys))))
    × (l.met + length (named l.keys l.m l.key-index (length l.keys - l.key-index)) ≡ length (named l.keys l.m 0 (length l.keys))))
