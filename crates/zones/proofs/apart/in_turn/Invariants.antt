-- Invariant: whether the regions from i on stand in turn from `end` on is the whole answer.
use Prim.Native.Nat.{◌-◌, ◌≤◌}
use mathlib.Core.List.{map}
use mathlib.Core.Path.{◌≡◌}
use Rattle.lists.specs.Places.{places}
use Rattle.zones.specs.Spans.{spaced, span_at}
use Rattle.zones.proofs.apart.in_turn.Given as goal

abbrev pub invariant-loop-i : goal.invariant-loop-i
invariant-loop-i l = (l.i ≤ l.n)
    × (spaced l.end (map (span_at l.c) (places l.i (l.n - l.i))) ≡ spaced 0 (map (span_at l.c) (places 0 l.n)))
