-- Invariant: from place i on the two go alike as far as they do from their starts.
use Rattle.std.proofs.Common.{◌≡◌}
use Rattle.lists.specs.Alike.{alike}
use Rattle.lists.proofs.Alike.{alike_from}
use Rattle.differing.proofs.alike.Given as goal

abbrev pub invariant-loop-i : goal.invariant-loop-i
invariant-loop-i l = alike_from l.first l.second l.i ≡ alike l.first l.second
