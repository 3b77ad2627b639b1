-- Invariant: whatever table the trail leads back to, the requests that are left lead back to it.
use mathlib.Core.List.{List}
use Rattle.rules.specs.Tables.{Zone}
use Rattle.zones.specs.Trial.{Trail}
use Rattle.zones.proofs.trial.undo_all.Given as goal

abbrev pub invariant-loop-i : goal.invariant-loop-i
invariant-loop-i l = (b : List Zone) → Trail b l.requests l.notes l.done l.initial.t → Trail b l.requests l.notes l.i l.t
