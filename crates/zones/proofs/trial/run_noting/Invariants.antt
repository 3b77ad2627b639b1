-- Invariant: the table is sound, the requests from i on give the whole run, and the notes so far tell how to undo it.
use mathlib.Core.Path.{◌≡◌}
use lib.ListN.{length}
use Rattle.rules.specs.Limits.{limits}
use Rattle.rules.specs.Run.{requests_in, run}
use Rattle.zones.specs.Decide.{Ready}
use Rattle.zones.specs.Trial.{asks, Trail}
use Rattle.zones.specs.View.{config_in, zones_in}
use Rattle.zones.proofs.Running.{Left}
use Rattle.zones.proofs.trial.run_noting.Given as goal

abbrev pub invariant-loop-i : goal.invariant-loop-i
invariant-loop-i l = ((Ready l.c l.t × (length l.notes ≡ length l.initial.notes))
    × Left l.c (asks l.requests) l.n (run limits (config_in l.c) (zones_in l.initial.t) (requests_in l.requests)) l.t l.i)
    × Trail (zones_in l.initial.t) l.requests l.notes l.i l.t
