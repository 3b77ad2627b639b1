-- Invariant: the table is sound, and the requests from i on, at what the words hold, give the whole run.
use Prim.Native.Nat.{◌*◌}
use Rattle.rules.specs.Limits.{limits}
use Rattle.rules.specs.Run.{request_size, request_from, requests_in, run}
use Rattle.zones.specs.Decide.{Ready}
use Rattle.zones.specs.View.{config_in, zones_in}
use Rattle.zones.proofs.Running.{Left}
use Rattle.zones.proofs.run.run_ready.Given as goal

abbrev pub invariant-loop-i : goal.invariant-loop-i
invariant-loop-i l = Ready l.c l.t
    × Left l.c (λ j. request_from l.requests (j * request_size)) l.n
    (run limits (config_in l.c) (zones_in l.initial.t) (requests_in l.requests)) l.t l.i
