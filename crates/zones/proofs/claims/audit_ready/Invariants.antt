-- Invariant: the table is sound, and the requests and claims from i on, at what the words hold, give the whole audit.
use Rattle.rules.specs.Limits.{limits}
use Rattle.rules.specs.Logs.{audit_from, claims_in}
use Rattle.rules.specs.Run.{requests_in}
use Rattle.zones.specs.Decide.{Ready}
use Rattle.zones.specs.View.{config_in, zones_in}
use Rattle.zones.proofs.Auditing.{Due}
use Rattle.zones.proofs.claims.audit_ready.Given as goal

abbrev pub invariant-loop-i : goal.invariant-loop-i
invariant-loop-i l = Ready l.c l.t
    × Due l.c l.requests l.claims l.asked l.told
    (audit_from limits (config_in l.c) 0 (zones_in l.initial.t) (requests_in l.requests) (claims_in l.claims)) l.t l.i
