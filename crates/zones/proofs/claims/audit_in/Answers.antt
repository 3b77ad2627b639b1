-- 1 and 2 first; a table that stands is ready for the loop.
use borrow.Author.Rules.{rules}
use mathlib.Core.Path.{refl, ap, ◌∙◌}
use Rattle.rules.specs.Logs.{claimless}
use Rattle.zones.proofs.Auditing.{none_audited, all_audited}
use Rattle.zones.proofs.Ruling.{number_some}
use Rattle.zones.proofs.Stepping.{stands_ready}
use Rattle.zones.proofs.claims.audit_in.Goals as goal

pub returns-in-Err : goal.returns-in-Err
returns-in-Err c = none_audited c.args.c.now c.args.t.now c.args.requests.now c.args.claims.now _ c.in-Err.ensures (number_some _) _
    (c.without_claim.ensures ∙ ap claimless c.refused.ensures)

pub audit_ready-requires : goal.audit_ready-requires
audit_ready-requires c = stands_ready c.args.c.now c.args.t.now 0 c.in_default.ensures refl (search rules)

pub returns : goal.returns
returns c = all_audited c.args.c.now c.args.t.now c.args.requests.now c.args.claims.now 0 c.in_default.ensures refl _ _ c.audit_ready.ensures.0 c.audit_ready.ensures.1
