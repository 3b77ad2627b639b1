use borrow.Author.Rules.{rules}
use mathlib.Core.Path.{ap, ◌∙◌}
use Rattle.rules.specs.Logs.{claimless}
use Rattle.zones.proofs.Auditing.{claim_stops, claim_on, claim_stays, claims_hold, claims_start}
use Rattle.zones.proofs.Stepping.{decided_allowed}
use Rattle.zones.proofs.claims.audit_ready.Goals as goal
use Rattle.zones.proofs.claims.audit_ready.Goals.{in-Ok, in_default}

pub loop-i-init : goal.loop-i-init
loop-i-init c = (search rules, search (claims_start, rules))

pub returns-then-right-claimed : goal.returns-then-right-claimed
returns-then-right-claimed c = let inv = c.loop-i.invariant in
    claim_stops _ _ _ _ _ _ _ _ _ _ _ _ _ inv.0 c.loop-i-test.true
    c.min-n.ensures c.request_at.ensures
    c.decide-decision.ensures c.number-right.ensures
    c.u32_at-claimed.ensures inv.1 (search rules) _ c.false_claim.ensures

pub commit-requires : goal.commit-requires
commit-requires c = (search rules, decided_allowed _ _ _ _ c.decide-decision.ensures _ c.in-Ok.is)

pub loop-i-preserved : goal.loop-i-preserved
loop-i-preserved c = let inv = c.loop-i.invariant in
    elim c.match-decision.branch [
      | in-Ok w ↦ rw w.t-is
          (claim_on _ _ _ _ _ _ _ _ _ _ _ _ _ inv.0 c.loop-i-test.true
          c.min-n.ensures c.request_at.ensures
          c.decide-decision.ensures c.number-right.ensures
          c.u32_at-claimed.ensures inv.1 (search rules) _ w.in-Ok.is _ w.commit.ensures)
      | in_default w ↦ rw w.t-is
          (claim_stays _ _ _ _ _ _ _ _ _ _ _ _ _ inv.0 c.loop-i-test.true
          c.min-n.ensures c.request_at.ensures
          c.decide-decision.ensures c.number-right.ensures
          c.u32_at-claimed.ensures inv.1 (search rules) _ w.in_default.is)
    ]

pub returns : goal.returns
returns c = let inv = c.loop-i.invariant in
    claims_hold _ _ _ _ _ _ _ _ _ inv.0 inv.1 c.loop-i-test.false c.loop-i.auto.i-end
    c.min-n.ensures _ (c.without_claim.ensures ∙ ap claimless c.done.ensures)
