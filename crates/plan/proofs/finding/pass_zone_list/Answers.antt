use Rattle.std.proofs.Common.{rules}
use Rattle.plan.proofs.Locating.{list_begins, list_stops, list_within, list_goes, list_over}
use Rattle.plan.proofs.Told.{passed_on}
use Rattle.plan.proofs.finding.pass_zone_list.Goals as goal

pub loop-i-init : goal.loop-i-init
loop-i-init c = record { there = search rules; whole = list_begins _ _ _ }

pub returns-in_err-at : goal.returns-in_err-at
returns-in_err-at c =
    rw (passed_on _ _ c.from_residual.ensures)
    (list_stops _ _ _ _ _ c.loop-i.invariant.whole (search rules) _ c.in_err-at.ensures)

pub loop-i-preserved : goal.loop-i-preserved
loop-i-preserved c = record {
  there = list_within _ _ _ _ _ c.loop-i.invariant.whole (search rules) _ c.in_ok-at.ensures;
  whole = list_goes _ _ _ _ _ c.loop-i.invariant.whole (search rules) _ c.in_ok-at.ensures;
}

pub returns : goal.returns
returns c = list_over _ _ _ _ _ c.loop-i.invariant.whole (search rules) c.loop-i.invariant.there
