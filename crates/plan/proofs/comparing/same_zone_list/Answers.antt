use Rattle.std.proofs.Common.{rules}
use mathlib.Core.Path.{◌∙◌}
use Rattle.plan.proofs.Holding.{zones_begin, zones_stop, zones_go, zones_within, zones_over}
use Rattle.plan.proofs.comparing.same_zone_list.Goals as goal

pub loop-i-init : goal.loop-i-init
loop-i-init c = record { there = search rules; whole = zones_begin _ _ _ _ }

pub returns-in_err-at : goal.returns-in_err-at
returns-in_err-at c =
    c.from_residual.ensures
    ∙ zones_stop _ _ _ _ _ _ c.loop-i.invariant.whole c.loop-i-test.true c.in_err-at.ensures

pub loop-i-preserved : goal.loop-i-preserved
loop-i-preserved c = record {
  there = zones_within _ _ _ _ _ _ c.loop-i.invariant.whole c.loop-i-test.true _ c.in_ok-at.ensures;
  whole = zones_go _ _ _ _ _ _ c.loop-i.invariant.whole c.loop-i-test.true _ c.in_ok-at.ensures;
}

pub returns : goal.returns
returns c = zones_over _ _ _ _ _ _ c.loop-i.invariant.whole (search rules) c.loop-i.invariant.there
