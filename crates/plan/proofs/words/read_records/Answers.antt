use Rattle.std.proofs.Common.{rules}
use Rattle.plan.proofs.Into.{loop_starts, loop_stops, loop_goes, loop_ends, within_end}
use Rattle.plan.proofs.Told.{passed_on}
use Rattle.plan.proofs.words.read_records.Goals as goal

pub loop-i-init : goal.loop-i-init
loop-i-init c = record { there = search rules; same = search rules; whole = search (loop_starts, rules) }

pub returns-in_err-at : goal.returns-in_err-at
returns-in_err-at c =
    rw (passed_on _ _ c.from_residual.ensures)
    (loop_stops _ _ _ _ _ _ _ c.loop-i.invariant.whole (search rules) _ _ c.in_err-at.ensures)

pub loop-i-preserved : goal.loop-i-preserved
loop-i-preserved c = record {
  there = within_end _ _ _ _ c.in_ok-at.ensures;
  same = search rules;
  whole = loop_goes _ _ _ _ _ _ _ c.loop-i.invariant.whole (search rules) _ _ c.in_ok-at.ensures;
}

pub returns : goal.returns
returns c = loop_ends _ _ _ _ _ _ _ c.loop-i.invariant.whole (search rules) c.loop-i.invariant.there
