use borrow.Author.Rules.{rules}
use mathlib.Core.Path.{refl, ◌∙◌}
use Rattle.zones.specs.Trial.{asks}
use Rattle.zones.proofs.Ruling.{number_some}
use Rattle.zones.proofs.Running.{ready_on, run_on, run_stops, run_stays, run_ends, run_leaves, run_starts}
use Rattle.zones.proofs.run.run_ready.Goals as goal

pub loop-i-init : goal.loop-i-init
loop-i-init c = (search rules, search (run_starts, rules))

pub returns-in-Err : goal.returns-in-Err
returns-in-Err c = let inv = c.loop-i.invariant in (
  c.stopped_at.ensures
      ∙ run_stops c.args.c.now (asks c.args.requests.now) _ _ _ _ _ _ _ inv.1 c.loop-i-test.true c.request_at.ensures
      c.in-Err.ensures.0 c.step_ready.ensures.1 (number_some _),
  run_stays c.args.c.now (asks c.args.requests.now) _ _ _ _ _ _ _ inv.1 c.loop-i-test.true c.request_at.ensures
      c.in-Err.ensures.0 c.step_ready.ensures.1 (number_some _),
)

pub loop-i-preserved : goal.loop-i-preserved
loop-i-preserved c = let inv = c.loop-i.invariant in (
  ready_on _ _ _ _ inv.0 c.step_ready.ensures.1,
  run_on c.args.c.now (asks c.args.requests.now) _ _ _ _ _ 0 _ inv.1 c.loop-i-test.true c.request_at.ensures
      c.in_default.ensures.0 c.step_ready.ensures.1 inv.0 refl,
)

pub returns : goal.returns
returns c = let inv = c.loop-i.invariant in (
  c.done.ensures
      ∙ run_ends c.args.c.now (asks c.args.requests.now) _ _ c.loop-i.t _ inv.1 c.loop-i-test.false c.loop-i.auto.i-end,
  run_leaves c.args.c.now (asks c.args.requests.now) _ _ c.loop-i.t _ inv.1 c.loop-i-test.false c.loop-i.auto.i-end inv.0,
)
