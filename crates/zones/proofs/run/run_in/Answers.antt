-- 1 and 2 first; a table that stands is ready for the loop.
use borrow.Author.Rules.{rules}
use mathlib.Core.Path.{refl}
use Rattle.zones.proofs.Ruling.{number_some}
use Rattle.zones.proofs.Running.{none_run, all_run}
use Rattle.zones.proofs.Stepping.{stands_ready}
use Rattle.zones.proofs.run.run_in.Goals as goal

pub returns-in-Err : goal.returns-in-Err
returns-in-Err c = rw c.refused.ensures (none_run c.args.c.now c.args.t.now c.args.requests.now _ c.in-Err.ensures (number_some _))

pub run_ready-requires : goal.run_ready-requires
run_ready-requires c = stands_ready c.args.c.now c.args.t.now 0 c.in_default.ensures refl (search rules)

pub returns : goal.returns
returns c = all_run c.args.c.now c.args.t.now c.args.requests.now 0 c.in_default.ensures refl _ _ c.run_ready.ensures.0 c.run_ready.ensures.1
