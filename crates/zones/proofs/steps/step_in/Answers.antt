-- 1 and 2 first; a table that stands is ready for the request.
use borrow.Author.Rules.{rules}
use mathlib.Core.Path.{refl}
use Rattle.std.proofs.lemmas.Result.{err_from_is_err_and}
use Rattle.zones.proofs.Ruling.{number_some}
use Rattle.zones.proofs.Stepping.{before_any, stands_ready, request_done}
use Rattle.zones.proofs.steps.step_in.Goals as goal

pub returns-in_err-standing : goal.returns-in_err-standing
returns-in_err-standing c = let p = err_from_is_err_and c.from_residual.result c.from_residual.ensures.1 in
    rw (p.1, p.2) (before_any _ _ _ _ c.in_err-standing.ensures (number_some _))

pub step_ready-requires : goal.step_ready-requires
step_ready-requires c = stands_ready c.args.c.now c.args.t.now 0 c.in_ok-standing.ensures refl (search rules)

pub returns : goal.returns
returns c = let said = c.in_ok-standing.ensures in
    request_done _ _ 0 said refl (search rules) _ _ _ c.step_ready.ensures.0 c.step_ready.ensures.1
