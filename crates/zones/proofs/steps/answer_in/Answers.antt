-- 1 and 2 first; at a table that stands, what is decided.
use borrow.Author.Rules.{rules}
use mathlib.Core.Path.{refl}
use Rattle.std.proofs.lemmas.Result.{err_from_is_err_and}
use Rattle.std.specs.Prelude.{Err, Ok}
use Rattle.zones.proofs.Ruling.{number_some}
use Rattle.zones.proofs.Stepping.{number_first, stands_ready, number_decided}
use Rattle.zones.proofs.steps.answer_in.Goals as goal

pub returns-in_err-standing : goal.returns-in_err-standing
returns-in_err-standing c = let p = err_from_is_err_and c.from_residual.result c.from_residual.ensures.1 in
    rw (p.1, p.2) (number_first c.args.c.now c.args.t.now c.args.q _ c.in_err-standing.ensures (number_some _))

pub decide-requires : goal.decide-requires
decide-requires c = stands_ready c.args.c.now c.args.t.now 0 c.in_ok-standing.ensures refl (search rules)

pub returns-in_err-decide : goal.returns-in_err-decide
returns-in_err-decide c = let e = c.from_residual-in_err-decide in
    let p = err_from_is_err_and e.result e.ensures.1 in
    rw (p.1, p.2) (number_decided c.args.c.now c.args.t.now 0 c.in_ok-standing.ensures refl (search rules) c.args.q (Err _)
    c.in_err-decide.ensures)

pub returns : goal.returns
returns c =
    number_decided c.args.c.now c.args.t.now 0 c.in_ok-standing.ensures refl (search rules) c.args.q (Ok _)
    c.in_ok-decide.ensures
