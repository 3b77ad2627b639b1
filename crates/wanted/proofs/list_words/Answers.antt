-- 1 and 2 by the checks; 29, 28 or 0 by filling.
use Rattle.std.proofs.Common.{refl}
use Rattle.std.proofs.lemmas.Result.{err_from_is_err_and}
use Rattle.zones.proofs.Ruling.{number_some}
use Rattle.wanted.proofs.Filling.{lists_refused, first_limits_law, second_limits, lists_filled}
use Rattle.wanted.proofs.list_words.Goals as goal

pub fill-requires : goal.fill-requires
fill-requires c = (
  first_limits_law c.args.config.now c.args.from.now c.args.to.now 0 c.in_ok-both_stand.ensures refl,
  second_limits c.args.config.now c.args.from.now c.args.to.now 0 c.in_ok-both_stand.ensures refl,
)

pub returns-in_err-both_stand : goal.returns-in_err-both_stand
returns-in_err-both_stand c = let p = err_from_is_err_and c.from_residual.result c.from_residual.ensures.1 in
    let said = c.in_err-both_stand.ensures in
    rw (p.1, p.2) (lists_refused _ _ _ _ _ said (number_some _))

pub returns : goal.returns
returns c = lists_filled c.args.config.now c.args.from.now c.args.to.now c.args.buffer.now 0 c.in_ok-both_stand.ensures refl _ _
    c.fill.ensures
