-- 1 or 2 of the one table, else 2 of the other.
use Rattle.std.proofs.Common.{refl}
use Rattle.std.proofs.lemmas.Result.{err_from_is_err_and}
use Rattle.zones.proofs.Ruling.{number_some}
use Rattle.wanted.proofs.Filling.{own_first, own_second}
use Rattle.wanted.proofs.both_stand.Goals as goal

pub returns-in_err-standing : goal.returns-in_err-standing
returns-in_err-standing c = let p = err_from_is_err_and c.from_residual.result c.from_residual.ensures.1 in
    let said = c.in_err-standing.ensures in
    rw (p.1, p.2) (own_first _ _ _ _ said (number_some _))

pub returns : goal.returns
returns c = let said = c.in_ok-standing.ensures in own_second _ _ _ _ _ said refl c.standing-2.ensures
