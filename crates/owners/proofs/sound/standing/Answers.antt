-- What the owners are the reason for, or the first machine's answer.
use Rattle.std.proofs.lemmas.Result.{err_from_is_err_and}
use Rattle.owners.proofs.Stands.{own_stands, plain_stands}
use Rattle.owners.proofs.sound.standing.Goals as goal

pub returns-in_err-vetted : goal.returns-in_err-vetted
returns-in_err-vetted c = let p = err_from_is_err_and c.from_residual.result c.from_residual.ensures.1 in
    rw (p.1, p.2) (own_stands _ _ _ _ c.in_err-vetted.ensures.told)

pub returns : goal.returns
returns c = plain_stands _ _ _ c.in_ok-vetted.ensures.told _ c.standing.ensures
