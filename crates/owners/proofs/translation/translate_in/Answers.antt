-- 1 and 2 of the owners first; past them it is the first machine's.
use Rattle.std.proofs.lemmas.Result.{err_from_is_err_and}
use Rattle.owners.proofs.Answering.{own_translated, plain_translated}
use Rattle.owners.proofs.translation.translate_in.Goals as goal

pub returns-in_err-vetted : goal.returns-in_err-vetted
returns-in_err-vetted c = let p = err_from_is_err_and c.from_residual.result c.from_residual.ensures.1 in
    rw (p.1, p.2) (own_translated _ _ _ _ _ _ _ c.in_err-vetted.ensures.told)

pub returns : goal.returns
returns c = plain_translated _ _ _ _ _ _ c.in_ok-vetted.ensures.told _ c.translate_in.ensures
