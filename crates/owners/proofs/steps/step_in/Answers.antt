-- 1 and 2 of the owners first; then a stranger is refused, and any other request is the first machine's.
use Rattle.std.proofs.lemmas.Result.{err_from_is_err_and}
use Rattle.owners.proofs.Answering.{own_first, stranger_refused, plain_stepped}
use Rattle.owners.proofs.steps.step_in.Goals as goal

pub returns-in_err-owned : goal.returns-in_err-owned
returns-in_err-owned c = let p = err_from_is_err_and c.from_residual.result c.from_residual.ensures.1 in
    rw (p.1, p.2) (own_first _ _ _ _ _ c.in_err-owned.ensures.told)

pub returns-then-is_stranger : goal.returns-then-is_stranger
returns-then-is_stranger c =
    stranger_refused _ _ _ _ c.in_ok-owned.ensures.told _ _ c.in_ok-owned.ensures.same.0 c.in_ok-owned.ensures.same.1 _
    c.is_stranger.ensures c.if-is_stranger.true _ _ c.answer_in.ensures c.eleven_over.ensures

pub returns : goal.returns
returns c =
    plain_stepped _ _ _ _ c.in_ok-owned.ensures.told _ _ c.in_ok-owned.ensures.same.0 c.in_ok-owned.ensures.same.1 _
    c.is_stranger.ensures c.if-is_stranger.false _ _ c.step_in.ensures
