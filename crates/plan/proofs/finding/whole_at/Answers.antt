-- By what was found of the four sections: a refusal; bytes after them; or all there.
use Rattle.std.proofs.Common.{refl}
use Rattle.plan.proofs.Locating.{ends_bad, ends_early, ends_there}
use Rattle.plan.proofs.Told.{passed_on}
use Rattle.plan.proofs.finding.whole_at.Goals as goal

pub returns-in_err-found-clause-answer : goal.returns-in_err-found-clause-answer
returns-in_err-found-clause-answer g c = rw (passed_on _ _ c.from_residual.ensures, c.in_err-found.was) refl

pub returns-in_err-found-clause-told_by_any : goal.returns-in_err-found-clause-told_by_any
returns-in_err-found-clause-told_by_any g c = λ t h. rw (passed_on _ _ c.from_residual.ensures, c.in_err-found.was) (ends_bad _ _)

pub returns-then-end-bytes-clause-told_by_any : goal.returns-then-end-bytes-clause-told_by_any
returns-then-end-bytes-clause-told_by_any g c = λ t h. rw (c.in_ok-found.was, h _ _ c.from.ensures) (ends_early _ _ c.if-end-bytes.true)

pub returns-clause-told_by_any : goal.returns-clause-told_by_any
returns-clause-told_by_any g c = λ t h. rw c.in_ok-found.was (ends_there _ _ c.if-end-bytes.false)
