-- The zones are read into what clearing leaves.
use Rattle.plan.proofs.Undoing.{refill_by}
use borrow.Author.Rules.{rules}
use Rattle.plan.proofs.applying.refill.Goals as goal

pub returns : goal.returns
returns c = search (refill_by, rules)
