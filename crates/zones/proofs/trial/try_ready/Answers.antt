-- What was done is undone along its trail.
use borrow.Author.Rules.{rules}
use Rattle.zones.proofs.Trying.{all_undone}
use Rattle.zones.proofs.trial.try_ready.Goals as goal

pub returns : goal.returns
returns c = search (all_undone, rules)
