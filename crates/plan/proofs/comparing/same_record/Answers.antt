-- The region is read from its own bytes, and the record at the word is held against it.
use borrow.Author.Rules.{rules}
use Rattle.plan.proofs.Holding.{record_same}
use Rattle.plan.proofs.comparing.same_record.Goals as goal

pub returns : goal.returns
returns c = search (record_same, rules)
