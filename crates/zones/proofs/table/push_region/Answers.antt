-- The record is written at the first free place of the set, and its count is one more.
use borrow.Author.Rules.{rules}
use Rattle.zones.proofs.Writers.{push_words}
use Rattle.zones.proofs.table.push_region.Goals as goal

pub returns : goal.returns
returns c = search (push_words, rules)
