-- The check bounds the count, so the word is the number of regions.
use borrow.Author.Rules.{rules}
use Rattle.zones.proofs.ConfigReaders.{count_is}
use Rattle.zones.proofs.passed.Passed.count.Goals as goal

pub returns : goal.returns
returns c = search (count_is, rules)
