-- The number of zones is the first word.
use borrow.Author.Rules.{rules}
use Rattle.zones.proofs.Readers.{count_word}
use Rattle.zones.proofs.table.zone_count.Goals as goal

pub returns : goal.returns
returns c = search (count_word, rules)
