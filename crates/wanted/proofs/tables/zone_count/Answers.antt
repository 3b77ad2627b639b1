-- The count is the first word.
use Rattle.zones.proofs.Readers.{count_word}
use borrow.Author.Rules.{rules}
use Rattle.wanted.proofs.tables.zone_count.Goals as goal

pub returns : goal.returns
returns c = search (count_word, rules)
