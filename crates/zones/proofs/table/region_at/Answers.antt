-- The record lies within its set's words.
use borrow.Author.Rules.{rules}
use Rattle.zones.proofs.Readers.{record_word}
use Rattle.zones.proofs.table.region_at.Goals as goal

pub returns : goal.returns
returns c = search (record_word, rules)
