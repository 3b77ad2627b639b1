-- A zone's id is its first word.
use borrow.Author.Rules.{rules}
use Rattle.zones.proofs.Readers.{id_word}
use Rattle.zones.proofs.table.id_at.Goals as goal

pub returns : goal.returns
returns c = search (id_word, rules)
