-- A zone's id is its first word.
use Rattle.wanted.proofs.Looking.{id_read}
use borrow.Author.Rules.{rules}
use Rattle.wanted.proofs.tables.id_at.Goals as goal

pub returns : goal.returns
returns c = search (id_read, rules)
