-- The length is the set's count.
use borrow.Author.Rules.{rules}
use Rattle.zones.proofs.Readers.{len_word}
use Rattle.zones.proofs.table.set_len.Goals as goal

pub returns : goal.returns
returns c = search (len_word, rules)
