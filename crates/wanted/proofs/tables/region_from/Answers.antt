-- The four words of a record.
use Rattle.wanted.proofs.Looking.{record_from}
use borrow.Author.Rules.{rules}
use Rattle.wanted.proofs.tables.region_from.Goals as goal

pub returns : goal.returns
returns c = search (record_from, rules)
