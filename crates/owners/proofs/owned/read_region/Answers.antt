-- The four words lie within the slice.
use borrow.Author.Rules.{rules}
use Rattle.zones.proofs.Records.{read_record}
use Rattle.owners.proofs.owned.read_region.Goals as goal

pub returns : goal.returns
returns c = search (read_record, rules)
