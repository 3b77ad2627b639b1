-- The words up to where the unused zones begin are within the table, and zero afterwards.
use borrow.Author.Rules.{rules}
use Rattle.zones.proofs.Free.{emptied_is}
use Rattle.zones.proofs.Readers.{start_fits}
use Rattle.zones.proofs.table.clear_zones.Goals as goal

pub clear-requires : goal.clear-requires
clear-requires c = (search rules, search (start_fits, rules))

pub returns : goal.returns
returns c = search (emptied_is, rules)
