-- A position below the count is one of the records, which the reader reads.
use borrow.Author.Rules.{rules}
use Rattle.zones.proofs.ConfigReaders.{position_in, region_is}
use Rattle.zones.proofs.passed.Passed.region.Goals as goal

pub region_at-requires : goal.region_at-requires
region_at-requires c = search (position_in, rules)

pub returns : goal.returns
returns c = search (region_is, rules)
