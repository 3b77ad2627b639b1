-- The record stands wholly within the words, since the position is below the most there can be.
use borrow.Author.Rules.{rules}
use Rattle.zones.proofs.Records.{record_read}
use Rattle.zones.proofs.config.region_at.Goals as goal

pub returns : goal.returns
returns c = search (record_read, rules)
