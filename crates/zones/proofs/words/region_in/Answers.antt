-- The numbers lie one behind the other from the first byte on.
use borrow.Author.Rules.{rules}
use Rattle.zones.proofs.Running.{bytes_read}
use Rattle.zones.proofs.words.region_in.Goals as goal

pub returns : goal.returns
returns c = search (bytes_read, rules)
