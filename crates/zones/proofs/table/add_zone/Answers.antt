-- The id goes to the first unused zone, whose words are zero.
use borrow.Author.Rules.{rules}
use Rattle.zones.proofs.Writers.{add_words}
use Rattle.zones.proofs.table.add_zone.Goals as goal

pub returns : goal.returns
returns c = search (add_words, rules)
