-- The gap is closed over the zones that are there, and zeros come in at their end.
use borrow.Author.Rules.{rules}
use Rattle.zones.proofs.Writers.{zones_fit, remove_words}
use Rattle.zones.proofs.table.remove_zone.Goals as goal

pub close_gap-requires : goal.close_gap-requires
close_gap-requires c = (search rules, search (zones_fit, rules))

pub returns : goal.returns
returns c = search (remove_words, rules)
