-- Moving down and then clearing what is left over closes the gap.
use borrow.Author.Rules.{rules}
use Rattle.zones.proofs.Moves.{gap_closed}
use Rattle.zones.proofs.words.close_gap.Goals as goal

pub returns : goal.returns
returns c = search (gap_closed, rules)
