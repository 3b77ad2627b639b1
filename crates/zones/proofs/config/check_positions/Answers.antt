-- No rule applies below the positions that are gone through, so these give the answer.
use borrow.Author.Rules.{rules}
use Rattle.zones.proofs.QuickCheck.{answer_from}
use Rattle.zones.proofs.config.check_positions.Goals as goal

pub returns : goal.returns
returns c = (search (answer_from, rules), search rules)
