-- The words that are filled are lent as a part, and stand between those before and those behind.
use borrow.Author.Rules.{rules}
use Rattle.zones.proofs.Moves.{part_cleared}
use Rattle.zones.proofs.words.clear.Goals as goal

pub returns : goal.returns
returns c = part_cleared c.args.s.now _ c.args.at c.args.end c.requires.0 c.requires.1
    (c.fill.ensures.after (λ y e. search rules))
