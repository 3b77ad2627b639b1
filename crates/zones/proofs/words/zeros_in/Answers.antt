use borrow.Author.Rules.{rules}
use Rattle.zones.proofs.Blocks.{block_stop, block_on, block_end}
use Rattle.zones.proofs.words.zeros_in.Goals as goal

pub returns-then-bits_in-ne0 : goal.returns-then-bits_in-ne0
returns-then-bits_in-ne0 c = search (block_stop, rules)

pub loop-k-preserved : goal.loop-k-preserved
loop-k-preserved c = (search rules, search (block_on, rules))

pub returns : goal.returns
returns c = search (block_end, rules)
