use borrow.Author.Rules.{rules}
use Rattle.zones.proofs.Blocks.{bits_none, bits_more, bits_all}
use Rattle.zones.proofs.words.bits_in.Goals as goal

pub loop-i-init : goal.loop-i-init
loop-i-init c = search bits_none

pub loop-i-preserved : goal.loop-i-preserved
loop-i-preserved c = search (bits_more, rules)

pub returns : goal.returns
returns c = search (bits_all, rules)
