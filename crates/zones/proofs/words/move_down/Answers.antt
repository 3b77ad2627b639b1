use borrow.Author.Rules.{rules}
use Rattle.lists.proofs.Words.{move_start}
use Rattle.zones.proofs.Moves.{move_step, move_end}
use Rattle.zones.proofs.words.move_down.Goals as goal

pub loop-k-init : goal.loop-k-init
loop-k-init c = search move_start

pub loop-k-preserved : goal.loop-k-preserved
loop-k-preserved c = search (move_step, rules)

pub returns : goal.returns
returns c = search (move_end, rules)
