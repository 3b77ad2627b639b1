use borrow.Author.Rules.{rules}
use Rattle.zones.proofs.Opening.{raise_start, raise_step, raise_end}
use Rattle.zones.proofs.words.open_gap.Goals as goal

pub loop-k-init : goal.loop-k-init
loop-k-init c = ((search rules, search rules), search (raise_start, rules))

pub loop-k-preserved : goal.loop-k-preserved
loop-k-preserved c = ((search rules, search rules), search (raise_step, rules))

pub returns : goal.returns
returns c = search (raise_end, rules)
