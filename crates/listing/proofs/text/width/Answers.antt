use native.Mathlib.Omega.{arith}
use borrow.Author.Rules.{rules}
use Rattle.listing.proofs.Fields.{width_on, width_end, counted_few}
use Rattle.listing.proofs.text.width.Goals as goal

pub loop-rest-init : goal.loop-rest-init
loop-rest-init c = (search rules, omega arith)

pub loop-rest-preserved : goal.loop-rest-preserved
loop-rest-preserved c = (search (counted_few, rules), search (width_on, rules))

pub returns : goal.returns
returns c = (search (width_end, rules), search rules)
