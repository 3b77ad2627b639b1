-- Acceptance and the numbers above 11 become 11; the others stay.
use borrow.Author.Rules.{rules}
use Rattle.owners.proofs.Answering.{over_accepted, over_below, over_other}
use Rattle.owners.proofs.steps.eleven_over.Goals as goal

pub returns-in-Err : goal.returns-in-Err
returns-in-Err c = search (over_below, rules)

pub returns-in_default : goal.returns-in_default
returns-in_default c = search (over_other, rules)

pub returns-in_default-2 : goal.returns-in_default-2
returns-in_default-2 c = search (over_accepted, rules)
