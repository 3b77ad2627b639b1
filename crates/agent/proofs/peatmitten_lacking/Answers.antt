-- The place is as far from the first stretch's start as the part is from its end.
use borrow.Author.Rules.{rules}
use Rattle.agent.proofs.Differing.{part_within, place_told, bytes_told}
use Rattle.agent.proofs.peatmitten_lacking.Goals as goal

pub overflow_sub-at : goal.overflow_sub-at
overflow_sub-at c = search (part_within, rules)

pub returns : goal.returns
returns c = (search (place_told, rules), search (bytes_told, rules))
