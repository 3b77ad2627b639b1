-- Each call needs what the one before it ensures; of few regions nothing is said.
use borrow.Author.Rules.{rules}
use Rattle.zones.proofs.QuickCheck.{clear_none, told_clear}
use Rattle.zones.proofs.apart.clear_below.Goals as goal

pub returns-then-in_turn : goal.returns-then-in_turn
returns-then-in_turn c = ((search rules, search (told_clear, rules)), search rules)

pub returns-then-fit-lt-MANY : goal.returns-then-fit-lt-MANY
returns-then-fit-lt-MANY c = ((search rules, search clear_none), search rules)
