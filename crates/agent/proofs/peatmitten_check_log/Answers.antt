-- The answer of the check, told as its number and three words.
use borrow.Author.Rules.{rules}
use Rattle.agent.proofs.Checking.{checks_told}
use Rattle.agent.proofs.peatmitten_check_log.Goals as goal

pub returns : goal.returns
returns c = search (checks_told, rules)
