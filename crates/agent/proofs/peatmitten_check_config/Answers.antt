-- The finding of the check, told as its number and its two places.
use Rattle.agent.proofs.Answers.{number_told, places_told}
use borrow.Author.Rules.{rules}
use Rattle.agent.proofs.peatmitten_check_config.Goals as goal

pub returns : goal.returns
returns c = (search (number_told, rules), search (places_told, rules))
