-- The finding of the check, told as its number and its two places.
use borrow.Author.Rules.{rules}
use Rattle.bank.proofs.Answers.{number_told, places_told}
use Rattle.bank.proofs.peatmitten_bank_check_config.Goals as goal

pub returns : goal.returns
returns c = (search (number_told, rules), search (places_told, rules))
