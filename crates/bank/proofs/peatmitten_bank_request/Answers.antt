-- The numbers make the request, and the core does it where the table lies.
use borrow.Author.Rules.{rules}
use Rattle.bank.proofs.Answers.{request_told}
use Rattle.bank.proofs.peatmitten_bank_request.Goals as goal

pub returns : goal.returns
returns c = search (request_told, rules)
