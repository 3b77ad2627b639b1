-- A request below the number of whole ones lies within the bytes, and is read from its own.
use borrow.Author.Rules.{rules}
use Rattle.zones.proofs.Running.{request_within}
use Rattle.zones.proofs.run.request_at.Goals as goal

pub returns : goal.returns
returns c = search (request_within, rules)
