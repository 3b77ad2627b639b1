-- The zone as it is, and the kind that the number and the region make.
use borrow.Author.Rules.{rules}
use Rattle.zones.proofs.Running.{made}
use Rattle.zones.proofs.run.make_request.Goals as goal

pub returns : goal.returns
returns c = search (made, rules)
