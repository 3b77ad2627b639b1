use Rattle.std.proofs.Common.{rules}
use borrow.Author.Tests.{tests}
use Rattle.owned.specs.Held.{same_owner}
use Rattle.owned.proofs.Holding.{ids_told}
use Rattle.owned.proofs.comparing.same_ids.Goals as goal

pub returns : goal.returns
unfolding same_owner
returns c = ids_told c.args.s.now c.args.owners.now _ _ _ c.all.ensures.ran (λ x t q k. search (rules, tests))
