-- What a refused plan is answered, or what is listed at what an accepted one leaves.
use borrow.Author.Rules.{rules}
use Rattle.listing.proofs.Listing.{after_refused, after_listed}
use Rattle.listing.proofs.list_after.Goals as goal

pub returns-then-outcome-ne0 : goal.returns-then-outcome-ne0
returns-then-outcome-ne0 c = search (after_refused, rules)

pub returns : goal.returns
returns c = search (after_listed, rules)
