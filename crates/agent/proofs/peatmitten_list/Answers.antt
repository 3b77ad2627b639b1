-- What the listing answers, in a word and a number.
use borrow.Author.Rules.{rules}
use Rattle.agent.proofs.MapListing.{listing_told}
use Rattle.agent.proofs.peatmitten_list.Goals as goal

pub returns : goal.returns
returns c = search (listing_told, rules)
