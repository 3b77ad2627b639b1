-- Three numbers, each with a space, then the rest.
use Rattle.listing.proofs.Putting.{numbers_put}
use Rattle.listing.proofs.text.put_numbers.Goals as goal

pub returns-clause-wrote : goal.returns-clause-wrote
returns-clause-wrote c =
    numbers_put _ _ _ _ _ _ _ c.put_hex.ensures.wrote c.put_hex-2.ensures.wrote c.put_hex-3.ensures.wrote c.put_last.ensures.wrote
