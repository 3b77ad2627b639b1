-- As many digits as the number has, and what stands after them.
use Rattle.std.proofs.Common.{rules}
use Rattle.listing.proofs.Fields.{decimal_put}
use Rattle.listing.proofs.text.put_decimal.Goals as goal

pub returns-clause-wrote : goal.returns-clause-wrote
returns-clause-wrote c = search (decimal_put, rules)
