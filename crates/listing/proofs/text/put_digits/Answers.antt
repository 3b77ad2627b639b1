-- One digit less to put each time.
use Rattle.std.proofs.Common.{rules}
use Rattle.listing.proofs.Fields.{digits_on, digits_end}
use Rattle.listing.proofs.text.put_digits.Goals as goal

pub loop-i-preserved : goal.loop-i-preserved
loop-i-preserved g c = search (digits_on, rules)

pub returns : goal.returns
returns g c = search (digits_end, rules)
