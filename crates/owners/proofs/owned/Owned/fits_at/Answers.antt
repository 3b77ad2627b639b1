-- Three cases: past the count, the GIC's position, any other.
use borrow.Author.Rules.{rules}
use Rattle.owners.proofs.Fitting.{fits_past, fits_gic, fits_id}
use Rattle.owners.proofs.owned.Owned.fits_at.Goals as goal

pub returns-then-count-i : goal.returns-then-count-i
returns-then-count-i c = search (fits_past, rules)

pub returns-then-i-self : goal.returns-then-i-self
returns-then-i-self c = search (fits_gic, rules)

pub returns : goal.returns
returns c = search (fits_id, rules)
