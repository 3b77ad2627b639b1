-- No difference of page numbers is out of range.
use borrow.Author.Rules.{rules}
use Rattle.listing.proofs.Signed.{pages_fit, pages_told}
use Rattle.listing.proofs.text.pages_apart.Goals as goal

pub overflow_sub-result : goal.overflow_sub-result
overflow_sub-result c = pages_fit c.args.p.0 c.args.v.0 (search rules) (search rules)

pub returns : goal.returns
returns c = pages_told c.args.p.0 c.args.v.0 (search rules) (search rules)
