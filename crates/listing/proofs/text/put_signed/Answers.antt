-- By the sign: a minus and the opposite, or the number.
use native.Mathlib.Omega.{arith}
use borrow.Author.Rules.{rules}
use Rattle.listing.proofs.Fields.{below_put, above_put}
use Rattle.listing.proofs.Signed.{opposite_fits, opposite_sign, opposite_small, above_sign, above_small}
use Rattle.listing.proofs.text.put_signed.Goals as goal

pub overflow_sub-n : goal.overflow_sub-n
overflow_sub-n c = search (opposite_fits, rules)

pub overflow_cast-n : goal.overflow_cast-n
overflow_cast-n c = (search (opposite_sign, rules), search (opposite_small, rules))

pub returns-then-n-lt0-clause-wrote : goal.returns-then-n-lt0-clause-wrote
returns-then-n-lt0-clause-wrote c =
    let w0 = c.byte.ensures.wrote (omega arith) in
    search (below_put, rules)

pub overflow_cast-n-2 : goal.overflow_cast-n-2
overflow_cast-n-2 c = (search (above_sign, rules), search (above_small, rules))

pub returns-clause-wrote : goal.returns-clause-wrote
returns-clause-wrote c = search (above_put, rules)
