-- Two cases: fewer than four bytes are left, or the number is there.
use Rattle.plan.proofs.Fields.{number_none, number_is}
use borrow.Author.Rules.{rules}
use Rattle.plan.proofs.field.number_at.Goals as goal

pub returns-then-s-at-lt-SHORT_BYTES : goal.returns-then-s-at-lt-SHORT_BYTES
returns-then-s-at-lt-SHORT_BYTES c = search (number_none, rules)

pub returns : goal.returns
returns c = search (number_is, rules)
