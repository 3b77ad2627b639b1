-- Two cases: the region is zero, or it is not and the numbers make no request.
use borrow.Author.Rules.{rules}
use Rattle.zones.proofs.Running.{bare_used, bare_zero}
use Rattle.zones.proofs.run.bare.Goals as goal

pub returns-then-is_used : goal.returns-then-is_used
returns-then-is_used c = search (bare_used, rules)

pub returns : goal.returns
returns c = search (bare_zero, rules)
