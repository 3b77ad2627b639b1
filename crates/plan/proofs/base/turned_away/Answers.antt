-- Two cases: the state does not stand, or the plan has earned the number.
use Rattle.std.proofs.Common.{rules}
use Rattle.plan.proofs.Judging.{away_first, away_earned}
use Rattle.plan.proofs.base.turned_away.Goals as goal

pub returns-then-own-ne0 : goal.returns-then-own-ne0
returns-then-own-ne0 c = search (away_first, rules)

pub returns : goal.returns
returns c = search (away_earned, rules)
