use Rattle.std.proofs.Common.{rules}
use borrow.Author.Tests.{tests}
use Rattle.plan.specs.Sections.{reached}
use Rattle.plan.proofs.finding.reaches.Goals as goal

pub returns-then-s-place : goal.returns-then-s-place
unfolding reached
returns-then-s-place c = search (rules, tests)

pub returns : goal.returns
unfolding reached
returns c = search (rules, tests)
