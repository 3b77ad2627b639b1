-- Each arm is one rule: the kinds 1 to 6 in order, then none.
use borrow.Author.Rules.{rules}
use mathlib.Core.Path.{refl}
use Rattle.lists.specs.Rules.{first_rule}
use Rattle.lists.proofs.Rules.{rule_steps}
use Rattle.lists.proofs.Tests.{tests}
use Rattle.rules.specs.Run.{make_kind}
use Rattle.zones.proofs.run.make_kind.Goals as goal

pub returns-in-1 : goal.returns-in-1
unfolding make_kind first_rule
returns-in-1 c = rw c.in-1.is c.bare.ensures

pub returns-in-2 : goal.returns-in-2
unfolding make_kind first_rule
returns-in-2 c = rw c.in-2.is c.bare-in-2.ensures

pub returns-in-3 : goal.returns-in-3
unfolding make_kind first_rule
returns-in-3 c = rw c.in-3.is refl

pub returns-in-4 : goal.returns-in-4
unfolding make_kind first_rule
returns-in-4 c = rw c.in-4.is refl

pub returns-in-5 : goal.returns-in-5
unfolding make_kind first_rule
returns-in-5 c = rw c.in-5.is refl

pub returns-in-6 : goal.returns-in-6
unfolding make_kind first_rule
returns-in-6 c = rw c.in-6.is refl

pub returns-in_default : goal.returns-in_default
unfolding make_kind
returns-in_default c = search (rule_steps, tests) depth 20
