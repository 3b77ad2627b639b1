-- Each return is one rule: 19, 12.
use Rattle.lists.proofs.Rules.{rule_steps}
use Rattle.lists.proofs.Tests.{told}
use Rattle.zones.specs.Decide.{use_rules}
use Rattle.zones.proofs.decide.refuse_use.Goals as goal

pub returns-then-is_excessive : goal.returns-then-is_excessive
unfolding use_rules
returns-then-is_excessive c = search (rule_steps, told) depth 20

pub returns-then-on_gic : goal.returns-then-on_gic
unfolding use_rules
returns-then-on_gic c = search (rule_steps, told) depth 20

pub returns : goal.returns
unfolding use_rules
returns c = search (rule_steps, told) depth 20
