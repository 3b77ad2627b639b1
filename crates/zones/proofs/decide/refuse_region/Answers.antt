-- Each return is one rule, 9, 10 or 11; the last is what the others answer.
use Rattle.lists.proofs.Rules.{rule_steps}
use Rattle.lists.proofs.Tests.{told, told_not}
use Rattle.rules.specs.Requests.{region_rules}
use Rattle.zones.specs.Decide.{use_rules}
use Rattle.zones.proofs.Checking.{formed_on}
use Rattle.zones.proofs.decide.refuse_region.Goals as goal

pub returns-then-not-well_formed : goal.returns-then-not-well_formed
unfolding region_rules
returns-then-not-well_formed c = search (rule_steps, told, told_not, formed_on) depth 20

pub returns-then-not-in_reach : goal.returns-then-not-in_reach
unfolding region_rules
returns-then-not-in_reach c = search (rule_steps, told, told_not, formed_on) depth 20

pub returns-then-not-is_configured : goal.returns-then-not-is_configured
unfolding region_rules
returns-then-not-is_configured c = search (rule_steps, told, told_not, formed_on) depth 20

pub returns : goal.returns
unfolding region_rules use_rules
returns c = search (rule_steps, told, told_not, formed_on) depth 20
