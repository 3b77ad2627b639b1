-- Each return is one rule: C1, C2, C3 by the records past the count, then what the positions say.
use Rattle.std.proofs.Common.{arith}
use Rattle.lists.proofs.Rules.{rule_steps}
use Rattle.lists.proofs.Tests.{alternatives}
use Rattle.rules.specs.Configuration.{check, check_rules}
use Rattle.zones.proofs.ConfigCheck.{not_zero_at, keyed_rules}
use Rattle.zones.proofs.config.check_with.Goals as goal
use Rattle.zones.proofs.config.check_with.Goals.{then-count-eq0-via-then-count-eq0, then-count-eq0-via-else-count-eq0+then-count-gt-MOST_REGIONS}

pub returns-then-count-eq0 : goal.returns-then-count-eq0
unfolding check check_rules
returns-then-count-eq0 c =
    elim c.then-count-eq0.branch [
      | then-count-eq0-via-then-count-eq0 w ↦ search (rule_steps, alternatives) depth 20
      | then-count-eq0-via-else-count-eq0+then-count-gt-MOST_REGIONS w ↦ search (rule_steps, alternatives) depth 20
    ]

pub returns-then-c : goal.returns-then-c
unfolding check check_rules
returns-then-c c = search (rule_steps, alternatives) depth 20

pub returns-in-Some : goal.returns-in-Some
unfolding check check_rules
returns-in-Some c =
    let told = c.in-Some.ensures.some in search (rule_steps, not_zero_at, alternatives) depth 20

pub returns : goal.returns
unfolding check check_rules
returns c =
    let none = c.in_default.ensures.none in
    let found = keyed_rules c.args.c.now c.args.keys.now _ _ (omega arith) c.check_positions.ensures.0 in
    search (rule_steps, alternatives) depth 20
