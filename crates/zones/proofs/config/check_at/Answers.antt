-- Each return is one rule of the position: C4, C5, then C6 at the first earlier record that overlaps.
use Rattle.std.proofs.Common.{rules}
use Rattle.lists.proofs.Rules.{rule_steps}
use Rattle.lists.proofs.Tests.{told_not}
use Rattle.rules.specs.Regions.{phys_overlap}
use Rattle.zones.proofs.ConfigCheck.{rules_at, some_record, no_record, overlap_at}
use Rattle.zones.proofs.config.check_at.Goals as goal

pub returns-then-not-well_formed : goal.returns-then-not-well_formed
returns-then-not-well_formed c = search (rules_at, rule_steps, told_not) depth 20

pub returns-then-not-in_reach : goal.returns-then-not-in_reach
returns-then-not-in_reach c = search (rules_at, rule_steps, told_not) depth 20

pub returns-in-Some : goal.returns-in-Some
returns-in-Some c = let found = c.in-Some.ensures (phys_overlap c.region_at-r.result) (λ e t k. search rules) in
    search (rules_at, rule_steps, told_not, some_record, overlap_at) depth 20

pub returns : goal.returns
returns c = let none = c.in_default.ensures (phys_overlap c.region_at-r.result) (λ e t k. search rules) in
    search (rules_at, rule_steps, told_not, no_record) depth 20
