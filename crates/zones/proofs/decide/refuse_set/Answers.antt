-- Each return is one rule: 13, 14 by who holds the region, 15, 16.
use borrow.Author.Rules.{rules}
use Rattle.lists.proofs.Rules.{rule_steps}
use Rattle.rules.specs.Regions.{region_eq, guest_overlap}
use Rattle.rules.specs.Requests.{set_rules}
use Rattle.zones.proofs.Checking.{zone_within, side_within}
use Rattle.zones.proofs.Deciding.{no_room, some_room, set_told, forbidden_told, ready_within}
use Rattle.zones.proofs.decide.refuse_set.Goals as goal

pub set_find-requires-clause-fits : goal.set_find-requires-clause-fits
set_find-requires-clause-fits c = search (zone_within, side_within, ready_within, rules)

pub returns-then-is_some : goal.returns-then-is_some
unfolding set_rules
returns-then-is_some c =
    let same = c.set_find.ensures (region_eq c.args.r) (λ e t k. search rules) in
    search (rule_steps, set_told) depth 20

pub returns-then-is_forbidden : goal.returns-then-is_forbidden
unfolding set_rules
returns-then-is_forbidden c =
    let same = c.set_find.ensures (region_eq c.args.r) (λ e t k. search rules) in
    search (rule_steps, set_told, forbidden_told) depth 20

pub set_find-requires-2-clause-fits : goal.set_find-requires-2-clause-fits
set_find-requires-2-clause-fits c = search (zone_within, side_within, ready_within, rules)

pub returns-then-is_some-2 : goal.returns-then-is_some-2
unfolding set_rules
returns-then-is_some-2 c =
    let same = c.set_find.ensures (region_eq c.args.r) (λ e t k. search rules) in
    let guest = c.set_find-2.ensures (guest_overlap c.args.r) (λ e t k. search rules) in
    search (rule_steps, set_told, forbidden_told) depth 20

pub returns-then-set_len-ge-MOST_IN_SET : goal.returns-then-set_len-ge-MOST_IN_SET
unfolding set_rules
returns-then-set_len-ge-MOST_IN_SET c =
    let same = c.set_find.ensures (region_eq c.args.r) (λ e t k. search rules) in
    let guest = c.set_find-2.ensures (guest_overlap c.args.r) (λ e t k. search rules) in
    search (rule_steps, set_told, forbidden_told, no_room) depth 20

pub returns : goal.returns
unfolding set_rules
returns c =
    let same = c.set_find.ensures (region_eq c.args.r) (λ e t k. search rules) in
    let guest = c.set_find-2.ensures (guest_overlap c.args.r) (λ e t k. search rules) in
    search (rule_steps, set_told, forbidden_told, some_room) depth 20
