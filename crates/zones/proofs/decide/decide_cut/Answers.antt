-- Each return is one rule: 4 and 6 by the search for the zone, 17 by the search for the region.
use borrow.Author.Rules.{rules}
use Rattle.lists.proofs.Rules.{rule_steps}
use Rattle.std.proofs.lemmas.Result.{err_from_is_err_and}
use Rattle.rules.specs.Regions.{region_eq}
use Rattle.rules.specs.Requests.{remove_rules}
use Rattle.zones.specs.Decide.{decided_cut}
use Rattle.zones.proofs.Checking.{zone_within, side_within}
use Rattle.zones.proofs.Deciding.{name_refused, named_low, named_present, named_there, region_held, region_not_held}
use Rattle.zones.proofs.Deciding.{cut_there}
use Rattle.zones.proofs.decide.decide_cut.Goals as goal

pub returns-in_err-z : goal.returns-in_err-z
unfolding decided_cut remove_rules
returns-in_err-z c = let p = err_from_is_err_and c.from_residual.result c.from_residual.ensures.1 in
    let said = c.in_err-z.ensures in
    rw (p.1, p.2) (search (name_refused, rules))

pub set_find-requires-clause-fits : goal.set_find-requires-clause-fits
set_find-requires-clause-fits c = let named = c.in_ok-z.ensures in search (zone_within, side_within, named_there, rules)

pub returns-in_default : goal.returns-in_default
unfolding decided_cut remove_rules
returns-in_default c = let named = c.in_ok-z.ensures in
    let none = c.in_default.ensures (region_eq c.args.r) (λ e t k. search rules) in
    search (rule_steps, named_low, named_present, region_not_held) depth 20

pub returns : goal.returns
unfolding decided_cut remove_rules
returns c = let named = c.in_ok-z.ensures in
    let found = c.in-Some.ensures (region_eq c.args.r) (λ e t k. search rules) in
    search (rule_steps, named_low, named_present, region_held, cut_there) depth 20
