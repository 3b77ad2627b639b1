-- Each return is one rule: 4 and 6 by the search for the zone, 8 by the lengths of its two sets.
use borrow.Author.Rules.{rules}
use Rattle.lists.proofs.Rules.{rule_steps}
use Rattle.std.proofs.lemmas.Result.{err_from_is_err_and}
use Rattle.rules.specs.Requests.{remove_zone_rules}
use Rattle.zones.specs.Decide.{decided_drop}
use Rattle.zones.proofs.Deciding.{name_refused, named_low, named_present, named_there, holds_told, dropped_there}
use Rattle.zones.proofs.decide.decide_drop.Goals as goal

pub returns-in_err-z : goal.returns-in_err-z
unfolding decided_drop remove_zone_rules
returns-in_err-z c = let p = err_from_is_err_and c.from_residual.result c.from_residual.ensures.1 in
    let said = c.in_err-z.ensures in
    rw (p.1, p.2) (search (name_refused, rules))

pub holds_any-requires : goal.holds_any-requires
holds_any-requires c = let named = c.in_ok-z.ensures in search (named_there, rules)

pub returns-then-holds_any : goal.returns-then-holds_any
unfolding decided_drop remove_zone_rules
returns-then-holds_any c = let named = c.in_ok-z.ensures in
    search (rule_steps, named_low, named_present, holds_told) depth 20

pub returns : goal.returns
unfolding decided_drop remove_zone_rules
returns c = let named = c.in_ok-z.ensures in
    search (rule_steps, named_low, named_present, holds_told, dropped_there) depth 20
