-- Rules in stages: 4 and 6, then 9 to 12, then 13 to 16, by a callee each.
use borrow.Author.Rules.{rules}
use Rattle.lists.proofs.Rules.{rule_skip}
use Rattle.std.proofs.lemmas.Result.{err_from_is_err_and}
use Rattle.rules.specs.Requests.{insert_rules}
use Rattle.zones.specs.Decide.{decided_insert}
use Rattle.zones.proofs.Deciding.{name_refused, named_low, named_present, named_there, last_at}
use Rattle.zones.proofs.Deciding.{region_configured, region_off_gic}
use Rattle.zones.proofs.Ruling.{stage_refuses, stage_passes, last_refuses, last_passes}
use Rattle.zones.proofs.decide.decide_insert.Goals as goal

pub returns-in_err-z : goal.returns-in_err-z
unfolding decided_insert insert_rules
returns-in_err-z c = let p = err_from_is_err_and c.from_residual.result c.from_residual.ensures.1 in
    let said = c.in_err-z.ensures in
    rw (p.1, p.2) (search (name_refused, rules))

pub returns-in_err-refuse_region : goal.returns-in_err-refuse_region
unfolding decided_insert insert_rules
returns-in_err-refuse_region c = let e = c.from_residual-in_err-refuse_region in
    let p = err_from_is_err_and e.result e.ensures.1 in
    let named = c.in_ok-z.ensures in
    let said = c.in_err-refuse_region.ensures in
    rw (p.1, p.2) (search (rule_skip, named_low, named_present, stage_refuses) depth 12)

pub refuse_set-requires : goal.refuse_set-requires
refuse_set-requires c = let named = c.in_ok-z.ensures in
    let passed = c.in_ok-refuse_region.ensures in
    search (named_there, region_configured, region_off_gic, rules)

pub returns-in_err-refuse_set : goal.returns-in_err-refuse_set
unfolding decided_insert insert_rules
returns-in_err-refuse_set c = let e = c.from_residual-in_err-refuse_set in
    let p = err_from_is_err_and e.result e.ensures.1 in
    let named = c.in_ok-z.ensures in
    let passed = c.in_ok-refuse_region.ensures in
    let said = c.in_err-refuse_set.ensures in
    rw (p.1, p.2) (search (rule_skip, named_low, named_present, stage_passes, last_at, last_refuses) depth 12)

pub returns : goal.returns
unfolding decided_insert insert_rules
returns c = let named = c.in_ok-z.ensures in
    let passed = c.in_ok-refuse_region.ensures in
    let said = c.in_ok-refuse_set.ensures in
    search (rule_skip, named_low, named_present, stage_passes, last_at, last_passes) depth 12
