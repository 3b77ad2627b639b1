-- Each return is one rule: 4, 5 by the search for the id, 7 by the count.
use borrow.Author.Rules.{rules}
use Rattle.lists.proofs.Rules.{rule_steps}
use Rattle.std.proofs.lemmas.Result.{err_from_is_err_and}
use Rattle.rules.specs.Requests.{add_rules}
use Rattle.zones.specs.Decide.{decided_add}
use Rattle.zones.proofs.Deciding.{low_id, id_refused, some_told, table_full, table_not_full}
use Rattle.zones.proofs.decide.decide_add.Goals as goal

pub returns-in_err-check_id : goal.returns-in_err-check_id
unfolding decided_add
returns-in_err-check_id c = let p = err_from_is_err_and c.from_residual.result c.from_residual.ensures.1 in
    let said = c.in_err-check_id.ensures in
    rw (p.1, p.2) (search (id_refused, rules))

pub returns-then-is_some : goal.returns-then-is_some
unfolding decided_add add_rules
returns-then-is_some c = let low = low_id _ _ c.in_ok-check_id.ensures in search (rule_steps, some_told) depth 20

pub returns-then-zone_count-ge-MOST_ZONES : goal.returns-then-zone_count-ge-MOST_ZONES
unfolding decided_add add_rules
returns-then-zone_count-ge-MOST_ZONES c = let low = low_id _ _ c.in_ok-check_id.ensures in
    search (rule_steps, some_told, table_full) depth 20

pub returns : goal.returns
unfolding decided_add add_rules
returns c = let low = low_id _ _ c.in_ok-check_id.ensures in
    search (rule_steps, some_told, table_not_full) depth 20
