-- Two rules: 4, and 6 by the search for the id.
use borrow.Author.Rules.{rules}
use Rattle.lists.proofs.Rules.{rule_skip}
use Rattle.std.proofs.lemmas.Result.{err_from_is_err_and}
use Rattle.zones.proofs.Deciding.{low_id, id_refused, zone_named}
use Rattle.zones.proofs.decide.named_zone.Goals as goal

pub returns-in_err-check_id : goal.returns-in_err-check_id
returns-in_err-check_id c = let p = err_from_is_err_and c.from_residual.result c.from_residual.ensures.1 in
    let said = c.in_err-check_id.ensures in
    rw (p.1, p.2) (search (id_refused, rules))

pub returns : goal.returns
returns c = rule_skip _ _ _ _ _ (low_id _ _ c.in_ok-check_id.ensures)
    (zone_named _ _ _ c.find_zone.ensures _ c.ok_or.ensures.value)
