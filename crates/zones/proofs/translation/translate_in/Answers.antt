-- 1 and 2 first; the regions of a table that stands are in reach.
use borrow.Author.Rules.{rules}
use Rattle.std.proofs.lemmas.Result.{err_from_is_err_and}
use Rattle.zones.proofs.Translating.{none_translated, now_translated, near_now}
use Rattle.zones.proofs.translation.translate_in.Goals as goal

pub returns-in_err-standing : goal.returns-in_err-standing
returns-in_err-standing c = let p = err_from_is_err_and c.from_residual.result c.from_residual.ensures.1 in
    let said = c.in_err-standing.ensures in
    rw (p.1, p.2) (search (none_translated, rules))

pub translate_near-requires : goal.translate_near-requires
translate_near-requires c = let said = c.in_ok-standing.ensures in search (near_now, rules)

pub returns : goal.returns
returns c = let said = c.in_ok-standing.ensures in search (now_translated, rules)
