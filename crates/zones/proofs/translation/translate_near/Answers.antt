-- Each return is one rule: 4 and 6, 18, then the covering region; it is in reach, so neither sum nor difference wraps.
use borrow.Author.Rules.{rules}
use Rattle.std.proofs.lemmas.Result.{err_from_is_err_and}
use Rattle.zones.proofs.Checking.{zone_within, side_within}
use Rattle.zones.proofs.Deciding.{named_there}
use Rattle.zones.proofs.Translating.{not_named, record_within, none_covers, from_start, no_wrap, before_end, one_covers}
use Rattle.zones.proofs.translation.translate_near.Goals as goal

pub returns-in_err-z : goal.returns-in_err-z
returns-in_err-z c = let p = err_from_is_err_and c.from_residual.result c.from_residual.ensures.1 in
    let said = c.in_err-z.ensures in
    rw (p.1, p.2) (search (not_named, rules))

pub find_covering-requires : goal.find_covering-requires
find_covering-requires c = let named = c.in_ok-z.ensures in search (zone_within, side_within, named_there, rules)

pub returns-in_default : goal.returns-in_default
returns-in_default c = let named = c.in_ok-z.ensures in
    let none = c.in_default.ensures in
    search (none_covers, rules)

pub region_at-r-requires : goal.region_at-r-requires
region_at-r-requires c = let named = c.in_ok-z.ensures in
    let found = c.in-Some.ensures in
    search (zone_within, named_there, record_within, rules)

pub overflow_sub-offset : goal.overflow_sub-offset
overflow_sub-offset c = let named = c.in_ok-z.ensures in
    let found = c.in-Some.ensures in
    search (from_start, rules)

pub overflow_add-result : goal.overflow_add-result
overflow_add-result c = let named = c.in_ok-z.ensures in
    let found = c.in-Some.ensures in
    search (no_wrap, rules)

pub overflow_sub-result : goal.overflow_sub-result
overflow_sub-result c = let named = c.in_ok-z.ensures in
    let found = c.in-Some.ensures in
    search (before_end, rules)

pub returns : goal.returns
returns c = let named = c.in_ok-z.ensures in
    let found = c.in-Some.ensures in
    search (one_covers, rules)
