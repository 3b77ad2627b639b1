-- By where the zones begin, past the end or not, and then by where they and the requests end.
use Rattle.std.proofs.Common.{rules, arith}
use Rattle.plan.proofs.Locating.{reached_there, zones_beyond, zones_refused, zones_within, requests_refused, requests_start, sections_found}
use Rattle.plan.proofs.Told.{passed_on}
use Rattle.plan.proofs.finding.find_from_zones.Goals as goal

pub returns-in_err-reaches : goal.returns-in_err-reaches
returns-in_err-reaches c = rw (passed_on _ _ c.from_residual.ensures) (zones_beyond _ _ _ _ _ c.in_err-reaches.ensures)

pub pass_zones_at-requires : goal.pass_zones_at-requires
pass_zones_at-requires c = reached_there _ _ _ c.in_ok-reaches.ensures

pub returns-in_err-last : goal.returns-in_err-last
returns-in_err-last c = rw (passed_on _ _ c.from_residual-in_err-last.ensures) (zones_refused _ _ _ _ _ c.in_err-last.ensures)

pub pass_requests-requires : goal.pass_requests-requires
pass_requests-requires c = zones_within _ 0 0 _ _ c.in_ok-last.ensures

pub returns-in_err-end : goal.returns-in_err-end
returns-in_err-end c =
    rw (passed_on _ _ c.from_residual-in_err-end.ensures)
    (requests_refused _ _ _ _ _ c.in_ok-last.ensures _ c.in_err-end.ensures)

pub overflow_add-requests : goal.overflow_add-requests
overflow_add-requests c = omega (arith, requests_start _ 0 0 _ _ c.in_ok-last.ensures _ c.in_ok-end.ensures)

pub returns : goal.returns
returns c = sections_found _ _ _ _ _ c.in_ok-last.ensures _ c.in_ok-end.ensures
