-- By what was found: nothing, or the stretch from the first request on.
use Rattle.std.proofs.Common.{rules}
use Rattle.plan.proofs.Outcomes.{none_found, fits, requests_found_law}
use Rattle.plan.proofs.read.find_requests.Goals as goal

pub returns-in_default : goal.returns-in_default
returns-in_default c = search (none_found, rules)

pub slice_bounds-result-count : goal.slice_bounds-result-count
slice_bounds-result-count c = (fits _ _ c.in-Ok.ensures).requests

pub slice_bounds-result-start : goal.slice_bounds-result-start
slice_bounds-result-start c = (fits _ _ c.in-Ok.ensures).requests

pub returns : goal.returns
returns c = search (requests_found_law, rules)
