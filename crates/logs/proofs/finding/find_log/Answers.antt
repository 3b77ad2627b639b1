-- By what was found of the plan: a refusal, or the claims after it, which are refused, go on too short, or end the log.
use Rattle.std.proofs.lemmas.Result.{err_from_is_err_and}
use Rattle.logs.proofs.Locating.{log_refused, requests_before, claims_few, claims_refused, claims_more, claims_whole}
use Rattle.logs.proofs.finding.find_log.Goals as goal

pub returns-in_err-found : goal.returns-in_err-found
returns-in_err-found c = let p = err_from_is_err_and c.from_residual.result c.from_residual.ensures.1 in
    let said = c.in_err-found.ensures in
    rw (p.1, p.2) (log_refused c.args.log.now _ _ said)

pub overflow_sub-count : goal.overflow_sub-count
overflow_sub-count c = requests_before c.args.log.now _ c.in_ok-found.ensures

pub overflow_cast-count : goal.overflow_cast-count
overflow_cast-count c = record { fits = claims_few c.args.log.now _ c.in_ok-found.ensures }

pub returns-in_err-last : goal.returns-in_err-last
returns-in_err-last c = let p = err_from_is_err_and c.from_residual-in_err-last.result c.from_residual-in_err-last.ensures.1 in
    let said = c.in_err-last.ensures in
    rw (p.1, p.2) (claims_refused c.args.log.now _ c.in_ok-found.ensures _ _ said)

pub returns-then-last-log : goal.returns-then-last-log
returns-then-last-log c = claims_more c.args.log.now _ c.in_ok-found.ensures _ c.in_ok-last.ensures c.if-last-log.true

pub returns : goal.returns
returns c = claims_whole c.args.log.now _ c.in_ok-found.ensures _ c.in_ok-last.ensures c.if-last-log.false
