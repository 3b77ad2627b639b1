-- 1 and 2 of the owners first; then what the first machine answers before the first stranger, or the stranger's refusal.
use native.Mathlib.Omega.{arith}
use borrow.Author.Rules.{rules}
use mathlib.Core.Path.{◌∙◌}
use Rattle.owners.proofs.Running.{own_run, none_stranger, stranger_found, bytes_before, before_refused, stranger_stops, request_there}
use Rattle.owners.proofs.run.run_in.Goals as goal

pub returns-in-Err : goal.returns-in-Err
returns-in-Err c = own_run _ _ _ _ _ c.in-Err.ensures.told _ c.refused.ensures

pub returns-in_default : goal.returns-in_default
returns-in_default c =
    none_stranger _ _ _ _ c.in-Ok.ensures.told _ _ c.in-Ok.ensures.same.0 c.in-Ok.ensures.same.1 _ c.first_stranger.ensures
    c.in_default.is _ _ c.run_in.ensures

pub overflow_mul-at : goal.overflow_mul-at
overflow_mul-at c =
    let found = stranger_found c.args.c.now c.args.owners.now c.args.requests.now _ _ c.in-Ok.ensures.same.0 c.in-Ok.ensures.same.1 _ c.first_stranger.ensures _ c.in-Some.is in
    omega (arith, found.1)

pub slice_bounds-run_in-end : goal.slice_bounds-run_in-end
slice_bounds-run_in-end c =
    let found = stranger_found c.args.c.now c.args.owners.now c.args.requests.now _ _ c.in-Ok.ensures.same.0 c.in-Ok.ensures.same.1 _ c.first_stranger.ensures _ c.in-Some.is in
    bytes_before _ _ (omega (arith, found.1))

pub returns-then-outcome-ne0 : goal.returns-then-outcome-ne0
returns-then-outcome-ne0 c =
    let found = stranger_found c.args.c.now c.args.owners.now c.args.requests.now _ _ c.in-Ok.ensures.same.0 c.in-Ok.ensures.same.1 _ c.first_stranger.ensures _ c.in-Some.is in
    before_refused _ _ _ _ c.in-Ok.ensures.told _ found.0 _ _ c.run_in-outcome.ensures c.if-outcome-ne0.true

pub overflow_add-at : goal.overflow_add-at
overflow_add-at c =
    let found = stranger_found c.args.c.now c.args.owners.now c.args.requests.now _ _ c.in-Ok.ensures.same.0 c.in-Ok.ensures.same.1 _ c.first_stranger.ensures _ c.in-Some.is in
    omega (arith, found.1)

pub slice_bounds-request_in-end : goal.slice_bounds-request_in-end
slice_bounds-request_in-end c =
    let found = stranger_found c.args.c.now c.args.owners.now c.args.requests.now _ _ c.in-Ok.ensures.same.0 c.in-Ok.ensures.same.1 _ c.first_stranger.ensures _ c.in-Some.is in
    omega (arith, found.1)

pub returns : goal.returns
returns c =
    let found = stranger_found c.args.c.now c.args.owners.now c.args.requests.now _ _ c.in-Ok.ensures.same.0 c.in-Ok.ensures.same.1 _ c.first_stranger.ensures _ c.in-Some.is in
    stranger_stops _ _ _ _ c.in-Ok.ensures.told _ found.0 _ _ c.run_in-outcome.ensures c.if-outcome-ne0.false found.1 _
    (search (request_there, rules)) _ _ c.answer_in.ensures (c.from.ensures ∙ c.eleven_over.ensures)
