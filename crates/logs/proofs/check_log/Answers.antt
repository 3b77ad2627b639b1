-- By what was found: a refusal of the bytes, or the parts of the log, judged where they begin.
use Rattle.std.proofs.Common.{rules}
use Rattle.logs.proofs.Judging.{check_refused, check_judged, marks_there, zones_there, requests_before, end_there, claims_there, claims_place}
use Rattle.logs.proofs.check_log.Goals as goal

pub overflow_add-claims : goal.overflow_add-claims
overflow_add-claims c = let found = c.in-Ok.ensures in search (claims_place, rules)

pub slice_bounds-judge-count : goal.slice_bounds-judge-count
slice_bounds-judge-count c = let found = c.in-Ok.ensures in search (marks_there, rules)

pub slice_bounds-judge-start : goal.slice_bounds-judge-start
slice_bounds-judge-start c = let found = c.in-Ok.ensures in search (marks_there, rules)

pub slice_bounds-judge-count-in-Ok : goal.slice_bounds-judge-count-in-Ok
slice_bounds-judge-count-in-Ok c = let found = c.in-Ok.ensures in search (zones_there, rules)

pub slice_bounds-judge-start-in-Ok : goal.slice_bounds-judge-start-in-Ok
slice_bounds-judge-start-in-Ok c = let found = c.in-Ok.ensures in search (zones_there, rules)

pub slice_bounds-judge-count-in-Ok-2 : goal.slice_bounds-judge-count-in-Ok-2
slice_bounds-judge-count-in-Ok-2 c = let found = c.in-Ok.ensures in search (requests_before, rules)

pub slice_bounds-judge-start-in-Ok-2 : goal.slice_bounds-judge-start-in-Ok-2
slice_bounds-judge-start-in-Ok-2 c = let found = c.in-Ok.ensures in search (requests_before, rules)

pub slice_bounds-judge-end-in-Ok-2 : goal.slice_bounds-judge-end-in-Ok-2
slice_bounds-judge-end-in-Ok-2 c = let found = c.in-Ok.ensures in search (end_there, rules)

pub slice_bounds-judge-count-in-Ok-3 : goal.slice_bounds-judge-count-in-Ok-3
slice_bounds-judge-count-in-Ok-3 c = let found = c.in-Ok.ensures in search (claims_there, rules)

pub slice_bounds-judge-start-in-Ok-3 : goal.slice_bounds-judge-start-in-Ok-3
slice_bounds-judge-start-in-Ok-3 c = let found = c.in-Ok.ensures in search (claims_there, rules)

pub returns-in-Err : goal.returns-in-Err
returns-in-Err c = rw c.refused.ensures (check_refused c.args.log.now c.args.config.now c.args.table.now c.args.buffer.now _ _ c.in-Err.ensures)

pub returns-in-Ok : goal.returns-in-Ok
returns-in-Ok c = check_judged c.args.log.now _ c.in-Ok.ensures _ _ _ _ _ _ _ c.judge.ensures
