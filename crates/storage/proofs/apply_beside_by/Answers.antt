-- By the number: 0 raises the mark; 20 to 26 leave everything; any other refusal puts the current table back.
use Rattle.std.proofs.Common.{◌<◌, ◌^◌, arith}
use Rattle.storage.proofs.Beside.{prepared_away, prepared_refused, prepared_accepted, mark_room}
use Rattle.storage.proofs.apply_beside_by.Goals as goal

pub overflow_add-result : goal.overflow_add-result
overflow_add-result g c =
    let mark : c.args.mark < 2 ^ 32 = omega arith in
    omega (arith, mark_room _ _ _ _ _ _ _ _ c.answer_beside-outcome.ensures g.met.M.Machine.refuses c.if-outcome-eq0.true mark)

pub returns-then-outcome-eq0 : goal.returns-then-outcome-eq0
returns-then-outcome-eq0 g c =
    prepared_accepted _ _ _ _ _ _ _ _ c.answer_beside-outcome.ensures g.met.M.Machine.refuses c.if-outcome-eq0.true

pub returns-then-not-judged_before : goal.returns-then-not-judged_before
returns-then-not-judged_before g c =
    prepared_refused _ _ _ _ _ _ _ _ c.answer_beside-outcome.ensures c.if-outcome-eq0.false _ c.judged_before.ensures
    c.if-not-judged_before.true _ c.copy_table.ensures

pub returns-else-not-judged_before : goal.returns-else-not-judged_before
returns-else-not-judged_before g c =
    prepared_away _ _ _ _ _ _ _ _ c.answer_beside-outcome.ensures c.if-outcome-eq0.false _ c.judged_before.ensures
    c.if-not-judged_before.false
