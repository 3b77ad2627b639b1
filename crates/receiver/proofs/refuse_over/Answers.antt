-- The state's own number, or what the bytes read to, or 22 at their end.
use Rattle.std.proofs.Common.{◌∙◌}
use Rattle.receiver.proofs.Calls.{over_own, over_bad, over_whole}
use Rattle.receiver.proofs.refuse_over.Goals as goal

pub returns-in-Err : goal.returns-in-Err
returns-in-Err c = c.refused.ensures ∙ over_own _ _ _ _ c.in-Err.ensures

pub returns-in-Ok : goal.returns-in-Ok
returns-in-Ok c = c.refused-in-Ok.ensures ∙ over_whole _ _ _ c.in_default.ensures _ c.in-Ok.ensures

pub returns-in-Err-find_sections : goal.returns-in-Err-find_sections
returns-in-Err-find_sections c =
    c.refused-in-Err-find_sections.ensures ∙ over_bad _ _ _ c.in_default.ensures _ _ c.in-Err-find_sections.ensures
