-- 1 or 2 before 25.
use Rattle.std.proofs.Common.{refl, ◌∙◌}
use Rattle.zones.proofs.Ruling.{number_some}
use Rattle.writer.proofs.Writing.{own_first, last_edition_law}
use Rattle.writer.proofs.no_next.Goals as goal

pub returns-in-Ok : goal.returns-in-Ok
returns-in-Ok c = c.refused.ensures ∙ last_edition_law c.args.config.now c.args.table.now 0 c.in-Ok.ensures refl

pub returns-in-Err : goal.returns-in-Err
returns-in-Err c = c.refused-in-Err.ensures ∙ own_first c.args.config.now c.args.table.now _ c.in-Err.ensures (number_some _)
