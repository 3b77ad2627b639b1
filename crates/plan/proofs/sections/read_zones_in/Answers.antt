-- Cleared, and then read into where the section is there.
use Rattle.std.proofs.Common.{rules}
use Rattle.plan.proofs.Answers.{zones_bad, zones_are}
use Rattle.plan.proofs.Told.{passed_on}
use Rattle.plan.proofs.sections.read_zones_in.Goals as goal

pub returns-in_err-pass_zones : goal.returns-in_err-pass_zones
returns-in_err-pass_zones c =
    rw (passed_on _ _ c.from_residual.ensures)
    (zones_bad _ _ _ (search rules) c.clear_words.ensures _ c.in_err-pass_zones.ensures)

pub returns : goal.returns
returns c = zones_are _ _ _ (search rules) c.clear_words.ensures _ c.in_ok-pass_zones.ensures _ _ c.read_table.ensures
