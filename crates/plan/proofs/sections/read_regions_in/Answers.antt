-- Cleared, and then read into where the section is there.
use Rattle.std.proofs.Common.{rules}
use Rattle.plan.proofs.Answers.{regions_bad, regions_are}
use Rattle.plan.proofs.Told.{passed_on}
use Rattle.plan.proofs.sections.read_regions_in.Goals as goal

pub returns-in_err-pass_regions : goal.returns-in_err-pass_regions
returns-in_err-pass_regions c =
    rw (passed_on _ _ c.from_residual.ensures)
    (regions_bad _ _ _ _ (search rules) c.clear_words.ensures _ c.in_err-pass_regions.ensures)

pub returns : goal.returns
returns c =
    regions_are _ _ _ _ (search rules) c.clear_words.ensures _ c.in_ok-pass_regions.ensures _ _ c.read_set.ensures
