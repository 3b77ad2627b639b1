-- Each return is one case of the section: a count or a mark that is cut, another count, another format's mark, or all.
use Rattle.plan.proofs.Answers.{marks_none, marks_no_gic, marks_no_edition, marks_other, marks_are}
use Rattle.plan.proofs.Fields.{field_there_law}
use Rattle.plan.proofs.Told.{passed_on}
use Rattle.plan.proofs.sections.read_format_marks.Goals as goal

pub returns-in_err-count_at : goal.returns-in_err-count_at
returns-in_err-count_at c = rw (passed_on _ _ c.from_residual.ensures) (marks_none _ _ _ c.in_err-count_at.ensures)

pub number_at-requires : goal.number_at-requires
number_at-requires c = field_there_law _ _ _ _ _ c.in_ok-count_at.ensures

pub returns-in_err-gic : goal.returns-in_err-gic
returns-in_err-gic c =
    rw (passed_on _ _ c.from_residual-in_err-gic.ensures) (marks_no_gic _ _ _ c.in_ok-count_at.ensures _ c.in_err-gic.ensures)

pub number_at-requires-2 : goal.number_at-requires-2
number_at-requires-2 c = field_there_law _ _ _ _ _ c.in_ok-gic.ensures

pub returns-in_err-edition : goal.returns-in_err-edition
returns-in_err-edition c =
    rw (passed_on _ _ c.from_residual-in_err-edition.ensures)
    (marks_no_edition _ _ _ c.in_ok-count_at.ensures _ c.in_ok-gic.ensures _ c.in_err-edition.ensures)

pub count_at-requires-2 : goal.count_at-requires-2
count_at-requires-2 c = field_there_law _ _ _ _ _ c.in_ok-edition.ensures

pub returns-in_err-count_at-2 : goal.returns-in_err-count_at-2
returns-in_err-count_at-2 c =
    rw (passed_on _ _ c.from_residual-in_err-count_at-2.ensures)
    (marks_other _ _ _ c.in_ok-count_at.ensures _ c.in_ok-gic.ensures _ c.in_ok-edition.ensures _ c.in_err-count_at-2.ensures)

pub returns : goal.returns
returns c =
    marks_are _ _ _ c.in_ok-count_at.ensures _ c.in_ok-gic.ensures _ c.in_ok-edition.ensures _ c.in_ok-count_at-2.ensures
