-- A number that is not there is no count; one that is there is judged.
use Rattle.std.proofs.Common.{rules, ◌≡◌, sym, true, false}
use mathlib.Core.Path.{◌∙◌}
use Rattle.formats.specs.Formats.{within}
use Rattle.plan.proofs.Fields.{count_none, count_out, count_in, within_tests}
use Rattle.plan.proofs.Told.{passed_on}
use Rattle.plan.proofs.field.count_at.Goals as goal

pub returns-in_err-count : goal.returns-in_err-count
returns-in_err-count c = rw (passed_on _ _ c.from_residual.ensures) (search (count_none, rules))

pub returns-then-not-contains : goal.returns-then-not-contains
returns-then-not-contains c =
    let test = rw (c.new.ensures.start, c.new.ensures.end, c.new.ensures.exhausted) at c.if-not-contains.ensures.value in
    let out : within c.args.lo c.args.hi c.in_ok-count.count ≡ false = within_tests _ _ _ ∙ sym test in
    count_out _ _ c.requires _ _ _ c.in_ok-count.ensures out

pub returns : goal.returns
returns c =
    let test = rw (c.new.ensures.start, c.new.ensures.end, c.new.ensures.exhausted) at c.if-not-contains.ensures.value in
    let in_range : within c.args.lo c.args.hi c.in_ok-count.count ≡ true = within_tests _ _ _ ∙ sym test in
    count_in _ _ c.requires _ _ _ c.in_ok-count.ensures in_range
