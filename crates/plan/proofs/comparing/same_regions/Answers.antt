-- By where the list ends: refused; another count; a record that differs; or all the same.
use mathlib.Core.Path.{◌∙◌}
use Rattle.plan.proofs.Holding.{regions_other, regions_fewer, regions_differ, regions_same, records_room}
use Rattle.plan.proofs.Holding.{bytes_there}
use Rattle.plan.proofs.Told.{told_ok, told_none}
use Rattle.plan.proofs.comparing.same_regions.Goals as goal

pub returns-in_err-end : goal.returns-in_err-end
returns-in_err-end c =
    let (e, f) = told_none _ _ c.pass_list.ensures _ c.ok.ensures.value c.in_err-end.was in
    c.from_residual.ensures ∙ regions_other _ _ _ _ _ _ _ _ f

pub returns-then-w-k : goal.returns-then-w-k
returns-then-w-k c =
    let f = told_ok _ _ c.pass_list.ensures _ c.ok.ensures.value _ c.in_ok-end.was in
    regions_fewer _ _ _ _ _ _ _ _ f _ c.u32_at-n.ensures c.if-w-k.true

pub same_records-requires : goal.same_records-requires
same_records-requires c =
    let f = told_ok _ _ c.pass_list.ensures _ c.ok.ensures.value _ c.in_ok-end.was in (
      bytes_there _ c.args.w.now _ _ _ c.args.k c.args.a _ f _ c.u32_at-n.ensures,
      records_room _ c.args.w.now _ _ _ c.args.k _ _ f _ c.u32_at-n.ensures c.requires.1,
    )

pub returns-then-not-same_records : goal.returns-then-not-same_records
returns-then-not-same_records c =
    let f = told_ok _ _ c.pass_list.ensures _ c.ok.ensures.value _ c.in_ok-end.was in
    regions_differ _ _ _ _ _ _ _ _ f _ c.u32_at-n.ensures _ c.if-w-k.false c.same_records.ensures c.if-not-same_records.true

pub returns : goal.returns
returns c =
    let f = told_ok _ _ c.pass_list.ensures _ c.ok.ensures.value _ c.in_ok-end.was in
    regions_same _ _ _ _ _ _ _ _ f _ c.u32_at-n.ensures _ c.if-w-k.false c.same_records.ensures c.if-not-same_records.false
