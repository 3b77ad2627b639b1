-- By what was found: bytes that do not read whole, another base, or the state's own.
use Rattle.plan.proofs.Judging.{judged_away, judged_other, judged_own, told_away, told_other, told_own, fits_by}
use Rattle.plan.proofs.base.judge.Goals as goal

pub returns-in-Err : goal.returns-in-Err
returns-in-Err g c = record {
  judged = told_away _ _ _ _ _ _ _ c.in-Err.ensures.told _ c.standing.ensures _ c.away.ensures;
  applied = judged_away _ _ _ _ _ _ _ c.in-Err.ensures.finds _ c.standing.ensures _ c.away.ensures;
}

pub parts-parts-requires : goal.parts-parts-requires
parts-parts-requires g c = fits_by _ _ _ _ c.args.table.now c.args.edition _ c.in-Ok.ensures.finds

pub returns-in-Ok-base_number : goal.returns-in-Ok-base_number
returns-in-Ok-base_number g c = record {
  judged =
      told_own _ _ _ _ _ _ _ c.in-Ok.ensures.told _ c.parts-parts.ensures _ c.gives-given.ensures
      c.in-Ok-base_number.ensures;
  applied =
      judged_own _ _ _ _ _ _ _ c.in-Ok.ensures.finds _ c.parts-parts.ensures _ c.gives-given.ensures
      c.in-Ok-base_number.ensures;
}

pub returns-in-Err-base_number : goal.returns-in-Err-base_number
returns-in-Err-base_number g c = record {
  judged =
      told_other _ _ _ _ _ _ _ c.in-Ok.ensures.told _ c.parts-parts.ensures _ c.gives-given.ensures _
      c.in-Err-base_number.ensures _ c.standing-in-Err-base_number.ensures _ c.away-in-Err-base_number.ensures;
  applied =
      judged_other _ _ _ _ _ _ _ c.in-Ok.ensures.finds _ c.parts-parts.ensures _ c.gives-given.ensures _
      c.in-Err-base_number.ensures _ c.standing-in-Err-base_number.ensures _ c.away-in-Err-base_number.ensures;
}
