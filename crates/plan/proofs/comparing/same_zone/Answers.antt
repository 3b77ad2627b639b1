-- The zone begins where it must, since there is such a zone; its id is compared there, and its sets behind it.
use Rattle.std.proofs.Common.{arith}
use mathlib.Core.Path.{◌∙◌}
use Rattle.rules.specs.Fields.{short_size}
use Rattle.zones.proofs.Readers.{start_is}
use Rattle.plan.specs.Fields.{FieldRead}
use Rattle.plan.proofs.Fields.{field_there_law}
use Rattle.plan.proofs.Holding.{zone_cut, zone_other, zone_same}
use Rattle.plan.proofs.Told.{kept_ok, kept_none}
use Rattle.plan.proofs.comparing.same_zone.Goals as goal

pub returns-in_err-id : goal.returns-in_err-id
returns-in_err-id c =
    let (e, f) = kept_none (FieldRead short_size _ _ _) _ c.number_at.ensures _ c.ok.ensures.value c.in_err-id.was in
    c.from_residual.ensures ∙ zone_cut _ _ _ _ _ f

pub offset_bounds-w-z : goal.offset_bounds-w-z
offset_bounds-w-z c = omega (arith, start_is _ _ c.zone_start-z.ensures (omega arith))

pub bounds-w-z : goal.bounds-w-z
bounds-w-z c = omega (arith, start_is _ _ c.zone_start-z.ensures (omega arith))

pub returns-then-w-z : goal.returns-then-w-z
returns-then-w-z c =
    let f = kept_ok (FieldRead short_size _ _ _) _ c.number_at.ensures _ c.ok.ensures.value _ c.in_ok-id.was in
    zone_other _ _ _ _ _ f _ c.zone_start-z.ensures (omega arith) c.if-w-z.true

pub overflow_add-z : goal.overflow_add-z
overflow_add-z c = omega (arith, start_is _ _ c.zone_start-z.ensures (omega arith))

pub same_sets-requires : goal.same_sets-requires
same_sets-requires c =
    let f = kept_ok (FieldRead short_size _ _ _) _ c.number_at.ensures _ c.ok.ensures.value _ c.in_ok-id.was in
    (field_there_law _ _ _ _ _ f, omega (arith, start_is _ _ c.zone_start-z.ensures (omega arith)))

pub returns : goal.returns
returns c =
    let f = kept_ok (FieldRead short_size _ _ _) _ c.number_at.ensures _ c.ok.ensures.value _ c.in_ok-id.was in
    zone_same _ _ _ _ _ f _ c.zone_start-z.ensures (omega arith) _ c.if-w-z.false c.same_sets.ensures
