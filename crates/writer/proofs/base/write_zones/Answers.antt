-- 1 or 2, or the section.
use Rattle.std.proofs.Common.{rules, refl, subst, sym}
use Rattle.rules.specs.Differing.{zones_bytes}
use Rattle.rules.specs.Limits.{limits}
use Rattle.zones.specs.View.{stored_table}
use Rattle.zones.proofs.Ruling.{number_some}
use Rattle.writer.specs.Writer.{WritesZonesIn}
use Rattle.writer.proofs.Putting.{zones_whole, table_fits}
use Rattle.writer.proofs.Writing.{zones_stand, zones_refused, zones_filled}
use Rattle.writer.proofs.base.write_zones.Goals as goal

pub returns-in-Err : goal.returns-in-Err
returns-in-Err c = subst (λ o. WritesZonesIn c.args.config.now c.args.table.now c.args.buffer.now o c.args.buffer.now) (sym c.refused.ensures)
    (zones_refused c.args.config.now c.args.table.now c.args.buffer.now _ c.in-Err.ensures (number_some _))

pub fill_buffer-requires : goal.fill_buffer-requires
fill_buffer-requires c =
    let fits = table_fits c.args.config.now c.args.table.now (zones_stand c.args.config.now c.args.table.now 0 c.in_default.ensures refl) c.told-table in
    search rules

pub returns : goal.returns
returns c =
    let stands = zones_stand c.args.config.now c.args.table.now 0 c.in_default.ensures refl in
    let filled = c.fill_buffer.ensures (zones_bytes limits (stored_table c.args.table.now))
    (record { at = λ s n v h. zones_whole c.args.config.now c.args.table.now stands _ _ _ _ (search rules) }) in
    zones_filled c.args.config.now c.args.table.now c.args.buffer.now 0 c.in_default.ensures refl _ _ filled
