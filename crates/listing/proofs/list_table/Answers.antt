-- 1 or 2; else what filling gives.
use Rattle.std.proofs.Common.{rules, refl, ap, ◌∙◌}
use Rattle.rules.specs.Limits.{limits}
use Rattle.rules.specs.Listing.{listing}
use Rattle.zones.specs.View.{zones_in}
use Rattle.zones.proofs.Ruling.{number_some}
use Rattle.writer.proofs.Filling.{filled_with}
use Rattle.writer.proofs.Putting.{table_fits}
use Rattle.listing.proofs.Listing.{list_own, list_stands, list_filled}
use Rattle.listing.proofs.list_table.Goals as goal

pub returns-in-Err : goal.returns-in-Err
returns-in-Err c = ap (λ o. filled_with o c.args.buffer.now) c.refused.ensures
    ∙ list_own c.args.config.now c.args.table.now c.args.buffer.now _ c.in-Err.ensures (number_some _)

pub fill_buffer-requires : goal.fill_buffer-requires
fill_buffer-requires c =
    let fits = table_fits c.args.config.now c.args.table.now (list_stands c.args.config.now c.args.table.now 0 c.in_default.ensures refl) c.told-table in
    search rules

pub returns : goal.returns
returns c =
    let filled = c.fill_buffer.ensures (listing limits (zones_in c.args.table.now)) (record { at = λ s n v h. search rules }) in
    list_filled c.args.config.now c.args.table.now c.args.buffer.now 0 c.in_default.ensures refl _ _ filled
