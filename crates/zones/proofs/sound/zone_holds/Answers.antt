-- Each return is one of the two sets.
use Rattle.std.proofs.Common.{rules, ap, ◌∙◌}
use Rattle.std.specs.Prelude.{is_some}
use Rattle.rules.specs.Regions.{region_eq}
use Rattle.zones.proofs.Checking.{zone_within, side_within, held_cpu, held_iommu}
use Rattle.zones.proofs.Finding.{some_any}
use Rattle.zones.proofs.sound.zone_holds.Goals as goal

pub set_find-requires-clause-fits : goal.set_find-requires-clause-fits
set_find-requires-clause-fits c = search (zone_within, side_within, rules)

pub set_find-requires-else-is_some-clause-fits : goal.set_find-requires-else-is_some-clause-fits
set_find-requires-else-is_some-clause-fits c = search (zone_within, side_within, rules)

pub returns-then-is_some : goal.returns-then-is_some
returns-then-is_some c = let cpu = c.set_find.ensures (region_eq c.args.r) (λ e t k. search rules) in
    c.if-is_some.true
    ∙ held_cpu _ _ _ _ (c.is_some.ensures ∙ ap is_some cpu ∙ some_any _ _) c.if-is_some.true

pub returns-else-is_some : goal.returns-else-is_some
returns-else-is_some c = let cpu = c.set_find.ensures (region_eq c.args.r) (λ e t k. search rules) in
    let iommu = c.set_find-else-is_some.ensures (region_eq c.args.r) (λ e t k. search rules) in
    held_iommu _ _ _ _ _ (c.is_some.ensures ∙ ap is_some cpu ∙ some_any _ _) c.if-is_some.false
    (c.is_some-else-is_some.ensures ∙ ap is_some iommu ∙ some_any _ _)
