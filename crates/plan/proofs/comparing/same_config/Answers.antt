-- The regions first, then the position of the GIC.
use Rattle.std.proofs.Common.{is_some}
use mathlib.Core.Path.{ap, ◌∙◌}
use Rattle.plan.proofs.Holding.{config_other, config_held_law}
use Rattle.plan.proofs.comparing.same_config.Goals as goal

pub returns-then-is_some : goal.returns-then-is_some
returns-then-is_some c =
    config_held_law _ _ _ _ (c.is_some.ensures ∙ ap (λ r. is_some r) c.same_regions.ensures) c.if-is_some.true

pub returns-else-is_some : goal.returns-else-is_some
returns-else-is_some c =
    c.if-is_some.false
    ∙ config_other _ _ _ _ (c.is_some.ensures ∙ ap (λ r. is_some r) c.same_regions.ensures) c.if-is_some.false
