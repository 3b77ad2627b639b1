-- Each return is one test of the conjunction: off the GIC, the rights of the CPU's regions, those of the devices'.
use Rattle.std.proofs.Common.{◌≡◌, ◌∙◌, sym, true, false}
use mathlib.Core.Bool.{true≢false}
use Rattle.lists.proofs.Tests.{conjunction}
use Rattle.zones.specs.Holding.{used_well}
use Rattle.zones.proofs.sound.used_well.Goals as goal
use Rattle.zones.proofs.sound.used_well.Goals.{then-off_gic, else-off_gic}

pub returns-then-set_modest : goal.returns-then-set_modest
unfolding used_well
returns-then-set_modest c =
    elim c.if-off_gic.branch [
      | then-off_gic w ↦
          (let e : w.set_modest.result ≡ true = sym w.value-is ∙ c.if-set_modest.true in search conjunction depth 12)
      | else-off_gic w ↦ absurd (true≢false (sym c.if-set_modest.true ∙ w.value-is ∙ w.if-off_gic.false))
    ]

pub returns-else-set_modest : goal.returns-else-set_modest
unfolding used_well
returns-else-set_modest c =
    c.if-set_modest.false ∙ elim c.if-off_gic.branch [
      | then-off_gic w ↦
          (let e : w.set_modest.result ≡ false = sym w.value-is ∙ c.if-set_modest.false in search conjunction depth 12)
      | else-off_gic w ↦ search conjunction depth 12
    ]
