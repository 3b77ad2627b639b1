-- Two cases: position k is the GIC's, or its region must be held at most once.
use Rattle.std.proofs.Common.{rules, ◌∙◌}
use borrow.Author.Tests.{eq-eqb}
use Rattle.zones.proofs.Checking.{held_gic, held_other}
use Rattle.zones.proofs.sound.held_well.Goals as goal

pub returns-then-k-gic : goal.returns-then-k-gic
returns-then-k-gic c = eq-eqb _ _ c.if-k-gic.true ∙ search (held_gic, rules)

pub returns-else-k-gic : goal.returns-else-k-gic
returns-else-k-gic c = search (held_other, rules)
