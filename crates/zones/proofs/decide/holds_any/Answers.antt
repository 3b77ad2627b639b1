-- Each return is one of the two sets: a length above 0.
use borrow.Author.Rules.{rules}
use borrow.Author.Tests.{lt-ltb}
use mathlib.Core.Path.{◌∙◌}
use Rattle.zones.proofs.Deciding.{cpu_holds, iommu_holds}
use Rattle.zones.proofs.decide.holds_any.Goals as goal

pub returns-then-set_len-gt0 : goal.returns-then-set_len-gt0
returns-then-set_len-gt0 c = lt-ltb _ _ c.if-set_len-gt0.true ∙ search (cpu_holds, rules)

pub returns-else-set_len-gt0 : goal.returns-else-set_len-gt0
returns-else-set_len-gt0 c = search (iommu_holds, rules)
