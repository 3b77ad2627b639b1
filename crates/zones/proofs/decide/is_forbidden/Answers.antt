-- Two cases: the GIC is exempt, and any other region is forbidden where another zone holds it.
use borrow.Author.Rules.{rules}
use borrow.Author.Tests.{tests}
use mathlib.Core.Bool.{not}
use mathlib.Core.Path.{ap, ◌∙◌}
use Rattle.zones.proofs.Deciding.{gic_shared, private_shared}
use Rattle.zones.proofs.decide.is_forbidden.Goals as goal

pub returns-then-not-region_eq : goal.returns-then-not-region_eq
returns-then-not-region_eq c = search (private_shared, rules, tests)

pub returns-else-not-region_eq : goal.returns-else-not-region_eq
returns-else-not-region_eq c = ap not c.if-not-region_eq.false ∙ search (gic_shared, rules, tests)
