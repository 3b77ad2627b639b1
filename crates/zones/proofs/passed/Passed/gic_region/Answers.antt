-- The GIC's position is below the count, so its record is the configuration's GIC.
use borrow.Author.Rules.{rules}
use Rattle.zones.proofs.ConfigReaders.{gic_region_is}
use Rattle.zones.proofs.passed.Passed.gic_region.Goals as goal

pub returns : goal.returns
returns c = search (gic_region_is, rules)
