-- The record at the GIC's position is the GIC.
use mathlib.Core.Path.{refl}
use Rattle.owners.proofs.Owns.{gic_asked}
use Rattle.owners.proofs.owned.Owned.is_gic.Goals as goal

pub returns : goal.returns
returns c =
    gic_asked _ c.args.self.now.owners.now c.args.self.now.ranged _ _ _ _ refl c.region.ensures c.region_eq.ensures
