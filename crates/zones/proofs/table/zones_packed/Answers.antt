-- Each zone is looked at in its place.
use Rattle.std.proofs.Common.{rules}
use borrow.Author.Tests.{tests}
use Rattle.zones.specs.Packing.{zone_packed}
use Rattle.zones.proofs.Packing.{every_packed}
use Rattle.zones.proofs.Ranges.{every_place}
use Rattle.zones.proofs.table.zones_packed.Goals as goal

pub returns : goal.returns
returns c = every_packed _ _ _
    (every_place (zone_packed c.args.t.now) 0 c.args.n _ _ c.all.ensures.ran (λ x t q k. search (rules, tests)))
