-- Each id is looked at in its place.
use Rattle.std.proofs.Common.{rules}
use borrow.Author.Tests.{tests}
use Rattle.zones.specs.View.{zone_in}
use Rattle.rules.specs.Tables.{has_id}
use Rattle.zones.proofs.Ranges.{first_place}
use Rattle.zones.proofs.Readers.{zone_by_id}
use Rattle.zones.proofs.table.find_zone.Goals as goal

pub returns : goal.returns
returns c = zone_by_id _ _ _ _ c.zone_count.ensures
    (first_place (λ i. has_id c.args.id (zone_in c.args.t.now i)) 0 _ _ _ c.position.ensures.ran (λ x t q k. search (rules, tests)))
