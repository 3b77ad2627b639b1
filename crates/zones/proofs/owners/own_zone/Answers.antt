-- Nothing is told of a zone whose id is too high; else the zone has the regions of both sides.
use Rattle.std.proofs.Common.{rules, sym}
use mathlib.Core.Bool.{true≢false}
use Rattle.zones.proofs.Checking.{zone_within, side_within}
use Rattle.zones.proofs.Owning.{keeps_same, keeps_on, zone_has_both}
use Rattle.zones.proofs.owners.own_zone.Goals as goal

pub returns-then-id_at-gt-HIGHEST_ID : goal.returns-then-id_at-gt-HIGHEST_ID
returns-then-id_at-gt-HIGHEST_ID c = (search keeps_same, (λ e. absurd (true≢false (sym e))))

pub own_set-requires : goal.own_set-requires
own_set-requires c = search (zone_within, side_within, rules)

pub own_set-requires-then-own_set : goal.own_set-requires-then-own_set
own_set-requires-then-own_set c = search (zone_within, side_within, rules)

pub returns-then-own_set : goal.returns-then-own_set
returns-then-own_set c = (
  keeps_on _ _ _ c.own_set.ensures.0 c.own_set-then-own_set.ensures.0,
  (λ e. zone_has_both _ _ _ _ _ c.own_set-then-own_set.ensures.0 (c.own_set.ensures.1 c.if-own_set.true) (c.own_set-then-own_set.ensures.1 e)),
)
