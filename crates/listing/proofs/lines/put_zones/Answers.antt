-- One zone more each time.
use Rattle.std.proofs.Common.{rules}
use Rattle.listing.proofs.Putting.{zones_none, zones_on, zones_end_law}
use Rattle.listing.proofs.lines.put_zones.Goals as goal

pub loop-z-init : goal.loop-z-init
loop-z-init c = record { moved = search rules; wrote = search (zones_none, rules) }

pub put_zone-requires : goal.put_zone-requires
put_zone-requires c = let fits = c.requires.1 in
    (search rules, (search rules, fits.zones c.loop-z.z (search rules)))

pub loop-z-preserved : goal.loop-z-preserved
loop-z-preserved c = record { moved = search rules; wrote = search (zones_on, rules) }

pub returns : goal.returns
returns c = search (zones_end_law, rules)
