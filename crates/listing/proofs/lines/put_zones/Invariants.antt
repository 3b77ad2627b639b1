-- Invariant: the lines of the first z zones are put, none longer than a zone's can be.
use Rattle.std.proofs.Common.{◌≤◌, ◌+◌, ◌*◌}
use Rattle.lists.specs.Places.{tab}
use Rattle.puts.specs.Pens.{Wrote}
use Rattle.rules.specs.Limits.{limits}
use Rattle.rules.specs.Listing.{listing}
use Rattle.zones.specs.View.{zone_in}
use Rattle.listing.specs.Lines.{zone_room}
use Rattle.listing.proofs.lines.put_zones.Given as goal

abbrev pub invariant-loop-z : goal.invariant-loop-z
invariant-loop-z l = record {
  moved : l.pen.at ≤ l.initial.pen.at + l.z * zone_room;
  wrote : Wrote l.initial.pen l.pen (listing limits (tab l.z (zone_in l.w)));
}
