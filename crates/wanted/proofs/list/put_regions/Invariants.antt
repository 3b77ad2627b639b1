-- Invariant: what the first z zones give is put, none more than a zone can hold.
use Rattle.std.proofs.Common.{◌≤◌, ◌+◌, ◌*◌}
use mathlib.Core.List.{flat_map}
use Rattle.lists.specs.Places.{tab}
use Rattle.formats.specs.Formats.{write_many}
use Rattle.puts.specs.Pens.{Wrote}
use Rattle.rules.specs.Limits.{most_in_set}
use Rattle.rules.specs.Plan.{asked_field}
use Rattle.rules.specs.Run.{request_size}
use Rattle.zones.specs.View.{zone_in, zones_in}
use Rattle.wanted.specs.Wanted.{zone_asked}
use Rattle.wanted.proofs.list.put_regions.Given as goal

abbrev pub invariant-loop-z : goal.invariant-loop-z
invariant-loop-z l = record {
  moved : l.pen.at ≤ l.initial.pen.at + l.z * (2 * most_in_set * request_size);
  wrote : Wrote l.initial.pen l.pen (write_many asked_field (flat_map (zone_asked l.change (zones_in l.to)) (tab l.z (zone_in l.from))));
}
