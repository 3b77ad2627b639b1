-- Invariant: the first z zones are put, one behind the other, none longer than a zone can be.
use Rattle.std.proofs.Common.{◌≤◌, ◌+◌, ◌*◌}
use Rattle.lists.specs.Places.{tab}
use Rattle.formats.specs.Formats.{write_many}
use Rattle.puts.specs.Pens.{Wrote}
use Rattle.rules.specs.Limits.{most_in_set, limits}
use Rattle.rules.specs.Plan.{zone_format}
use Rattle.rules.specs.Sizes.{sets_size}
use Rattle.zones.specs.View.{zone_in}
use Rattle.writer.proofs.sections.put_zone_list.Given as goal

abbrev pub invariant-loop-z : goal.invariant-loop-z
invariant-loop-z l = record {
  moved : l.pen.at ≤ l.initial.pen.at + l.z * sets_size most_in_set most_in_set;
  wrote : Wrote l.initial.pen l.pen (write_many (zone_format limits) (tab l.z (zone_in l.w)));
}
