-- Invariant: the lines of the first i regions are put, none longer than a line can be.
use Rattle.std.proofs.Common.{◌≤◌, ◌+◌, ◌*◌}
use Rattle.puts.specs.Pens.{Wrote}
use Rattle.rules.specs.Limits.{limits}
use Rattle.rules.specs.Listing.{set_lines}
use Rattle.zones.specs.Records.{records_at}
use Rattle.listing.specs.Lines.{line_room}
use Rattle.listing.proofs.lines.put_set.Given as goal

abbrev pub invariant-loop-i : goal.invariant-loop-i
invariant-loop-i l = record {
  moved : l.pen.at ≤ l.initial.pen.at + l.i * line_room;
  wrote : Wrote l.initial.pen l.pen (set_lines limits l.id l.side (records_at l.w (l.k + 1) l.i));
}
