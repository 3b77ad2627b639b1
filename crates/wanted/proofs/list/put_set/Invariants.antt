-- Invariant: what the first i regions give is put.
use Rattle.std.proofs.Common.{◌≤◌, ◌+◌, ◌*◌}
use mathlib.Core.List.{flat_map}
use Rattle.lists.specs.Places.{tab}
use Rattle.formats.specs.Formats.{write_many}
use Rattle.puts.specs.Pens.{Wrote}
use Rattle.rules.specs.Plan.{asked_field}
use Rattle.rules.specs.Run.{request_size}
use Rattle.zones.specs.Records.{record_at}
use Rattle.wanted.specs.Wanted.{lacked, set_from}
use Rattle.wanted.proofs.list.put_set.Given as goal

abbrev pub invariant-loop-i : goal.invariant-loop-i
invariant-loop-i l = record {
  moved : l.pen.at ≤ l.initial.pen.at + l.i * request_size;
  wrote : Wrote l.initial.pen l.pen (write_many asked_field (flat_map (lacked l.heading.kind l.heading.zone (set_from l.to.words.now l.to.at)) (tab l.i (record_at l.from.words.now (l.from.at + 1)))));
}
