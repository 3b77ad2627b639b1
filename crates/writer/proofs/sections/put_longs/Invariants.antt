-- Invariant: the words before the index are put, one behind the other.
use Rattle.std.proofs.Common.{◌≡◌, ◌+◌, ◌*◌, take}
use Rattle.formats.specs.Formats.{write_many}
use Rattle.puts.specs.Pens.{Wrote}
use Rattle.rules.specs.Fields.{long_size}
use Rattle.rules.specs.Plan.{long}
use Rattle.writer.proofs.sections.put_longs.Given as goal

abbrev pub invariant-loop-x : goal.invariant-loop-x
invariant-loop-x l = record {
  moved : l.pen.at ≡ l.initial.pen.at + l.x-index * long_size;
  wrote : Wrote l.initial.pen l.pen (write_many long (take l.x-index l.longs));
}
