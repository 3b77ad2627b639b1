-- Invariant: reading the records from i on, into the words as they are, gives the whole.
use Rattle.std.proofs.Common.{◌-◌, ◌≤◌, ◌≡◌, length, drop}
use Rattle.plan.specs.Into.{times, record_into}
use Rattle.plan.proofs.words.read_records.Given as goal

abbrev pub invariant-loop-i : goal.invariant-loop-i
invariant-loop-i l = record {
  there : l.at ≤ length l.s;
  same : length l.w ≡ length l.initial.w;
  whole : times (record_into l.a) (l.n - l.i) l.i l.w (drop l.at l.s) ≡ times (record_into l.a) l.n 0 l.initial.w (drop l.start l.s);
}
