-- Invariant: reading the zones from i on, into the words as they are, gives the whole.
use Rattle.std.proofs.Common.{◌-◌, ◌≤◌, ◌≡◌, length, drop}
use Rattle.plan.specs.Into.{times, zone_into}
use Rattle.plan.proofs.words.read_zone_list.Given as goal

abbrev pub invariant-loop-i : goal.invariant-loop-i
invariant-loop-i l = record {
  there : l.at ≤ length l.s;
  same : length l.w ≡ length l.initial.w;
  whole : times zone_into (l.n - l.i) l.i l.w (drop l.at l.s) ≡ times zone_into l.n 0 l.initial.w (drop l.start l.s);
}
