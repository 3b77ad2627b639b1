-- Invariant: where the zones from i on end is where all of them end.
use Rattle.std.proofs.Common.{◌-◌, ◌≤◌, ◌≡◌, length}
use Rattle.plan.proofs.Locating.{zones_end}
use Rattle.plan.proofs.finding.pass_zone_list.Given as goal

abbrev pub invariant-loop-i : goal.invariant-loop-i
invariant-loop-i l = record {
  there : l.at ≤ length l.s;
  whole : zones_end l.s (l.n - l.i) l.at ≡ zones_end l.s l.n l.start;
}
