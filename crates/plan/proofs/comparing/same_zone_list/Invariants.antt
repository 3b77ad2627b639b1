-- Invariant: the zones from i on give the whole answer.
use Rattle.std.proofs.Common.{◌-◌, ◌≤◌, ◌≡◌, length, drop}
use Rattle.lists.specs.Places.{tab}
use Rattle.formats.specs.Formats.{read_many}
use Rattle.rules.specs.Applying.{same_list, same_zone}
use Rattle.rules.specs.Limits.{limits}
use Rattle.rules.specs.Plan.{zone_format}
use Rattle.zones.specs.View.{zone_in}
use Rattle.plan.specs.Held.{held_answer}
use Rattle.plan.proofs.Holding.{zones_from}
use Rattle.plan.proofs.comparing.same_zone_list.Given as goal

abbrev pub invariant-loop-i : goal.invariant-loop-i
invariant-loop-i l = record {
  there : l.at ≤ length l.s;
  whole :
      zones_from l.s l.w (l.n - l.i) l.i l.at
      ≡ held_answer (length l.s) (same_list same_zone (tab l.n (zone_in l.w))) (read_many (zone_format limits) l.n (drop l.start l.s));
}
