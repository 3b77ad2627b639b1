-- Invariant: the rules of the positions from i on give the whole answer.
use Prim.Native.Nat.{◌≤◌, ◌-◌}
use mathlib.Core.List.{flat_map}
use mathlib.Core.Path.{◌≡◌}
use Rattle.lists.specs.Places.{places}
use Rattle.lists.specs.Rules.{first_rule}
use Rattle.rules.specs.Limits.{limits}
use Rattle.rules.specs.declared.Checked.TheVariants.{Sound}
use Rattle.rules.specs.Configuration.{position_rules}
use Rattle.zones.specs.View.{all_records}
use Rattle.zones.proofs.config.check_from.Given as goal

abbrev pub invariant-loop-i : goal.invariant-loop-i
invariant-loop-i l = (l.i ≤ l.n)
    × (first_rule (flat_map (position_rules limits (all_records l.c)) (places l.i (l.n - l.i))) Sound
    ≡ first_rule (flat_map (position_rules limits (all_records l.c)) (places l.k (l.n - l.k))) Sound)
