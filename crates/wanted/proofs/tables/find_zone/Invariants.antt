-- Invariant: the first zone with the id from z on is the first of all.
use mathlib.Core.Path.{◌≡◌}
use Rattle.lists.specs.First.{first_index, first_from}
use Rattle.rules.specs.Tables.{has_id}
use Rattle.zones.specs.View.{zones_in}
use Rattle.wanted.proofs.tables.find_zone.Given as goal

abbrev pub invariant-loop-z : goal.invariant-loop-z
invariant-loop-z l = (first_from (has_id l.id) (zones_in l.t) l.z ≡ first_index (has_id l.id) (zones_in l.t))
