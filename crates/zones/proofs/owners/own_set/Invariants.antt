-- Invariant: the positions of the first i regions are the zone's, and what was somebody's stayed so.
use Rattle.zones.specs.Owners.{Keeps, HasSet}
use Rattle.zones.specs.View.{config_in}
use Rattle.zones.proofs.owners.own_set.Given as goal

abbrev pub invariant-loop-i : goal.invariant-loop-i
invariant-loop-i l = Keeps l.initial.owners l.owners × HasSet (config_in l.c.config.words.now) l.t l.owners l.z l.side l.i
