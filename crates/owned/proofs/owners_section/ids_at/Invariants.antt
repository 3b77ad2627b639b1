-- Invariant: the words are those of the ids before i, and zeros.
use Rattle.std.proofs.Common.{◌≡◌}
use Rattle.lists.specs.Places.{tab}
use Rattle.lists.specs.Room.{room}
use Rattle.rules.specs.Limits.{most_regions}
use Rattle.owned.specs.Section.{id_at}
use Rattle.owned.proofs.owners_section.ids_at.Given as goal

abbrev pub invariant-loop-i : goal.invariant-loop-i
invariant-loop-i l = l.owners ≡ room most_regions 0 (tab l.i (id_at l.s))
