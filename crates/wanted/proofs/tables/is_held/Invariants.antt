-- Invariant: the first equal region from i on is the first of all.
use Prim.Native.Nat.{◌+◌}
use mathlib.Core.Path.{◌≡◌}
use Rattle.lists.specs.First.{first_index, first_from}
use Rattle.rules.specs.Regions.{region_eq}
use Rattle.zones.specs.Records.{records_at}
use Rattle.wanted.proofs.tables.is_held.Given as goal

abbrev pub invariant-loop-i : goal.invariant-loop-i
invariant-loop-i l = (first_from (region_eq l.r) (records_at l.set.words.now (l.set.at + 1) l.n) l.i ≡ first_index (region_eq l.r) (records_at l.set.words.now (l.set.at + 1) l.n))
