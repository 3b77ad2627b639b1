-- Invariant: the first record from i on of which the test says yes is the first of all.
use mathlib.Core.Bool.{Bool}
use mathlib.Core.Path.{◌≡◌}
use Rattle.lists.specs.First.{first_index, first_from}
use Rattle.rules.specs.declared.Region.{Region}
use Rattle.zones.specs.Records.{records_at}
use Rattle.zones.proofs.words.find_record.Given as goal

abbrev pub invariant-loop-i : goal.invariant-loop-i
invariant-loop-i g l = (p : Region → Bool) → ((e : Region) (t : Bool) → goal.F-post g l.is e t → t ≡ p e)
    → first_from p (records_at l.s l.b l.n) l.i ≡ first_index p (records_at l.s l.b l.n)
