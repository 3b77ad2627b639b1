-- The note of each kind of change.
use native.Mathlib.Omega.{arith}
use borrow.Author.Rules.{rules}
use Rattle.zones.specs.Trial.{note_of}
use Rattle.zones.proofs.Trying.{note_add, note_drop, note_cut}
use Rattle.zones.proofs.trial.note.Goals as goal

pub overflow_cast-result : goal.overflow_cast-result
overflow_cast-result c = let h = c.in-Drop.is in omega (arith, note_drop _ _ h)

pub overflow_cast-result-in-Cut : goal.overflow_cast-result-in-Cut
overflow_cast-result-in-Cut c = let h = c.in-Cut.is in omega (arith, note_cut _ _ _ _ h)

pub returns-in-Add : goal.returns-in-Add
unfolding note_of
returns-in-Add c = search (note_add, rules)

pub returns-in-Drop : goal.returns-in-Drop
returns-in-Drop c = search (note_drop, rules)

pub returns-in-Cut : goal.returns-in-Cut
returns-in-Cut c = search (note_cut, rules)
