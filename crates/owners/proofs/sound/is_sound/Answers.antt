-- The table is sound exactly where neither 1 nor 2 applies.
use borrow.Author.Rules.{rules}
use Rattle.owners.proofs.Stands.{stands_told}
use Rattle.owners.proofs.sound.is_sound.Goals as goal

pub returns : goal.returns
returns c = search (stands_told, rules)
