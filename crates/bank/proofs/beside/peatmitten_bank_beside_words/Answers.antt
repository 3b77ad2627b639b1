-- The answer of the call beside, in three words.
use Rattle.rules.specs.Limits.{limits}
use Rattle.rules.specs.OwnedPlan.{owned_steps}
use Rattle.storage.proofs.Beside.{words_told}
use borrow.Author.Rules.{rules}
use Rattle.bank.proofs.beside.peatmitten_bank_beside_words.Goals as goal

pub returns : goal.returns
returns c = search (words_told (owned_steps limits), rules)
