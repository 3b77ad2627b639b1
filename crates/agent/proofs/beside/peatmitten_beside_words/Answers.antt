-- The answer of the call beside, in three words.
use Rattle.rules.specs.Applying.{plain_steps}
use Rattle.rules.specs.Limits.{limits}
use Rattle.storage.proofs.Beside.{words_told}
use borrow.Author.Rules.{rules}
use Rattle.agent.proofs.beside.peatmitten_beside_words.Goals as goal

pub returns : goal.returns
returns c = search (words_told (plain_steps limits), rules)
