-- What the writer answers, in two words and a number.
use borrow.Author.Rules.{rules}
use Rattle.agent.proofs.Writing.{writes_told}
use Rattle.agent.proofs.peatmitten_write_words.Goals as goal

pub returns : goal.returns
returns c = search (writes_told, rules)
