-- What the writer answers, in a word and a number.
use borrow.Author.Rules.{rules}
use Rattle.agent.proofs.Differing.{zones_told}
use Rattle.agent.proofs.peatmitten_zones_words.Goals as goal

pub returns : goal.returns
returns c = search (zones_told, rules)
