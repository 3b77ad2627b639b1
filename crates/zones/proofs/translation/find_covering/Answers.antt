-- A region of one byte overlaps exactly those that cover its address.
use borrow.Author.Rules.{rules}
use Rattle.rules.specs.Translation.{covers_guest}
use Rattle.zones.proofs.Translating.{covering_told}
use Rattle.zones.proofs.translation.find_covering.Goals as goal

pub returns : goal.returns
returns c = c.set_find.ensures (covers_guest c.args.a.0) (λ e t k. search (covering_told, rules))
