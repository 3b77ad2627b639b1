-- The check bounds the GIC's position, so the word is that number.
use borrow.Author.Rules.{rules}
use Rattle.zones.proofs.ConfigReaders.{gic_is}
use Rattle.zones.proofs.passed.Passed.gic.Goals as goal

pub returns : goal.returns
returns c = search (gic_is, rules)
