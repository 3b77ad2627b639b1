-- Both ways read the same number: at once where all of it is there, else byte by byte.
use borrow.Author.Rules.{rules}
use Rattle.fields.proofs.Numbers.{there_told}
use Rattle.fields.proofs.u64_at.Goals as goal

pub eight_in-requires : goal.eight_in-requires
eight_in-requires c = search (there_told, rules)
