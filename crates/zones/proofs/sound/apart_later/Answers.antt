-- Each later record is read and tested at its place.
use Rattle.std.proofs.Common.{rules}
use borrow.Author.Tests.{tests}
use Rattle.zones.proofs.Checking.{every_later}
use Rattle.zones.proofs.sound.apart_later.Goals as goal

pub returns : goal.returns
returns c = every_later _ _ _ _ _ _ _ c.all.ensures.ran c.set_len.ensures (λ x t q k. search (rules, tests))
