-- Each record is read and tested at its place.
use Rattle.std.proofs.Common.{rules}
use borrow.Author.Tests.{tests}
use Rattle.zones.proofs.Checking.{every_record}
use Rattle.zones.proofs.sound.set_modest.Goals as goal

pub returns : goal.returns
returns c = every_record _ _ _ _ _ _ _ c.all.ensures.ran c.set_len.ensures (λ x t q k. search (rules, tests))
