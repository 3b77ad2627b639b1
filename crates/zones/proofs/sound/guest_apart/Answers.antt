-- Each record is tested against those after it.
use Rattle.std.proofs.Common.{rules}
use borrow.Author.Tests.{tests}
use Rattle.zones.proofs.Checking.{every_pair}
use Rattle.zones.proofs.sound.guest_apart.Goals as goal

pub returns : goal.returns
returns c = every_pair _ _ _ _ _ _ c.all.ensures.ran c.set_len.ensures (λ x t q k. search (rules, tests))
