-- Each id is looked for, and found first at its own place.
use Rattle.std.proofs.Common.{rules}
use borrow.Author.Tests.{tests}
use Rattle.zones.proofs.Checking.{every_id}
use Rattle.zones.proofs.sound.ids_differ.Goals as goal

pub returns : goal.returns
returns c = every_id _ _ _ _ c.all.ensures.ran c.zone_count.ensures (λ x t q k. search (rules, tests))
