-- Each other zone is looked at in its place.
use Rattle.std.proofs.Common.{rules}
use borrow.Author.Tests.{tests}
use Rattle.zones.proofs.Checking.{any_elsewhere}
use Rattle.zones.proofs.decide.held_elsewhere.Goals as goal

pub returns : goal.returns
returns c = any_elsewhere _ _ _ _ _ _ c.any.ensures.ran c.zone_count.ensures (λ x t q k. search (rules, tests))
