use borrow.Author.Rules.{rules}
use borrow.Author.Tests.{tests}
use mathlib.Core.Path.{refl}
use Rattle.owners.proofs.Owns.{own_at, zones_told, zones_over}
use Rattle.owners.proofs.owned.Owned.holds_own.Goals as goal

pub returns-then-n-le-MOST_ZONES : goal.returns-then-n-le-MOST_ZONES
unfolding own_at
returns-then-n-le-MOST_ZONES c =
    zones_told c.args.self.now.config.now c.args.self.now.owners.now c.args.t.now _ refl _ _ (search (rules, tests)) c.all.ensures.ran (λ x t q k. search (rules, tests))

pub returns-else-n-le-MOST_ZONES : goal.returns-else-n-le-MOST_ZONES
returns-else-n-le-MOST_ZONES c = zones_over c.args.self.now.config.now c.args.self.now.owners.now c.args.t.now _ refl (search (rules, tests))
