use borrow.Author.Rules.{rules}
use borrow.Author.Tests.{tests}
use mathlib.Core.Path.{refl}
use Rattle.zones.specs.Records.{record_at}
use Rattle.owners.proofs.Owns.{may_at, set_told, set_over}
use Rattle.owners.proofs.owned.Owned.set_own.Goals as goal

pub returns-then-n-le-MOST_IN_SET : goal.returns-then-n-le-MOST_IN_SET
unfolding may_at record_at
returns-then-n-le-MOST_IN_SET c =
    set_told c.args.self.now.config.now c.args.self.now.owners.now c.args.t.now c.args.id c.args.side c.args.k _ refl _ _ (search (rules, tests)) c.all.ensures.ran
    (λ x t q k. search (rules, tests))

pub returns-else-n-le-MOST_IN_SET : goal.returns-else-n-le-MOST_IN_SET
returns-else-n-le-MOST_IN_SET c =
    set_over c.args.self.now.config.now c.args.self.now.owners.now c.args.t.now c.args.id c.args.side c.args.k _ refl (search (rules, tests))
