-- Each zone is looked at in its place.
use Rattle.std.proofs.Common.{rules, ◌≡◌, true, false}
use borrow.Author.Tests.{tests}
use Rattle.std.proofs.lemmas.Iterator.{first_from_Range}
use Rattle.zones.specs.Holding.{holds}
use Rattle.zones.specs.View.{zone_in}
use Rattle.zones.proofs.Checking.{no_holder, some_holder}
use Rattle.zones.proofs.sound.first_holder.Goals as goal

pub returns-clause-none : goal.returns-clause-none
returns-clause-none c =
    no_holder c.args.t.now (holds c.args.r) c.args.z _ c.find.result c.zone_count.ensures
    (first_from_Range _ _ _ _ (λ i. holds c.args.r (zone_in c.args.t.now i) ≡ true) (λ i. holds c.args.r (zone_in c.args.t.now i) ≡ false)
    c.find.ensures.ran (λ x q k. search (rules, tests)) (λ x q k. search (rules, tests)))

pub returns-clause-some : goal.returns-clause-some
returns-clause-some c =
    some_holder c.args.t.now (holds c.args.r) c.args.z _ c.find.result c.zone_count.ensures
    (first_from_Range _ _ _ _ (λ i. holds c.args.r (zone_in c.args.t.now i) ≡ true) (λ i. holds c.args.r (zone_in c.args.t.now i) ≡ false)
    c.find.ensures.ran (λ x q k. search (rules, tests)) (λ x q k. search (rules, tests)))
