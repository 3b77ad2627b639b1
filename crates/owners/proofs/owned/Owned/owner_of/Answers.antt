use borrow.Author.Rules.{rules}
use borrow.Author.Tests.{tests}
use Prim.Native.Nat.{ℕ}
use mathlib.Core.Bool.{true, false}
use mathlib.Core.Path.{◌≡◌}
use Rattle.std.proofs.lemmas.Iterator.{first_from_Range}
use Rattle.rules.specs.Regions.{region_eq}
use Rattle.zones.specs.Layout.{config_records}
use Rattle.zones.specs.Records.{record_at}
use Rattle.owners.proofs.Owns.{owner_told}
use Rattle.owners.proofs.owned.Owned.owner_of.Goals as goal

pub returns : goal.returns
unfolding record_at
returns c =
    let s = c.args.self.now.config.now in
    owner_told c.args.self.now.config.now c.args.self.now.owners.now c.args.self.now.ranged c.args.r _ _ _ c.count.ensures
    (first_from_Range _ _ _ _ (λ (i : ℕ). region_eq c.args.r (record_at s config_records i) ≡ true)
    (λ (i : ℕ). region_eq c.args.r (record_at s config_records i) ≡ false) c.find-position.ensures.ran
    (λ x q k. search (rules, tests)) (λ x q k. search (rules, tests)))
    (search (rules, tests))
