use borrow.Author.Rules.{rules}
use borrow.Author.Tests.{tests}
use Prim.Native.Nat.{ℕ}
use mathlib.Core.Bool.{true, false}
use mathlib.Core.Path.{◌≡◌}
use Rattle.std.proofs.lemmas.Iterator.{first_from_Range}
use Rattle.owners.specs.Fitting.{fits_at}
use Rattle.owners.specs.View.{stored_owned}
use Rattle.owners.proofs.Fitting.{wrong_found}
use Rattle.owners.proofs.owned.Owned.first_wrong.Goals as goal

pub returns : goal.returns
returns c =
    let s = stored_owned c.args.self.now.config.now c.args.self.now.owners.now in
    wrong_found c.args.self.now.config.now c.args.self.now.owners.now _ _ c.args.self.now.ranged c.count.ensures
    (first_from_Range _ _ _ _ (λ (i : ℕ). fits_at s i ≡ false) (λ (i : ℕ). fits_at s i ≡ true) c.find.ensures.ran
    (λ x q k. search (rules, tests)) (λ x q k. search (rules, tests)))
