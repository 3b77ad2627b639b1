use borrow.Author.Rules.{rules}
use borrow.Author.Tests.{tests}
use Prim.Native.Nat.{ℕ}
use mathlib.Core.Bool.{true, false}
use mathlib.Core.Path.{◌≡◌}
use Rattle.std.proofs.lemmas.Iterator.{first_from_Range}
use Rattle.owners.proofs.Running.{strange_at, asked, stranger_told}
use Rattle.owners.proofs.owned.Owned.first_stranger.Goals as goal

pub returns : goal.returns
returns c =
    let p = strange_at c.args.self.now.config.now c.args.self.now.owners.now c.args.requests.now in
    stranger_told c.args.self.now.config.now c.args.self.now.owners.now c.args.requests.now _
    (first_from_Range _ _ _ _ (λ (i : ℕ). p i ≡ true) (λ (i : ℕ). p i ≡ false) c.find.ensures.ran
    (λ x q k. search (asked, rules, tests)) (λ x q k. search (asked, rules, tests)))
