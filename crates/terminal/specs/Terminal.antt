-- A plan applied to the state that an agent lends.
use Rattle.std.specs.Prelude.{ℕ, List, ◌≡◌}
use Rattle.rules.specs.declared.Outcome.{Outcome}
use Rattle.plan.specs.Applying.{applied}
use Rattle.plan.specs.declared.applying.State.{State}

-- the state s was lent with the plan b: u lies there afterwards, and o is the answer
pub record Applies (s : State) (b : List ℕ) (u : State) (o : Outcome) : Type 0 where
  pub answer : o ≡ (applied s b).outcome
  pub next : u ≡ (applied s b).state
