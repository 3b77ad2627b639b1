-- A call at a lent state is the call by value, with the next state stored.
use Prim.Native.Nat.{ℕ}
use mathlib.Core.List.{List}
use Rattle.rules.specs.declared.Outcome.{Outcome}
use Rattle.plan.specs.Deliveries.{Called}
use Rattle.plan.specs.declared.applying.State.{State}
use Rattle.plan.proofs.Deliveries.{faithful}
use Rattle.terminal.specs.Lending.{Lent, LendingIsFaithful}

pub by_value : (s : State) (b : List ℕ) (o : Outcome) (u : State) → Lent s b o u → Called s b o u
by_value s b o u h = λ i. record { outcome = h.answer i; state = h.next i }

pub lending_is_faithful : LendingIsFaithful
lending_is_faithful = faithful Lent by_value
