-- A past that there is, so that demand 3 speaks of something: two plans are made; the first comes twice, then noise,
-- the second, the first once more where its table fits again, and a restart.
use Rattle.std.specs.Prelude.{ℕ, zero, suc, List, [], ◌∷◌, ◌≡◌}
use Rattle.lists.specs.Runs.{runs}
use Rattle.rules.specs.Limits.{limits}
use Rattle.rules.specs.Applying.{apply_by, TerminalOf}
use Rattle.rules.specs.Desk.{desk_terminal}
use Rattle.rules.specs.OwnedDesk.{bank_terminal}
use Rattle.rules.specs.OwnedPlan.{owned_steps}
use Rattle.rules.specs.Owners.{StoredOwned}
use Rattle.rules.specs.Plan.{Asked}
use Rattle.rules.specs.Story.{with5, adds, removes}
use Rattle.promises.specs.Editions.{makes, plan, noise, restart, plan_of, begin, happens, AllLegal, Event}
use Rattle.promises.specs.Editions.{Machine, Planner}
use Rattle.promises.specs.Editions.{World}
use Rattle.promises.specs.Steps.{terminals_by, planner_by}
use Rattle.promises.specs.Terminals.{terminal, terminals, planner}

-- plan 1 adds zone 5, plan 2 removes it
abbrev pub asked_for : ℕ → List Asked
asked_for zero = []
asked_for (suc zero) = adds
asked_for (suc (suc k)) = removes

-- from the empty table under the whole plan's configuration
abbrev pub desk_planner : Planner (terminals limits)
desk_planner = planner limits desk_terminal.config asked_for

abbrev pub start : World (terminals limits)
start = begin (terminals limits) desk_planner

-- what happens
abbrev pub events : List (Event (List ℕ))
events = makes ∷ plan 1 ∷ plan 1 ∷ makes ∷ noise [] ∷ plan 2 ∷ plan 1 ∷ restart 2 ∷ []

-- the numbers that deliveries answer, in turn
module _ (m : Machine) (p : Planner m) where
  unfoldable pub numbers : World m → List (Event m.Bytes) → List ℕ
  numbers w [] = []
  numbers w (makes ∷ es) = numbers (happens m p w makes) es
  numbers w (plan i ∷ es) = m.number w.state (plan_of m p i) ∷ numbers (happens m p w (plan i)) es
  numbers w (noise b ∷ es) = m.number w.state b ∷ numbers (happens m p w (noise b)) es
  numbers w (restart i ∷ es) = numbers (happens m p w (restart i)) es

-- all of it is legal; each plan is accepted once; and the restart leaves the terminal at edition 1 with zone 5
abbrev pub PastShown : Type 0
PastShown =
    AllLegal (terminals limits) desk_planner start events
    × (numbers (terminals limits) desk_planner start events ≡ 0 ∷ 24 ∷ 20 ∷ 0 ∷ 24 ∷ [])
    × (terminal (runs (happens (terminals limits) desk_planner) start events).state ≡ with5 1)

-- ---- and with owners, the same events
abbrev pub bank_terminals : Machine
bank_terminals = terminals_by (owned_steps limits) (apply_by (owned_steps limits))

abbrev pub bank_planner : Planner bank_terminals
bank_planner = planner_by (owned_steps limits) (apply_by (owned_steps limits)) bank_terminal.config asked_for

abbrev pub bank_start : World bank_terminals
bank_start = begin bank_terminals bank_planner

abbrev pub bank_with5 : TerminalOf StoredOwned
bank_with5 = record { config = bank_terminal.config; table = (with5 1).table; edition = 1 }

abbrev pub OwnedPastShown : Type 0
OwnedPastShown =
    AllLegal bank_terminals bank_planner bank_start events
    × (numbers bank_terminals bank_planner bank_start events ≡ 0 ∷ 24 ∷ 20 ∷ 0 ∷ 24 ∷ [])
    × (terminal (runs (happens bank_terminals bank_planner) bank_start events).state
    ≡ bank_with5)
