-- Demand 3 for terminals in storage, of any step rule: document 01's are one kind, those with owners another. The
-- configuration is never written; the slots hold tables.
use Rattle.std.specs.Prelude.{ℕ, ◌≤◌, Bool, List}
use Rattle.formats.specs.Formats.{All}
use Rattle.rules.specs.Applying.{apply_by, plain_steps, apply, Kept}
use Rattle.rules.specs.Limits.{Limits, Sayable}
use Rattle.rules.specs.OwnedPlan.{owned_steps}
use Rattle.rules.specs.Plan.{Asked}
use Rattle.rules.specs.Steps.{StepRule}
use Rattle.rules.specs.Tables.{StoredTable}
use Rattle.promises.specs.Steps.{terminals_by, planner_by, GoodConfig, terminal, Deliveries, Proper, FollowsBy}
use Rattle.promises.specs.Storing.{read, stored, StoredFollows, Slots, Works, StoredPast}

-- which refusals touch the other slot, by the edition, its table and the bytes
abbrev pub Touching : Type 0
Touching = ℕ → StoredTable → List ℕ → Bool

module _ (m : StepRule) (deliver : Deliveries m) where
  -- a slot after a copy of the current table's words was changed where it lies
  abbrev pub slots_by : Touching → m.Config → Slots (terminals_by m deliver)
  slots_by touched c = record {
    Words = StoredTable;
    holds = λ t. record { config = c; table = t };
    worked = λ e t u b. (deliver (record { config = c; table = t; edition = e }) b).state.table;
    touched = touched;
  }

  -- ---- of any slots
  module _ (k : Slots (terminals_by m deliver)) (c : m.Config) (asked : ℕ → List Asked) where
    -- a history of the storage with this planner; how many plans there are then, the terminal that it is read as, and the
    -- editions that were told
    abbrev pub StoredPastBy : Type 0
    StoredPastBy = StoredPast (terminals_by m deliver) k (planner_by m deliver c asked)

    abbrev pub stored_made_by : StoredPastBy → ℕ
    stored_made_by h = (stored (terminals_by m deliver) k (planner_by m deliver c asked) h).made

    abbrev pub stored_by : StoredPastBy → Kept m
    stored_by h =
        terminal (read (terminals_by m deliver) k (stored (terminals_by m deliver) k (planner_by m deliver c asked) h).store)

    abbrev pub told_in_by : StoredPastBy → List ℕ
    told_in_by h = (stored (terminals_by m deliver) k (planner_by m deliver c asked) h).told

    -- whatever happened, and wherever the power was cut, the storage is read as a terminal at some edition with exactly the
    -- planner's table of it, the next plan brings the next edition, all else is refused; and no edition that was told is
    -- above
    abbrev pub SlotsFollow : Type 0
    SlotsFollow =
        (h : StoredPastBy)
        → (n : ℕ) × FollowsBy m deliver c asked (stored_made_by h) (stored_by h) n × All (λ (e : ℕ). e ≤ n) (told_in_by h)

  -- ---- what is promised
  -- of slots that work, whichever refusals touch the other one
  abbrev pub AnySlotsFollow : Type 1
  AnySlotsFollow =
      (k : Slots (terminals_by m deliver)) → Works (terminals_by m deliver) k
      → (c : m.Config) → GoodConfig m c → (asked : ℕ → List Asked) → SlotsFollow k c asked

  -- slots of tables do
  abbrev pub SlotsWork : Type 0
  SlotsWork = (touched : Touching) (c : m.Config) → Works (terminals_by m deliver) (slots_by touched c)

  abbrev pub StoredStepsFollow : Type 0
  StoredStepsFollow =
      (touched : Touching) (c : m.Config) → GoodConfig m c → (asked : ℕ → List Asked)
      → SlotsFollow (slots_by touched c) c asked

  -- and task by task
  abbrev pub StoredTasks : Type 0
  StoredTasks =
      (touched : Touching) (c : m.Config) (asked : ℕ → List Asked)
      → StoredFollows (terminals_by m deliver) (slots_by touched c) (planner_by m deliver c asked)

-- of every proper step rule
abbrev pub ProperStepsAreStored : StepRule → Type 1
ProperStepsAreStored m =
    Proper m → Sayable m.limits
    → AnySlotsFollow m (apply_by m) × SlotsWork m (apply_by m) × StoredStepsFollow m (apply_by m) × StoredTasks m (apply_by m)

-- ---- document 01's terminals, and those with owners
abbrev pub TerminalsAreStored : Limits → Type 0
TerminalsAreStored l = Sayable l → StoredStepsFollow (plain_steps l) (apply l)

abbrev pub OwnedAreStored : Limits → Type 0
OwnedAreStored l = Sayable l → StoredStepsFollow (owned_steps l) (apply_by (owned_steps l))
