-- Plans and demand 3 for the terminals of any step rule: what is asked of one, and what then holds of its terminals.
-- Document 01's terminals have one (Plans, Terminals), those with owners another (Owned).
use Rattle.std.specs.Prelude.{ℕ, zero, suc, ◌+◌, ◌-◌, ◌≤◌, ◌<◌, true, List, [], map, ◌↔◌, ◌≡◌, length, take}
use Rattle.lists.specs.Bytes.{Bytes}
use Rattle.lists.specs.Places.{places}
use Rattle.lists.specs.Runs.{runs}
use Rattle.formats.specs.Formats.{got, bad, ListFits}
use Rattle.rules.specs.Applying.{last_edition, store, plain, Kept, apply_by, TerminalOf, AppliedOf, ForBaseBy}
use Rattle.rules.specs.Limits.{Sayable}
use Rattle.rules.specs.Plan.{requests_from, AskedFits, Asked}
use Rattle.rules.specs.Planner.{plan_for_by, plan_bytes_by, MayAskBy}
use Rattle.rules.specs.Run.{run_by, Run}
use Rattle.rules.specs.Steps.{ran_by, StepRule}
use Rattle.rules.specs.Tables.{table_of, Zone, StoredTable}
use Rattle.rules.specs.declared.Outcome.{Outcome}
use Rattle.rules.specs.declared.Request.{Request}
use Rattle.promises.specs.Editions.{History, world, State, Machine, Lawful, Planner}

-- ---- what is asked of a step rule
pub record Proper (m : StepRule) : Type 1 where
  -- sound tables, under a sound configuration: that of a state at which neither 1 nor 2 is answered is one; every
  -- request leads from one to one; and one that is stored is answered neither
  pub Sound : m.Config → List Zone → Type 0
  pub stands : (c : m.Config) (t : StoredTable) → m.standing c t ≡ 0 → Sound c (table_of t)
  pub keeps : (c : m.Config) (t : List Zone) (q : Request) → Sound c t → Sound c (m.next c t q)
  pub stored : (c : m.Config) (t : List Zone) → Sound c t → m.standing c (store m.limits t) ≡ 0
  -- a run is by its numbers and next tables
  pub runs_so : (c : m.Config) (t : List Zone) (qs : List Request)
      → m.run c t qs ≡ run_by (m.refusal c) (m.next c) 0 t qs
  -- 23 is answered exactly where a plan gives another configuration
  pub tells : (c : m.Config) (p : m.Said) → (m.same c p ≡ true) ↔ m.Gives c p
  -- the plan for a terminal's base is one, and asks for what it was made for
  pub based : (s : Kept m) (q : List Asked) → ForBaseBy m s (plan_for_by m s q)
  pub asks : (s : Kept m) (q : List Asked) → m.asked (plan_for_by m s q) ≡ q
  -- that of a sound state is read back, where a plan's fields can say the limits
  pub reads : Sayable m.limits → (c : m.Config) (e : ℕ) (t : List Zone) (q : List Asked) → m.Whole c → Sound c t
      → e < last_edition → ListFits 4 0 m.limits.requests AskedFits q
      → m.read (m.write (m.plan_at c e t q)) ≡ got (m.plan_at c e t q) []
  -- whatever reads whole is the bytes of what it reads to, which asks for no more requests than a plan may have; and
  -- what gives a terminal's base is the plan for it that asks for the same
  pub tight : (b : List ℕ) (p : m.Said) (t : List ℕ) → Bytes b → m.read b ≡ got p t
      → (b ≡ m.write p) × (length (m.asked p) ≤ m.limits.requests)
  pub only : (s : Kept m) (p : m.Said) → ForBaseBy m s p → p ≡ plan_for_by m s (m.asked p)
  -- bytes that read whole have nothing left, and no refusal of bytes has number 0
  pub ends : (b : List ℕ) (p : m.Said) (t : List ℕ) → m.read b ≡ got p t → t ≡ []
  pub refuses : (b : List ℕ) (k : ℕ) (t : List ℕ) → m.read b ≡ bad k t → k ≡ 0 → ⊥

module _ (m : StepRule) where
  -- ---- plans
  -- the bytes are a plan for the state's base: they read whole, with nothing
  -- after the end, and give that base, whatever their requests
  abbrev pub PlanForBy : Kept m → List ℕ → m.Said → Type 0
  PlanForBy s b p = (m.read b ≡ got p []) × ForBaseBy m s p

  -- the run of a plan's requests at the terminal's table
  abbrev pub run_of_by : Kept m → m.Said → Run
  run_of_by s p = ran_by m s.config (table_of s.table) (m.asked p)

-- what a delivery answers and leaves: `apply_by` of the step rule, or the name that a machine has for it
abbrev pub Deliveries : StepRule → Type 0
Deliveries m = Kept m → List ℕ → AppliedOf m.Config

module _ (m : StepRule) (deliver : Deliveries m) where
  -- a refusal leaves the state as it was
  abbrev pub RefusalStaysBy : Type 0
  RefusalStaysBy = (s : Kept m) (b : List ℕ) → ((deliver s b).outcome.number ≡ 0 → ⊥) → (deliver s b).state ≡ s

  -- whatever is delivered, the configuration stays
  abbrev pub ConfigurationStaysBy : Type 0
  ConfigurationStaysBy = (s : Kept m) (b : List ℕ) → (deliver s b).state.config ≡ s.config

  -- a state at which neither 1 nor 2 is answered is followed by one at which neither is, whatever bytes were applied
  abbrev pub ApplyKeepsSoundBy : Type 0
  ApplyKeepsSoundBy =
      (s : Kept m) (b : List ℕ) → m.standing s.config s.table ≡ 0
      → m.standing (deliver s b).state.config (deliver s b).state.table ≡ 0

  -- what is accepted is a plan for the base, below the last edition, with requests that are all accepted in turn
  abbrev pub AcceptedIsPlanBy : Type 0
  AcceptedIsPlanBy =
      (s : Kept m) (b : List ℕ) → (deliver s b).outcome.number ≡ 0
      → (p : m.Said) × PlanForBy m s b p × (s.edition ≡ last_edition → ⊥) × ((run_of_by m s p).inner ≡ 0)

  -- and such a plan is accepted: the place is the number of requests, the
  -- edition is one higher, and the table is exactly the run's
  abbrev pub PlanIsAcceptedBy : Type 0
  PlanIsAcceptedBy =
      (s : Kept m) (b : List ℕ) (p : m.Said) → m.standing s.config s.table ≡ 0 → PlanForBy m s b p
      → (s.edition ≡ last_edition → ⊥) → (run_of_by m s p).inner ≡ 0
      → deliver s b
      ≡ record {
        outcome = plain 0 (length (requests_from (m.asked p)));
        state = record { config = s.config; table = store m.limits (run_of_by m s p).table; edition = s.edition + 1 };
      }

  -- what lies past the longest plan and one byte more changes no answer and
  -- no state: so many bytes are enough, at a terminal and alone
  abbrev pub PastTheLongestBy : (List ℕ → Outcome) → ℕ → Type 0
  PastTheLongestBy alone longest =
      (b : List ℕ) (n : ℕ) → longest < n
      → (alone (take n b) ≡ alone b) × ((s : Kept m) → deliver s (take n b) ≡ deliver s b)

-- ---- terminals as a machine
-- what a terminal holds under its edition
pub record HeldOf (C : Type 0) : Type 0 where
  pub config : C
  pub table : StoredTable

-- a terminal from its state, and its state
abbrev pub terminal : {C : Type 0} → State (HeldOf C) → TerminalOf C
terminal s = record { config = s.table.config; table = s.table.table; edition = s.edition }

abbrev pub state_of : {C : Type 0} → TerminalOf C → State (HeldOf C)
state_of t = record { edition = t.edition; table = record { config = t.config; table = t.table } }

module _ (m : StepRule) where
  -- a configuration with a record for all that there is room for, and a table at which neither 1 nor 2 is answered
  pub record SoundHeldBy (h : HeldOf m.Config) : Type 0 where
    pub records : m.Whole h.config
    pub stands : m.standing h.config h.table ≡ 0

  -- requests lead to the table that their run leaves
  abbrev pub terminals_by : Deliveries m → Machine
  terminals_by deliver = record {
    Table = HeldOf m.Config;
    Bytes = List ℕ;
    Requests = List Asked;
    number = λ s b. (deliver (terminal s) b).outcome.number;
    after = λ s b. state_of (deliver (terminal s) b).state;
    PlanFor = λ s b. (p : m.Said) × PlanForBy m (terminal s) b p;
    Sound = SoundHeldBy;
    Accepts = λ s q. MayAskBy m (terminal s) q;
    next =
        λ h q. record {
          config = h.config;
          table = store m.limits (ran_by m h.config (table_of h.table) q).table;
        };
    encode = λ s q. plan_bytes_by m (terminal s) q;
  }

  -- they meet what is asked of a machine
  abbrev pub StepsAreLawful : Type 1
  StepsAreLawful = Proper m → Sayable m.limits → Lawful (terminals_by (apply_by m))

  -- ---- the planner, by the rules alone
  -- its state at edition k: first the empty table, then what the requests of each plan make of it
  unfoldable pub planned_by : m.Config → (ℕ → List Asked) → ℕ → Kept m
  planned_by c asked zero = record { config = c; table = store m.limits []; edition = 0 }
  planned_by c asked (suc k) = record {
    config = c;
    table = store m.limits (ran_by m c (table_of (planned_by c asked k).table) (asked (suc k))).table;
    edition = suc k;
  }

  -- plan i is made at edition i - 1
  abbrev pub plan_file_by : m.Config → (ℕ → List Asked) → ℕ → List ℕ
  plan_file_by c asked i = plan_bytes_by m (planned_by c asked (i - 1)) (asked i)

  -- the same planner, as demand 3 has it
  abbrev pub planner_by : (deliver : Deliveries m) → m.Config → (ℕ → List Asked) → Planner (terminals_by deliver)
  planner_by deliver c asked = record { start = record { config = c; table = store m.limits [] }; asked = asked }

  -- a configuration with which the planner can begin
  abbrev pub GoodConfig : m.Config → Type 0
  GoodConfig c = SoundHeldBy (record { config = c; table = store m.limits [] })

-- ---- the demand
module _ (m : StepRule) (deliver : Deliveries m) where
  -- the bytes are refused and change nothing
  abbrev pub TurnsAwayBy : Kept m → List ℕ → Type 0
  TurnsAwayBy s b = ((deliver s b).outcome.number ≡ 0 → ⊥) × ((deliver s b).state ≡ s)

  module _ (c : m.Config) (asked : ℕ → List Asked) where
    -- a terminal's history with this planner; how many plans there are then, and the terminal
    abbrev pub PastBy : Type 0
    PastBy = History (terminals_by m deliver) (planner_by m deliver c asked)

    abbrev pub made_in_by : PastBy → ℕ
    made_in_by h = (world (terminals_by m deliver) (planner_by m deliver c asked) h).made

    abbrev pub terminal_in_by : PastBy → Kept m
    terminal_in_by h = terminal (world (terminals_by m deliver) (planner_by m deliver c asked) h).state

    -- a terminal at edition k, of so many plans that were made
    pub record FollowsBy (made : ℕ) (s : Kept m) (k : ℕ) : Type 0 where
      pub behind : k ≤ made
      pub same : s ≡ planned_by m c asked k
      pub onward : k < made
          → ((deliver s (plan_file_by m c asked (suc k))).outcome.number ≡ 0)
          × ((deliver s (plan_file_by m c asked (suc k))).state ≡ planned_by m c asked (suc k))
      pub others : (i : ℕ) → 1 ≤ i → i ≤ made → (i ≡ suc k → ⊥) → TurnsAwayBy s (plan_file_by m c asked i)
      pub stray : (b : List ℕ) → ((p : m.Said) → PlanForBy m s b p → ⊥) → TurnsAwayBy s b

  -- whatever happened, the terminal is at some edition k with exactly the planner's table of k; plan k + 1 brings k + 1;
  -- all else is refused and changes nothing
  abbrev pub StepsFollow : Type 0
  StepsFollow =
      (c : m.Config) → GoodConfig m c → (asked : ℕ → List Asked) (h : PastBy c asked)
      → (k : ℕ) × FollowsBy c asked (made_in_by c asked h) (terminal_in_by c asked h) k

  -- two terminals of one planner: equal editions, equal terminals
  abbrev pub EqualEditionsBy : Type 0
  EqualEditionsBy =
      (c : m.Config) → GoodConfig m c → (asked : ℕ → List Asked) (g h : PastBy c asked)
      → (terminal_in_by c asked g).edition ≡ (terminal_in_by c asked h).edition
      → terminal_in_by c asked g ≡ terminal_in_by c asked h

  -- the one at the lower edition is behind: the plans between the two editions, in turn, bring it to the other
  abbrev pub LowerIsBehindBy : Type 0
  LowerIsBehindBy =
      (c : m.Config) → GoodConfig m c → (asked : ℕ → List Asked) (g h : PastBy c asked)
      → (terminal_in_by c asked g).edition < (terminal_in_by c asked h).edition
      → runs (λ (s : Kept m) (b : List ℕ). (deliver s b).state) (terminal_in_by c asked g)
      (map (plan_file_by m c asked)
      (places (suc (terminal_in_by c asked g).edition)
      ((terminal_in_by c asked h).edition - (terminal_in_by c asked g).edition)))
      ≡ terminal_in_by c asked h

  -- a terminal is never ahead of its planner, and the plans that it has missed, in turn, bring it level
  abbrev pub NeverAheadBy : Type 0
  NeverAheadBy =
      (c : m.Config) → GoodConfig m c → (asked : ℕ → List Asked) (h : PastBy c asked)
      → ((terminal_in_by c asked h).edition ≤ made_in_by c asked h)
      × (runs (λ (s : Kept m) (b : List ℕ). (deliver s b).state) (terminal_in_by c asked h)
      (map (plan_file_by m c asked)
      (places (suc (terminal_in_by c asked h).edition) (made_in_by c asked h - (terminal_in_by c asked h).edition)))
      ≡ planned_by m c asked (made_in_by c asked h))
