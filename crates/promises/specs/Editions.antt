-- Demand 3: a planner and a terminal start alike. Plans are lost, repeated, reordered and mixed with noise, and the
-- terminal restarts at editions that it once held. All the same it is at some edition k with exactly the planner's
-- table of k.
use Rattle.std.specs.Prelude.{ℕ, zero, suc, ◌-◌, ◌≤◌, ◌<◌, List, [], ◌∷◌, map, ◌≡◌, length, get_or}
use Rattle.lists.specs.Places.{places}
use Rattle.lists.specs.Runs.{runs}

-- ---- the machine
-- a state: an edition, and the table that is held under it
pub record State (Table : Type 0) : Type 0 where
  pub edition : ℕ
  pub table : Table

-- a kind of terminal, with the planner's rules for it
pub record Machine : Type 1 where
  -- what is held under an edition; what is delivered; what a planner asks for in one plan
  pub Table : Type 0
  pub Bytes : Type 0
  pub Requests : Type 0
  -- a delivery: the number that the terminal answers, and the state that it is in afterwards
  pub number : State Table → Bytes → ℕ
  pub after : State Table → Bytes → State Table
  -- the bytes are a plan for the state's base
  pub PlanFor : State Table → Bytes → Type 0
  -- the rules: a table is sound, a state accepts requests, and the table that they lead to
  pub Sound : Table → Type 0
  pub Accepts : State Table → Requests → Type 0
  pub next : Table → Requests → Table
  -- the plan that asks for requests at a state
  pub encode : State Table → Requests → Bytes

-- what is asked of a machine
pub record Lawful (m : Machine) : Type 0 where
  -- a refusal leaves the state as it was
  pub stays : (s : State m.Table) (b : m.Bytes) → (m.number s b ≡ 0 → ⊥) → m.after s b ≡ s
  -- what is accepted is a plan for the base
  pub fits : (s : State m.Table) (b : m.Bytes) → m.number s b ≡ 0 → m.PlanFor s b
  -- bytes are a plan for one edition only
  pub tells : (s t : State m.Table) (b : m.Bytes) → m.PlanFor s b → m.PlanFor t b → s.edition ≡ t.edition
  -- the plan for requests that a sound state accepts is accepted, and leads where the rules lead, one edition higher
  pub leads : (s : State m.Table) (q : m.Requests) → m.Sound s.table → m.Accepts s q
      → (m.number s (m.encode s q) ≡ 0)
      × (m.after s (m.encode s q) ≡ record { edition = suc s.edition; table = m.next s.table q })
  -- and that table is sound
  pub keeps : (s : State m.Table) (q : m.Requests) → m.Sound s.table → m.Accepts s q
      → m.Sound (m.next s.table q)

-- ---- what happens
pub data Event (Bytes : Type 0) : Type 0 where
  -- the planner makes its next plan
  makes : Event Bytes
  -- plan i is delivered; a lost plan is one that never is
  plan : ℕ → Event Bytes
  -- other bytes are delivered
  noise : Bytes → Event Bytes
  -- the terminal restarts with the i-th of the states that it held, counted back
  restart : ℕ → Event Bytes

module _ (m : Machine) where
  -- a planner: the table that it starts from, and what it asks for in plan 1, plan 2 and so on
  pub record Planner : Type 0 where
    pub start : m.Table
    pub asked : ℕ → m.Requests

  -- how many plans there are so far, the terminal's state, and every state that it held, the latest first
  pub record World : Type 0 where
    pub made : ℕ
    pub state : State m.Table
    pub held : List (State m.Table)

  -- a delivery
  abbrev pub taken : World → m.Bytes → World
  taken w b = record { made = w.made; state = m.after w.state b; held = m.after w.state b ∷ w.held }

  -- the bytes are refused and change nothing
  abbrev pub Refuses : State m.Table → m.Bytes → Type 0
  Refuses s b = (m.number s b ≡ 0 → ⊥) × (m.after s b ≡ s)

  module _ (p : Planner) where
    -- the planner's table of edition k
    unfoldable pub table_at : ℕ → m.Table
    table_at zero = p.start
    table_at (suc k) = m.next (table_at k) (p.asked (suc k))

    -- and its state
    abbrev pub at : ℕ → State m.Table
    at k = record { edition = k; table = table_at k }

    -- plan i is made at edition i - 1
    abbrev pub plan_of : ℕ → m.Bytes
    plan_of i = m.encode (at (i - 1)) (p.asked i)

    -- both start alike
    abbrev pub begin : World
    begin = record { made = 0; state = at 0; held = at 0 ∷ [] }

    -- the world after an event
    unfoldable pub happens : World → Event m.Bytes → World
    happens w makes = record { made = suc w.made; state = w.state; held = w.held }
    happens w (plan i) = taken w (plan_of i)
    happens w (noise b) = taken w b
    happens w (restart i) = record { made = w.made; state = get_or w.held i (at 0); held = w.held }

    -- a plan is made where the rules accept its requests; any plan made so far may come, at any time and any number of
    -- times; noise is what is no plan for the terminal's base at that moment
    abbrev pub Legal : World → Event m.Bytes → Type 0
    Legal w makes = m.Accepts (at w.made) (p.asked (suc w.made))
    Legal w (plan i) = (1 ≤ i) × (i ≤ w.made)
    Legal w (noise b) = m.PlanFor w.state b → ⊥
    Legal w (restart i) = i < length w.held

    -- each is legal where it happens
    abbrev pub AllLegal : World → List (Event m.Bytes) → Type 0
    AllLegal w [] = Unit {0}
    AllLegal w (e ∷ es) = Legal w e × AllLegal (happens w e) es

    -- events from the start, all of them legal; and the world that they lead to
    abbrev pub History : Type 0
    History = (es : List (Event m.Bytes)) × AllLegal begin es

    abbrev pub world : History → World
    world h = runs happens begin h.0

    -- ---- the demand
    -- a terminal at edition k, of so many plans that were made
    pub record InStep (made : ℕ) (s : State m.Table) (k : ℕ) : Type 0 where
      -- it is not ahead, and has exactly the planner's table of k
      pub behind : k ≤ made
      pub same : s ≡ at k
      -- plan k + 1 is accepted and brings exactly k + 1: this shuts out a
      -- machine that refuses all, and one that stands still
      pub onward : k < made → (m.number s (plan_of (suc k)) ≡ 0) × (m.after s (plan_of (suc k)) ≡ at (suc k))
      -- every other plan is refused, and so is all noise: these shut out a machine that accepts all
      pub others : (i : ℕ) → 1 ≤ i → i ≤ made → (i ≡ suc k → ⊥) → Refuses s (plan_of i)
      pub stray : (b : m.Bytes) → (m.PlanFor s b → ⊥) → Refuses s b

    -- whatever happened, the terminal is in step
    abbrev pub AlwaysInStep : Type 0
    AlwaysInStep = m.Sound p.start → (h : History) → (k : ℕ) × InStep (world h).made (world h).state k

    -- ---- in plain words
    -- a terminal that is at the planner's edition k has the planner's table of k
    abbrev pub PlannersTable : Type 0
    PlannersTable =
        m.Sound p.start → (h : History) → (k : ℕ) → (world h).state.edition ≡ k → (world h).state.table ≡ table_at k

    -- two terminals of one planner, each with its own history: equal editions, equal tables
    abbrev pub EqualEditionsEqualTables : Type 0
    EqualEditionsEqualTables =
        m.Sound p.start → (g h : History) → (world g).state.edition ≡ (world h).state.edition
        → (world g).state.table ≡ (world h).state.table

    -- plans j + 1 to k, in turn
    abbrev pub missing : ℕ → ℕ → List m.Bytes
    missing j k = map plan_of (places (suc j) (k - j))

    -- a terminal is never ahead of the planner, and the plans that it has missed, in turn, bring it level
    abbrev pub NeverAhead : Type 0
    NeverAhead =
        m.Sound p.start → (h : History)
        → ((world h).state.edition ≤ (world h).made)
        × (runs m.after (world h).state (missing (world h).state.edition (world h).made)
        ≡ at (world h).made)

    -- of two terminals the one at the lower edition is behind: the plans
    -- between the two editions, in turn, bring it to the other's state
    abbrev pub LowerIsBehind : Type 0
    LowerIsBehind =
        m.Sound p.start → (g h : History) → (world g).state.edition < (world h).state.edition
        → runs m.after (world g).state (missing (world g).state.edition (world h).state.edition)
        ≡ (world h).state
