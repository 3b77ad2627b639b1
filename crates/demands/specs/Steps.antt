-- Demand 3 of the code of any step rule: terminals whose states are words, and whose deliveries are calls of the code.
-- Document 01's terminals are one kind (Following), those with owners another (Bank).
use Rattle.std.specs.Prelude.{ℕ, suc, ◌-◌, ◌≤◌, ◌<◌, List, [], map, ◌≡◌}
use Rattle.lists.specs.Orders.{keep}
use Rattle.lists.specs.Places.{places}
use Rattle.lists.specs.Runs.{runs}
use Rattle.rules.specs.Applying.{store, Kept, apply_by}
use Rattle.rules.specs.Limits.{Sayable}
use Rattle.rules.specs.Plan.{Asked}
use Rattle.rules.specs.Planner.{plan_bytes_by, MayAskBy}
use Rattle.rules.specs.Steps.{ran_by, StepRule}
use Rattle.rules.specs.Tables.{table_of, Zone}
use Rattle.rules.specs.declared.Outcome.{Outcome}
use Rattle.promises.specs.Editions.{History, world, State, Machine, Lawful, Planner}
use Rattle.promises.specs.Neighbours.{Alike, TranslatesAlike, names, asked_up_to, Neighbourly}
use Rattle.promises.specs.Steps.{PlanForBy, terminal, planned_by, plan_file_by, GoodConfig, PastBy, made_in_by, terminal_in_by}
use Rattle.promises.specs.Steps.{Proper, HeldOf, SoundHeldBy}
use Rattle.plan.specs.Deliveries.{Lending, Stores, Lendable, CalledBy}

-- ---- a kind of terminals
pub record Kind : Type 1 where
  -- its step rule, and its states as they are lent
  pub rule : StepRule
  pub lending : Lending rule
  -- a state as demand 3 has it: an edition, and the words that are held under it
  pub Held : Type 0
  pub lent : State Held → lending.State
  pub kept : lending.State → State Held
  -- what these words hold; and the words of other zones in the place of their table's
  pub holds : Held → HeldOf rule.Config
  pub storing : Held → List Zone → Held

-- what is asked of one
pub record Fits (k : Kind) : Type 1 where
  pub proper : Proper k.rule
  pub sayable : Sayable k.rule.limits
  pub lendable : Lendable k.rule
  pub stores : Stores k.rule k.lending
  -- lent and kept are the same state
  pub lent_kept : (s : k.lending.State) → k.lent (k.kept s) ≡ s
  pub kept_lent : (s : State k.Held) → k.kept (k.lent s) ≡ s
  pub held : (s : State k.Held)
      → k.lending.terminal (k.lent s) ≡ terminal (record { edition = s.edition; table = k.holds s.table })
  pub stored : (s : State k.Held) (t : Kept k.rule)
      → k.lending.next (k.lent s) t
      ≡ k.lent (record { edition = t.edition; table = k.storing s.table (table_of t.table) })
  -- and what is stored is held
  pub holds_stored : (h : k.Held) (t : List Zone)
      → k.holds (k.storing h t) ≡ record { config = (k.holds h).config; table = store k.rule.limits t }

module _ (k : Kind) where
  -- ---- the code
  -- what a call with a state and bytes answers, and the state that it leaves
  pub record CodeBy : Type 0 where
    pub says : k.lending.State → List ℕ → Outcome
    pub leaves : k.lending.State → List ℕ → k.lending.State

  -- it says of every call what code for the step rule says
  abbrev pub MeetsBy : CodeBy → Type 0
  MeetsBy f = (s : k.lending.State) (b : List ℕ) → CalledBy k.rule k.lending s b (f.says s b) (f.leaves s b)

  -- the bytes are refused, and every word stays
  abbrev pub TurnsAwayBy : CodeBy → k.lending.State → List ℕ → Type 0
  TurnsAwayBy f s b = ((f.says s b).number ≡ 0 → ⊥) × (f.leaves s b ≡ s)

  -- ---- terminals with that code as a machine
  -- the terminal that is held
  abbrev pub now_by : State k.Held → Kept k.rule
  now_by s = terminal (record { edition = s.edition; table = k.holds s.table })

  -- a delivery is a call, and requests lead to the words of the table that their run leaves
  abbrev pub code_terminals : CodeBy → Machine
  code_terminals f = record {
    Table = k.Held;
    Bytes = List ℕ;
    Requests = List Asked;
    number = λ s b. (f.says (k.lent s) b).number;
    after = λ s b. k.kept (f.leaves (k.lent s) b);
    PlanFor = λ s b. (p : k.rule.Said) × PlanForBy k.rule (now_by s) b p;
    Sound = λ h. SoundHeldBy k.rule (k.holds h);
    Accepts = λ s q. MayAskBy k.rule (now_by s) q;
    next = λ h q. k.storing h (ran_by k.rule (k.holds h).config (table_of (k.holds h).table) q).table;
    encode = λ s q. plan_bytes_by k.rule (now_by s) q;
  }

  -- they meet what is asked of a machine
  abbrev pub CodeOfStepsIsLawful : Type 1
  CodeOfStepsIsLawful = Fits k → (f : CodeBy) → MeetsBy f → Lawful (code_terminals f)

  -- ---- the demand
  -- h are words with the configuration that both start with
  module _ (h : k.Held) (asked : ℕ → List Asked) where
    -- the planner's state of edition n and plan i, by the rules alone
    abbrev pub planned_at_by : ℕ → Kept k.rule
    planned_at_by n = planned_by k.rule (k.holds h).config asked n

    abbrev pub plan_at_by : ℕ → List ℕ
    plan_at_by i = plan_file_by k.rule (k.holds h).config asked i

    module _ (f : CodeBy) where
      -- the same planner, as demand 3 has it: both start with the words of no zone
      abbrev pub code_planner : Planner (code_terminals f)
      code_planner = record { start = k.storing h []; asked = asked }

      -- a history of a terminal with that code; how many plans there are then, and the words that the terminal holds
      abbrev pub CodePast : Type 0
      CodePast = History (code_terminals f) code_planner

      abbrev pub code_made : CodePast → ℕ
      code_made p = (world (code_terminals f) code_planner p).made

      abbrev pub code_held : CodePast → State k.Held
      code_held p = (world (code_terminals f) code_planner p).state

      abbrev pub code_state : CodePast → k.lending.State
      code_state p = k.lent (code_held p)

      -- a state at edition n, of so many plans that were made
      pub record FollowsBy (made : ℕ) (s : k.lending.State) (n : ℕ) : Type 0 where
        -- it is not ahead, and its words hold exactly the planner's state of n
        pub behind : n ≤ made
        pub holds : k.lending.terminal s ≡ planned_at_by n
        -- a call with plan n + 1 answers 0 and leaves words that hold n + 1; one
        -- with any other plan, or with noise, leaves every word
        pub onward : n < made
            → ((f.says s (plan_at_by (suc n))).number ≡ 0)
            × (k.lending.terminal (f.leaves s (plan_at_by (suc n))) ≡ planned_at_by (suc n))
        pub others : (i : ℕ) → 1 ≤ i → i ≤ made → (i ≡ suc n → ⊥) → TurnsAwayBy f s (plan_at_by i)
        pub stray : (b : List ℕ) → ((p : k.rule.Said) → PlanForBy k.rule (k.lending.terminal s) b p → ⊥)
            → TurnsAwayBy f s b

  -- whatever happened, the words hold exactly the planner's state of some edition
  abbrev pub CodeOfStepsFollows : Type 1
  CodeOfStepsFollows =
      Fits k → (f : CodeBy) → MeetsBy f → (h : k.Held) → GoodConfig k.rule (k.holds h).config
      → (asked : ℕ → List Asked) (p : CodePast h asked f)
      → (n : ℕ) × FollowsBy h asked f (code_made h asked f p) (code_state h asked f p) n

  -- and every history of the rules' terminals is one of the code's: the same events are legal, and in the end there are
  -- as many plans and the words hold the rules' terminal
  abbrev pub CodeOfStepsGoesAlong : Type 1
  CodeOfStepsGoesAlong =
      Fits k → (f : CodeBy) → MeetsBy f
      → (h : k.Held) (asked : ℕ → List Asked) (p : PastBy k.rule (apply_by k.rule) (k.holds h).config asked)
      → (g : CodePast h asked f) × (g.0 ≡ p.0)
      × (code_made h asked f g ≡ made_in_by k.rule (apply_by k.rule) (k.holds h).config asked p)
      × (k.lending.terminal (code_state h asked f g)
      ≡ terminal_in_by k.rule (apply_by k.rule) (k.holds h).config asked p)

  -- two terminals of one planner, each with its own code and history: equal editions, equal words
  abbrev pub EqualEditionsByCode : Type 1
  EqualEditionsByCode =
      Fits k → (f g : CodeBy) → MeetsBy f → MeetsBy g → (h : k.Held) → GoodConfig k.rule (k.holds h).config
      → (asked : ℕ → List Asked) (p : CodePast h asked f) (q : CodePast h asked g)
      → (code_held h asked f p).edition ≡ (code_held h asked g q).edition → code_state h asked f p ≡ code_state h asked g q

  -- two terminals with one configuration, each with its own code, planner and history: where the requests that name a
  -- zone, in the plans up to the edition that each is at, are the same list, the words of the two hold the zone alike,
  -- and every translation in it is the same
  abbrev pub OweNothingByCode : Type 1
  OweNothingByCode =
      Fits k → Neighbourly k.rule → (f g : CodeBy) → MeetsBy f → MeetsBy g
      → (h : k.Held) → GoodConfig k.rule (k.holds h).config
      → (z : ℕ) (asked other : ℕ → List Asked) (p : CodePast h asked f) (q : CodePast h other g)
      → keep (names z) (asked_up_to k.rule (apply_by k.rule) asked (code_held h asked f p).edition)
      ≡ keep (names z) (asked_up_to k.rule (apply_by k.rule) other (code_held h other g q).edition)
      → Alike z (table_of (k.lending.terminal (code_state h asked f p)).table)
      (table_of (k.lending.terminal (code_state h other g q)).table)
      × TranslatesAlike z (table_of (k.lending.terminal (code_state h asked f p)).table)
      (table_of (k.lending.terminal (code_state h other g q)).table)

  -- a terminal is never ahead of its planner, and calls with the plans that it has missed, in turn, leave words that hold
  -- the planner's state of now
  abbrev pub NeverAheadByCode : Type 1
  NeverAheadByCode =
      Fits k → (f : CodeBy) → MeetsBy f → (h : k.Held) → GoodConfig k.rule (k.holds h).config
      → (asked : ℕ → List Asked) (p : CodePast h asked f)
      → ((code_held h asked f p).edition ≤ code_made h asked f p)
      × (k.lending.terminal
      (runs f.leaves (code_state h asked f p)
      (map (plan_at_by h asked)
      (places (suc (code_held h asked f p).edition) (code_made h asked f p - (code_held h asked f p).edition))))
      ≡ planned_at_by h asked (code_made h asked f p))

  -- the one at the lower edition is behind: calls with the plans between
  -- the two editions, in turn, bring its words to the other's
  abbrev pub LowerIsBehindByCode : Type 1
  LowerIsBehindByCode =
      Fits k → (f : CodeBy) → MeetsBy f → (h : k.Held) → GoodConfig k.rule (k.holds h).config
      → (asked : ℕ → List Asked) (p q : CodePast h asked f)
      → (code_held h asked f p).edition < (code_held h asked f q).edition
      → runs f.leaves (code_state h asked f p)
      (map (plan_at_by h asked)
      (places (suc (code_held h asked f p).edition)
      ((code_held h asked f q).edition - (code_held h asked f p).edition)))
      ≡ code_state h asked f q
