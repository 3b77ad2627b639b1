-- Demand 3 of the code of document 01's terminals, whose states are words, and whose deliveries are calls: the first kind
-- of Steps.
use Rattle.std.specs.Prelude.{ℕ, suc, ◌-◌, ◌≤◌, ◌<◌, List, [], ◌∷◌, map, ◌≡◌}
use Rattle.lists.specs.Orders.{keep}
use Rattle.lists.specs.Places.{places}
use Rattle.lists.specs.Runs.{runs}
use Rattle.rules.specs.Applying.{apply_by, plain_steps, Terminal}
use Rattle.rules.specs.Desk.{G}
use Rattle.rules.specs.Limits.{limits}
use Rattle.rules.specs.Plan.{Asked}
use Rattle.rules.specs.Story.{with5}
use Rattle.promises.specs.Editions as editions
use Rattle.promises.specs.Editions.{Machine, Lawful, Planner}
use Rattle.rules.specs.Tables.{table_of}
use Rattle.promises.specs.Neighbours.{Alike, TranslatesAlike, names, asked_up_to}
use Rattle.promises.specs.Past.{asked_for, events}
use Rattle.promises.specs.Terminals as promised
use Rattle.promises.specs.Terminals.{planned, plan_file}
use Rattle.zones.specs.View.{stored_config, ConfigPassed, stored_table}
use Rattle.zones.specs.Words.{words_of, words_of_config}
use Rattle.zones.specs.declared.config.Config.{Config}
use Rattle.zones.specs.declared.table.Table.{Table}
use Rattle.plan.specs.Applying.{terminal_in, applied}
use Rattle.plan.specs.Deliveries.{states_lent}
use Rattle.plan.specs.declared.applying.Applied.{Applied}
use Rattle.plan.specs.declared.applying.State.{State}
use Rattle.terminal.specs.Terminal.{Applies}
use Rattle.demands.specs.Steps.{code_terminals, code_planner, CodePast, code_made, code_state, Kind, CodeBy, FollowsBy}

-- ---- the code
-- what a call with a state and bytes answers, and the state that it leaves
abbrev pub Code : Type 0
Code = State → List ℕ → Applied

-- it says of every call what `terminal::apply_in` says, and the library's `peatmitten_apply_words` of a state in three parts
abbrev pub Meets : Code → Type 0
Meets f = (s : State) (b : List ℕ) → Applies s b (f s b).state (f s b).outcome

-- and so does `plan::apply`, which answers the next state
abbrev pub ByValueMeets : Type 0
ByValueMeets = (f : Code) → ((s : State) (b : List ℕ) → f s b ≡ applied s b) → Meets f

-- ---- terminals with that code as a machine
-- what is held under an edition: words
pub record Words : Type 0 where
  pub config : Config
  pub table : Table

-- a state as it is lent, and as demand 3 has it
abbrev pub lent : editions.State Words → State
lent s = record { config = s.table.config; table = s.table.table; edition = s.edition }

abbrev pub kept : State → editions.State Words
kept s = record { edition = s.edition; table = record { config = s.config; table = s.table } }

-- their kind: an accepted plan's table is written where the words of the old one lie
abbrev pub words_kind : Kind
words_kind = record {
  rule = plain_steps limits;
  lending = states_lent;
  Held = Words;
  lent = lent;
  kept = kept;
  holds = λ h. record { config = stored_config h.config.words; table = stored_table h.table.words };
  storing = λ h t. record { config = h.config; table = record { words = words_of t } };
}

abbrev pub calls_of : Code → CodeBy words_kind
calls_of f = record { says = λ s b. (f s b).outcome; leaves = λ s b. (f s b).state }

abbrev pub terminals_of : Code → Machine
terminals_of f = code_terminals words_kind (calls_of f)

-- they meet what is asked of a machine
abbrev pub CodeIsLawful : Type 0
CodeIsLawful = (f : Code) → Meets f → Lawful (terminals_of f)

-- ---- the demand
module _ (c : Config) (asked : ℕ → List Asked) where
  -- both start with the words of no zone
  abbrev pub no_zones : Words
  no_zones = record { config = c; table = record { words = words_of [] } }

  -- the planner's state of edition k and plan i, by the rules alone
  abbrev pub planned_at : ℕ → Terminal
  planned_at k = planned limits (stored_config c.words) asked k

  abbrev pub plan_at : ℕ → List ℕ
  plan_at i = plan_file limits (stored_config c.words) asked i

  module _ (f : Code) where
    abbrev pub planner : Planner (terminals_of f)
    planner = code_planner words_kind no_zones asked (calls_of f)

    -- a history of a terminal with that code; how many plans there are then, and the words that the terminal holds
    abbrev pub Past : Type 0
    Past = CodePast words_kind no_zones asked (calls_of f)

    abbrev pub made_in : Past → ℕ
    made_in h = code_made words_kind no_zones asked (calls_of f) h

    abbrev pub state_in : Past → State
    state_in h = code_state words_kind no_zones asked (calls_of f) h

    -- a state at edition k, of so many plans that were made, follows: its words hold exactly the planner's state of k; plan
    -- k + 1 brings k + 1, and any other, or noise, leaves every word
    abbrev pub Follows : ℕ → State → ℕ → Type 0
    Follows made s k = FollowsBy words_kind no_zones asked (calls_of f) made s k

-- whatever happened, the words hold exactly the planner's state of some edition
abbrev pub CodeFollows : Type 0
CodeFollows =
    (f : Code) → Meets f → (c : Config) → ConfigPassed c.words → (asked : ℕ → List Asked) (h : Past c asked f)
    → (k : ℕ) × Follows c asked f (made_in c asked f h) (state_in c asked f h) k

-- and every history of the rules' terminals is one of the code's: the same events are legal, and in the end there are
-- as many plans and the words hold the rules' terminal
abbrev pub CodeGoesAlong : Type 0
CodeGoesAlong =
    (f : Code) → Meets f
    → (c : Config) (asked : ℕ → List Asked) (h : promised.Past limits (stored_config c.words) asked)
    → (g : Past c asked f) × (g.0 ≡ h.0)
    × (made_in c asked f g ≡ promised.made_in limits (stored_config c.words) asked h)
    × (terminal_in (state_in c asked f g) ≡ promised.terminal_in limits (stored_config c.words) asked h)

-- two terminals of one planner, each with its own code and history: equal editions, equal words
abbrev pub EqualEditionsEqualWords : Type 0
EqualEditionsEqualWords =
    (f g : Code) → Meets f → Meets g → (c : Config) → ConfigPassed c.words
    → (asked : ℕ → List Asked) (p : Past c asked f) (q : Past c asked g)
    → (state_in c asked f p).edition ≡ (state_in c asked g q).edition → state_in c asked f p ≡ state_in c asked g q

-- a zone owes nothing to its neighbours: two terminals with one configuration, each with its own code, planner and
-- history, whose plans up to their editions have the same requests of the zone, hold words with the zone alike
abbrev pub WordsOweNothing : Type 0
WordsOweNothing =
    (f g : Code) → Meets f → Meets g → (c : Config) → ConfigPassed c.words
    → (z : ℕ) (asked other : ℕ → List Asked) (p : Past c asked f) (q : Past c other g)
    → keep (names z) (asked_up_to (plain_steps limits) (apply_by (plain_steps limits)) asked (state_in c asked f p).edition)
    ≡ keep (names z) (asked_up_to (plain_steps limits) (apply_by (plain_steps limits)) other (state_in c other g q).edition)
    → Alike z (table_of (terminal_in (state_in c asked f p)).table) (table_of (terminal_in (state_in c other g q)).table)
    × TranslatesAlike z (table_of (terminal_in (state_in c asked f p)).table)
    (table_of (terminal_in (state_in c other g q)).table)

-- a terminal is never ahead of its planner, and calls with the plans that it has missed, in turn, leave words that hold
-- the planner's state of now
abbrev pub WordsNeverAhead : Type 0
WordsNeverAhead =
    (f : Code) → Meets f → (c : Config) → ConfigPassed c.words → (asked : ℕ → List Asked) (p : Past c asked f)
    → ((state_in c asked f p).edition ≤ made_in c asked f p)
    × (terminal_in (runs (λ (s : State) (b : List ℕ). (f s b).state) (state_in c asked f p)
    (map (plan_at c asked)
    (places (suc (state_in c asked f p).edition) (made_in c asked f p - (state_in c asked f p).edition))))
    ≡ planned_at c asked (made_in c asked f p))

-- the one at the lower edition is behind: calls with the plans between
-- the two editions, in turn, bring its words to the other's
abbrev pub LowerWordsAreBehind : Type 0
LowerWordsAreBehind =
    (f : Code) → Meets f → (c : Config) → ConfigPassed c.words → (asked : ℕ → List Asked) (p q : Past c asked f)
    → (state_in c asked f p).edition < (state_in c asked f q).edition
    → runs (λ (s : State) (b : List ℕ). (f s b).state) (state_in c asked f p)
    (map (plan_at c asked)
    (places (suc (state_in c asked f p).edition)
    ((state_in c asked f q).edition - (state_in c asked f p).edition)))
    ≡ state_in c asked f q

-- ---- a past that there is
-- the words of the whole plan's configuration
abbrev pub desk_config : Config
desk_config = record { words = words_of_config (record { regions = G ∷ []; gic = 0 }) }

-- the events of `PastShown`, with every kind among them, are a history of
-- the code, and the words then hold edition 1 with zone 5
abbrev pub CodePastShown : Type 0
CodePastShown =
    (f : Code) → Meets f
    → (g : Past desk_config asked_for f) × (g.0 ≡ events) × (terminal_in (state_in desk_config asked_for f g) ≡ with5 1)
