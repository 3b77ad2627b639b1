-- Applying a plan where the state is words: what the code answers, and the next state.
use Rattle.std.specs.Prelude.{ℕ, Result, cond, List, ◌≡◌, eqb}
use Rattle.rules.specs.Limits.{limits}
use Rattle.rules.specs.Applying as rules
use Rattle.rules.specs.Applying.{plain_steps, apply, Terminal}
use Rattle.rules.specs.Requests.{standing}
use Rattle.rules.specs.Tables.{table_of}
use Rattle.rules.specs.declared.Outcome.{Outcome}
use Rattle.zones.specs.View.{stored_config, stored_table}
use Rattle.zones.specs.Words.{words_of, emptied}
use Rattle.plan.specs.declared.applying.Applied.{Applied}
use Rattle.plan.specs.declared.applying.State.{State}
use Rattle.plan.specs.declared.finding.Parts.{Parts}
use Rattle.plan.specs.Held.{config_held}
use Rattle.plan.specs.Into.{zones_into, Reads}
use Rattle.plan.specs.Steps.{away_with, base_number, RanOrUndoneBy, FoundBy}
use Rattle.plan.specs.declared.refused.Refused.{Refused}

-- the terminal whose state the words are
abbrev pub terminal_in : State → Terminal
terminal_in s = record {
  config = stored_config s.config.words;
  table = stored_table s.table.words;
  edition = s.edition;
}

-- the words of a terminal's next state; its configuration is the same
abbrev pub state_for : State → Terminal → State
state_for s t = record { config = s.config; table = record { words = words_of (table_of t.table) }; edition = t.edition }

-- an answer of the rules, and the words of the next state: those that were given where the number is not 0
unfoldable pub in_words : State → rules.Applied → Applied
in_words s a = record { outcome = a.outcome; state = cond (eqb a.outcome.number 0) (state_for s a.state) s }

unfoldable pub applied : State → List ℕ → Applied
applied s b = in_words s (apply limits (terminal_in s) b)

-- the state whose words these are
abbrev pub state_in : List ℕ → List ℕ → ℕ → State
state_in c t e = record { config = record { words = c }; table = record { words = t }; edition = e }

-- the same where configuration and table are lent: r is answered, and u is what the table's words then are
pub record AppliedIn (c t : List ℕ) (e : ℕ) (b : List ℕ) (r : Outcome) (u : List ℕ) : Type 0 where
  pub answer : r ≡ (applied (state_in c t e) b).outcome
  pub table : u ≡ (applied (state_in c t e) b).state.table.words

-- ---- how the code goes about it (by any step rule: Steps)
-- 1 or 2, or a number that the plan has earned
unfoldable pub turned_away : List ℕ → List ℕ → ℕ → ℕ → Outcome
unfolding away_with
turned_away c t k place = away_with (standing limits (stored_config c) (stored_table t)) k place

-- a run, after which the table is what it was unless the number is 0
abbrev pub RanOrUndone : List ℕ → List ℕ → List ℕ → Outcome → List ℕ → Type 0
RanOrUndone c t b r u = RanOrUndoneBy (plain_steps limits) (stored_config c) t b r u

-- the zones that the bytes give, read into the words of a table without zones
abbrev pub Refilled : List ℕ → List ℕ → List ℕ → Type 0
Refilled s w v = (r : Result ℕ Refused) × Reads s v r (zones_into (emptied w) s)

-- a plan that reads whole, of which these are the parts
abbrev pub FoundIn : List ℕ → List ℕ → ℕ → Parts → Outcome → List ℕ → Type 0
FoundIn c t e p r u =
    FoundBy (plain_steps limits) (stored_config c) t
    (base_number (config_held p.regions.now p.gic c) t e p.edition p.zones.now) p.requests.now r u
