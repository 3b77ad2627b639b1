-- Demand 3 of the code with the writer as the planner's pen: a plan is made by a call of the writer that answers 0, and
-- what it wrote is the plan.
use Rattle.std.specs.Prelude.{ℕ, ◌≤◌, List, [], ◌++◌, ◌↔◌, ◌≡◌, length, take, drop}
use Rattle.lists.specs.Bytes.{Bytes}
use Rattle.rules.specs.Applying.{last_edition, plain}
use Rattle.rules.specs.Filling.{Filled}
use Rattle.rules.specs.Limits.{limits}
use Rattle.rules.specs.Planner.{MayAsk}
use Rattle.rules.specs.Requests.{standing}
use Rattle.rules.specs.Sizes.{longest_size}
use Rattle.rules.specs.Writer.{asked_of}
use Rattle.promises.specs.Editions as editions
use Rattle.promises.specs.Editions.{AlwaysInStep, EqualEditionsEqualTables, LowerIsBehind, Machine, Lawful, Planner}
use Rattle.promises.specs.Plans.{PlanFor}
use Rattle.zones.specs.View.{ConfigPassed}
use Rattle.zones.specs.Words.{words_of}
use Rattle.zones.specs.declared.config.Config.{Config}
use Rattle.plan.specs.Applying.{terminal_in}
use Rattle.plan.specs.Read.{records_in}
use Rattle.plan.specs.declared.applying.State.{State}
use Rattle.writer.specs.Writer.{WritesIn}
use Rattle.demands.specs.Following.{Code, Meets, lent, terminals_of, Words}

-- what a call of the writer with a state, requests as bytes and a buffer answers, and the buffer that it leaves
abbrev pub Pen : Type 0
Pen = State → List ℕ → List ℕ → Filled

-- it says of every call what `writer::write_words` says, and the library's `peatmitten_write_words`
abbrev pub PenMeets : Pen → Type 0
PenMeets g =
    (s : State) (r w : List ℕ)
    → WritesIn s.config.words s.table.words s.edition r w (g s r w).outcome s.table.words
    (g s r w).buffer

-- the same, of each call with bytes for requests and an edition of 32 bits: what the writer can be lent
pub record Writes (g : Pen) (s : State) (r w : List ℕ) : Type 0 where
  pub edition : s.edition ≤ last_edition
  pub bytes : Bytes r
  pub answer : (g s r w).outcome.number ≡ 0

-- what it wrote
abbrev pub wrote : Pen → State → List ℕ → List ℕ → List ℕ
wrote g s r w = take (g s r w).outcome.place (g s r w).buffer

-- it answers 0 exactly where the planner may ask for what the bytes say, at a state that stands and with a buffer of the
-- longest plan's length: so the planner with the writer can make the plans that the planner of the rules can make
abbrev pub WriterAsksAlike : Type 0
WriterAsksAlike =
    (g : Pen) → PenMeets g → (s : State) (r w : List ℕ)
    → standing limits (terminal_in s).config (terminal_in s).table ≡ 0 → s.edition ≤ last_edition → Bytes r
    → longest_size limits ≤ length w → Writes g s r w ↔ MayAsk limits (terminal_in s) (asked_of r)

-- every plan that a call accepts is, byte for byte, what a call of the writer gives at that state for the requests that
-- reading hands back, into any buffer that is long enough
abbrev pub AcceptedIsWrittenByCalls : Type 0
AcceptedIsWrittenByCalls =
    (f : Code) (g : Pen) → Meets f → PenMeets g → (s : State) (b : List ℕ) → Bytes b → (f s b).outcome.number ≡ 0
    → (w : List ℕ) → length b ≤ length w
    → g s (records_in b) w ≡ record { outcome = plain 0 (length b); buffer = b ++ drop (length b) w }

-- terminals with that code, and a planner who asks by the bytes of requests and writes into the buffer w. A plan is made
-- where the writer answers 0
abbrev pub terminals_by : Code → Pen → List ℕ → Machine
terminals_by f g w = record {
  Table = Words;
  Bytes = List ℕ;
  Requests = List ℕ;
  number = (terminals_of f).number;
  after = (terminals_of f).after;
  PlanFor = (terminals_of f).PlanFor;
  Sound = (terminals_of f).Sound;
  Accepts = λ s r. Writes g (lent s) r w;
  next = λ h r. (terminals_of f).next h (asked_of r);
  encode = λ s r. wrote g (lent s) r w;
}

-- they meet what is asked of a machine
abbrev pub WriterIsLawful : Type 0
WriterIsLawful = (f : Code) (g : Pen) → Meets f → PenMeets g → (w : List ℕ) → Lawful (terminals_by f g w)

-- the planner: both start with the words of no zone
abbrev pub planner_by : (f : Code) (g : Pen) (w : List ℕ) → Config → (ℕ → List ℕ) → Planner (terminals_by f g w)
planner_by f g w c asked = record { start = record { config = c; table = record { words = words_of [] } }; asked = asked }

-- so whatever happened, the terminal is in step with what the writer wrote
abbrev pub InStepWithWriter : Type 0
InStepWithWriter =
    (f : Code) (g : Pen) → Meets f → PenMeets g → (w : List ℕ) (c : Config) (asked : ℕ → List ℕ)
    → AlwaysInStep (terminals_by f g w) (planner_by f g w c asked)

-- equal editions, equal words; and the plans between two editions, in turn, bring the lower to the higher
abbrev pub EqualEditionsByWriter : Type 0
EqualEditionsByWriter =
    (f : Code) (g : Pen) → Meets f → PenMeets g → (w : List ℕ) (c : Config) (asked : ℕ → List ℕ)
    → EqualEditionsEqualTables (terminals_by f g w) (planner_by f g w c asked)

abbrev pub LowerIsBehindByWriter : Type 0
LowerIsBehindByWriter =
    (f : Code) (g : Pen) → Meets f → PenMeets g → (w : List ℕ) (c : Config) (asked : ℕ → List ℕ)
    → LowerIsBehind (terminals_by f g w) (planner_by f g w c asked)

-- the premise is met: a configuration that passed, with no zone, is sound
abbrev pub StartStands : Type 0
StartStands =
    (f : Code) (g : Pen) (w : List ℕ) (c : Config) (asked : ℕ → List ℕ) → ConfigPassed c.words
    → (terminals_by f g w).Sound (planner_by f g w c asked).start
