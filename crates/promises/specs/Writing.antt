-- The planner's writer: what it wrote is accepted and leads where its requests lead, every plan that a terminal accepts
-- is what it writes, and it refuses only for its listed reasons, without touching the buffer.
use Rattle.std.specs.Prelude.{ℕ, ◌+◌, ◌≤◌, ◌<◌, List, [], ◌∷◌, ◌++◌, ◌↔◌, ◌≡◌, length, take, drop}
use Rattle.lists.specs.Bytes.{Bytes}
use Rattle.lists.specs.Lines.{◌given◌, FirstOf, Exactly, Line}
use Rattle.formats.specs.Formats.{got, All}
use Rattle.rules.specs.Applying.{last_edition, store, plain, Kept, plain_steps, apply, Terminal}
use Rattle.rules.specs.Configuration.{config_of}
use Rattle.rules.specs.Limits.{Limits, Sayable}
use Rattle.rules.specs.Plan.{requests_from, AskedFits, Asked}
use Rattle.rules.specs.Planner.{plan_bytes_by, plan_bytes, MayAskBy}
use Rattle.rules.specs.Sizes.{longest_size}
use Rattle.rules.specs.Steps.{ran_by, StepRule}
use Rattle.rules.specs.Tables.{table_of}
use Rattle.rules.specs.Writer.{write_by, write}
use Rattle.rules.specs.declared.Outcome.{Outcome}
use Rattle.promises.specs.Answers.{standing_lines, number_at}
use Rattle.promises.specs.Filling.{Fills}
use Rattle.promises.specs.Steps.{Deliveries}

-- ---- for the terminals of any step rule
module _ (m : StepRule) where
  -- what can be lent at all: an edition of 32 bits, requests whose numbers their fields can say, and a configuration
  -- with a record for all that there is room for
  pub record LendableBy (s : Kept m) (q : List Asked) : Type 0 where
    pub edition : s.edition ≤ last_edition
    pub numbers : All AskedFits q
    pub records : m.Whole s.config

  -- what was written: as many bytes from the buffer's start as the place says
  abbrev pub written_by : Kept m → List Asked → List ℕ → List ℕ
  written_by s q w = take (write_by m s q w).outcome.place (write_by m s q w).buffer

  -- applying what it wrote, at that state, is 0 and leads to the table of the run, one edition higher
  abbrev pub WrittenIsAcceptedBy : Deliveries m → Type 0
  WrittenIsAcceptedBy deliver =
      Sayable m.limits → (s : Kept m) (q : List Asked) (w : List ℕ) → LendableBy s q
      → (write_by m s q w).outcome.number ≡ 0
      → deliver s (written_by s q w)
      ≡ record {
        outcome = plain 0 (length q);
        state = record {
          config = s.config;
          table = store m.limits (ran_by m s.config (table_of s.table) q).table;
          edition = s.edition + 1;
        };
      }

  -- every plan that a terminal accepts is, byte for byte, what the writer gives at that state for what the plan asks
  abbrev pub AcceptedIsWrittenBy : Deliveries m → Type 0
  AcceptedIsWrittenBy deliver =
      (s : Kept m) (b : List ℕ) → Bytes b → (deliver s b).outcome.number ≡ 0
      → (p : m.Said) × (m.read b ≡ got p [])
      × ((w : List ℕ) → length b ≤ length w
      → write_by m s (m.asked p) w ≡ record { outcome = plain 0 (length b); buffer = b ++ drop (length b) w })

  -- it answers 0 exactly where the state stands, the planner may ask for the requests, and the buffer is long enough
  abbrev pub WritesWhenMayAskBy : Type 0
  WritesWhenMayAskBy =
      Sayable m.limits → (s : Kept m) (q : List Asked) (w : List ℕ) → LendableBy s q
      → ((write_by m s q w).outcome.number ≡ 0)
      ↔ ((m.standing s.config s.table ≡ 0) × (MayAskBy m s q × (length (plan_bytes_by m s q) ≤ length w)))

  -- a refusal changes no byte of the buffer
  abbrev pub RefusalLeavesBufferBy : Type 0
  RefusalLeavesBufferBy =
      (s : Kept m) (q : List Asked) (w : List ℕ) → ((write_by m s q w).outcome.number ≡ 0 → ⊥)
      → (write_by m s q w).buffer ≡ w

  -- success fills it with the plan
  abbrev pub SuccessFillsBy : Type 0
  SuccessFillsBy =
      (s : Kept m) (q : List Asked) (w : List ℕ) → (write_by m s q w).outcome.number ≡ 0
      → Fills (plan_bytes_by m s q) w (write_by m s q w).outcome (write_by m s q w).buffer

-- ---- for document 01's terminals
abbrev pub Lendable : Limits → Terminal → List Asked → Type 0
Lendable l s q = LendableBy (plain_steps l) s q

abbrev pub written : Limits → Terminal → List Asked → List ℕ → List ℕ
written l s q w = written_by (plain_steps l) s q w

abbrev pub WrittenIsAccepted : Limits → Type 0
WrittenIsAccepted l = WrittenIsAcceptedBy (plain_steps l) (apply l)

abbrev pub AcceptedIsWritten : Limits → Type 0
AcceptedIsWritten l = AcceptedIsWrittenBy (plain_steps l) (apply l)

abbrev pub WritesWhenMayAsk : Limits → Type 0
WritesWhenMayAsk l = WritesWhenMayAskBy (plain_steps l)

abbrev pub RefusalLeavesBuffer : Limits → Type 0
RefusalLeavesBuffer l = RefusalLeavesBufferBy (plain_steps l)

abbrev pub SuccessFills : Limits → Type 0
SuccessFills l = SuccessFillsBy (plain_steps l)

-- ---- the first number that applies, in plain words
-- 25 and 29, after 1 and 2
abbrev pub writer_lines : Limits → Terminal → List Asked → List (Line Outcome)
writer_lines l s q =
    plain 25 0 given (s.edition ≡ last_edition) ∷ plain 29 0 given (l.requests < length q) ∷ []

-- then 27 of the first request that is refused; 28, where all are accepted and the plan is longer than the buffer; or 0
-- with the plan's length
pub data Writes (l : Limits) (s : Terminal) (q : List Asked) (room : ℕ) : Outcome → Type 0 where
  twenty_seven : (i : ℕ) → i < length q
      → ((j : ℕ) → j < i → number_at l (config_of s.config) (table_of s.table) (requests_from q) j ≡ 0)
      → (number_at l (config_of s.config) (table_of s.table) (requests_from q) i ≡ 0 → ⊥)
      → Writes l s q room
      (record {
        number = 27;
        place = i;
        inner = number_at l (config_of s.config) (table_of s.table) (requests_from q) i;
      })
  twenty_eight : ((j : ℕ) → j < length q
      → number_at l (config_of s.config) (table_of s.table) (requests_from q) j ≡ 0)
      → room < length (plan_bytes l s q) → Writes l s q room (plain 28 0)
  fits : ((j : ℕ) → j < length q → number_at l (config_of s.config) (table_of s.table) (requests_from q) j ≡ 0)
      → length (plan_bytes l s q) ≤ room → Writes l s q room (plain 0 (length (plan_bytes l s q)))

abbrev pub WriteIsExact : Limits → Type 0
WriteIsExact l =
    (s : Terminal) (q : List Asked) (w : List ℕ)
    → Exactly (write l s q w).outcome
    (FirstOf (standing_lines (λ n. plain n 0) l s.config s.table)
    (FirstOf (writer_lines l s q) (Writes l s q (length w))))

-- a buffer of the longest plan's length is never too short
abbrev pub WriterLongestSuffices : Limits → Type 0
WriterLongestSuffices l =
    Sayable l → (s : Terminal) (q : List Asked) (w : List ℕ) → Lendable l s q → longest_size l ≤ length w
    → (write l s q w).outcome.number ≡ 28 → ⊥
