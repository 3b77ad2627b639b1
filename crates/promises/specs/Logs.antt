-- Logs that terminals send back: their format has no slack; a claim is found false exactly where it is the first that is not
-- what the rules answer; and where all hold, the buffer begins with the zones that all requests leave.
use Rattle.std.specs.Prelude.{ℕ, ◌-◌, ◌≤◌, ◌<◌, List, [], ◌++◌, ◌↔◌, ◌≡◌, length, get_or, drop}
use Rattle.lists.specs.Bytes.{Bytes}
use Rattle.lists.specs.Lines.{FirstOf, Exactly}
use Rattle.lists.specs.Runs.{runs}
use Rattle.formats.specs.Formats.{got, bad}
use Rattle.rules.specs.Applying.{plain, plan_config}
use Rattle.rules.specs.Limits.{second_format, Limits, Sayable}
use Rattle.rules.specs.Logs.{log_format, read_log, encode_log, LogFits, longest_log, least_log, claimless, false_claim, own_config, own_table}
use Rattle.rules.specs.Logs.{check_log, Log}
use Rattle.rules.specs.Plan.{requests_of, zones_section, read_plan, Plan}
use Rattle.rules.specs.Requests.{next, answers}
use Rattle.rules.specs.Sizes.{longest_size}
use Rattle.rules.specs.Tables.{Zone}
use Rattle.rules.specs.declared.LogAnswer.{LogAnswer}
use Rattle.promises.specs.Answers.{standing_lines, number_at, Stands}
use Rattle.promises.specs.Outside.{ReadingBy}
use Rattle.promises.specs.Filling.{Fills}

-- ---- the format
-- what was encoded is read back, and whatever reads whole is the encoding of what it reads to
abbrev pub LogsReadBack : Limits → Type 0
LogsReadBack l = (g : Log) → LogFits l g → read_log l (encode_log l g) ≡ got g []

abbrev pub LogsAreTight : Limits → Type 0
LogsAreTight l =
    (b : List ℕ) (g : Log) (t : List ℕ) → Bytes b → read_log l b ≡ got g t → (b ≡ encode_log l g) × LogFits l g

-- how long they are; the two numbers for the document's limits are shown by computation (`LogSizesShown`: rules, Logs)
abbrev pub OfLogLength : Limits → List ℕ → Type 0
OfLogLength l b = (least_log l ≤ length b) × (length b ≤ longest_log l)

abbrev pub IsMetByLog : Limits → ℕ → Type 0
IsMetByLog l n = (g : Log) × LogFits l g × (length (encode_log l g) ≡ n)

pub record LogLengths (l : Limits) : Type 0 where
  -- every log within the limits has such a length, and so has whatever reads whole
  pub written : (g : Log) → LogFits l g → OfLogLength l (encode_log l g)
  pub whole : (b : List ℕ) (g : Log) → Bytes b → read_log l b ≡ got g [] → OfLogLength l b
  -- and both lengths are met, where a region is allowed and a log's fields can say the limits
  pub least_met : 1 ≤ l.regions → Sayable l → IsMetByLog l (least_log l)
  pub longest_met : 1 ≤ l.regions → Sayable l → IsMetByLog l (longest_log l)

-- what lies past the longest log and one byte more changes nothing
abbrev pub PastTheLongestLog : Limits → Type 0
PastTheLongestLog l =
    (u v w : List ℕ) → longest_log l < length u → check_log l (u ++ v) w ≡ check_log l u w

-- no bytes are a log and a plan of the second format: where they read as one, the third mark refuses them as the other
pub record LogsAreNoPlans (l : Limits) : Type 0 where
  pub log : l.last_marks ≡ second_format → (b : List ℕ) (g : Log) → read_log l b ≡ got g []
      → read_plan l b ≡ bad 21 (drop 12 b)
  pub plan : l.last_marks ≡ second_format → (b : List ℕ) (p : Plan) → read_plan l b ≡ got p []
      → read_log l b ≡ bad 21 (drop 12 b)

-- ---- the claims
-- what the rules answer to request j of a log, at the table that the requests before it leave; and what is claimed
abbrev pub right_at : Limits → Log → ℕ → ℕ
right_at l g j = number_at l (plan_config g.plan) g.plan.zones (requests_of g.plan) j

abbrev pub claim_at : Log → ℕ → ℕ
claim_at g j = get_or g.claims j 0

-- claim i is the first that is false
pub record FalseAt (l : Limits) (g : Log) (i : ℕ) : Type 0 where
  pub there : i < length g.claims
  pub before : (j : ℕ) → j < i → right_at l g j ≡ claim_at g j
  pub differ : right_at l g i ≡ claim_at g i → ⊥

-- all hold
abbrev pub AllHold : Limits → Log → Type 0
AllHold l g = (j : ℕ) → j < length g.claims → right_at l g j ≡ claim_at g j

-- the zones after all requests, and their section
abbrev pub end_zones : Limits → Log → List Zone
end_zones l g = runs (next l (plan_config g.plan)) g.plan.zones (requests_of g.plan)

abbrev pub end_bytes : Limits → Log → List ℕ
end_bytes l g = (zones_section l).write (end_zones l g)

-- all hold exactly where the claims are the rules' answers, one after another
abbrev pub TrueLogHolds : Limits → Type 0
TrueLogHolds l =
    (b : List ℕ) (g : Log) → Bytes b → read_log l b ≡ got g []
    → AllHold l g ↔ (g.claims ≡ answers l (plan_config g.plan) g.plan.zones (requests_of g.plan))

-- ---- the check
-- the first false claim; 28, where all hold and the end zones are longer than the buffer; or 0 with their length
pub data LogSays (l : Limits) (g : Log) (room : ℕ) : LogAnswer → Type 0 where
  wrong : (i : ℕ) → FalseAt l g i → LogSays l g room (false_claim i (claim_at g i) (right_at l g i))
  short : AllHold l g → room < length (end_bytes l g) → LogSays l g room (claimless (plain 28 0))
  fits : AllHold l g → length (end_bytes l g) ≤ room → LogSays l g room (claimless (plain 0 (length (end_bytes l g))))

pub record LogIsExact (l : Limits) : Type 0 where
  -- what reading refuses is answered with its number and offset
  pub refused : (b w : List ℕ) (k : ℕ) (t : List ℕ) → read_log l b ≡ bad k t
      → (check_log l b w).answer ≡ claimless (plain k (length b - length t))
  -- else the first of 1 and 2 for its own contents, and what its claims come to
  pub judged : (b w : List ℕ) (g : Log) → Bytes b → read_log l b ≡ got g []
      → Exactly (check_log l b w).answer
      (FirstOf (standing_lines (λ n. claimless (plain n 0)) l (own_config l g) (own_table l g)) (LogSays l g (length w)))

-- what a log that reads whole comes to
abbrev pub LogComesTo : Limits → List ℕ → Log → LogAnswer → Type 0
LogComesTo l w g =
    FirstOf (standing_lines (λ n. claimless (plain n 0)) l (own_config l g) (own_table l g)) (LogSays l g (length w))

-- from the first byte on: 20 or 21 at the offset of a field, 22 at the first byte after the claims; else what it comes
-- to. What reading refuses speaks of no claim
pub record LogReadingIsExact (l : Limits) : Type 0 where
  pub outcome : (b w : List ℕ) → Bytes b
      → Exactly (check_log l b w).answer.outcome
      (ReadingBy (log_format l).read b (λ g o. (a : LogAnswer) × (a.outcome ≡ o) × LogComesTo l w g a))
  pub claimed : (b w : List ℕ) (k : ℕ) (t : List ℕ) → read_log l b ≡ bad k t → (check_log l b w).answer.claimed ≡ 0

-- a log that reads whole, whose own contents stand
pub record Proper (l : Limits) (b : List ℕ) (g : Log) : Type 0 where
  pub reads : read_log l b ≡ got g []
  pub stands : Stands l (own_config l g) (own_table l g)

-- so index i is answered exactly where it is that of the first false claim of such a log, with what was claimed and what
-- the rules answer
abbrev pub FalseClaimIsExact : Limits → Type 0
FalseClaimIsExact l =
    (b w : List ℕ) (i a n : ℕ) → Bytes b
    → ((check_log l b w).answer ≡ false_claim i a n)
    ↔ ((g : Log) × Proper l b g × FalseAt l g i × (claim_at g i ≡ a) × (right_at l g i ≡ n))

-- and 0 or 28 exactly where all hold
pub record AllHoldIsExact (l : Limits) : Type 0 where
  pub zero : (b w : List ℕ) → Bytes b
      → ((check_log l b w).answer.outcome.number ≡ 0)
      ↔ ((g : Log) × Proper l b g × AllHold l g × (length (end_bytes l g) ≤ length w))
  pub twenty_eight_law : (b w : List ℕ) → Bytes b
      → ((check_log l b w).answer.outcome.number ≡ 28)
      ↔ ((g : Log) × Proper l b g × AllHold l g × (length w < length (end_bytes l g)))

-- a refusal changes no byte of the buffer
abbrev pub LogRefusalLeaves : Limits → Type 0
LogRefusalLeaves l = (b w : List ℕ) → ((check_log l b w).answer.outcome.number ≡ 0 → ⊥) → (check_log l b w).buffer ≡ w

-- success fills it with the zones after all requests
abbrev pub LogSuccessFills : Limits → Type 0
LogSuccessFills l =
    (b w : List ℕ) → Bytes b → (check_log l b w).answer.outcome.number ≡ 0
    → (g : Log) × (read_log l b ≡ got g [])
    × Fills (end_bytes l g) w (check_log l b w).answer.outcome (check_log l b w).buffer

-- and one of the longest plan's length is never too short
abbrev pub LogLongestSuffices : Limits → Type 0
LogLongestSuffices l =
    Sayable l → (b w : List ℕ) → Bytes b → longest_size l ≤ length w → (check_log l b w).answer.outcome.number ≡ 28 → ⊥
