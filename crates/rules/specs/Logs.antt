-- A log that a terminal sends back: the plan's four sections with a mark of its own, then a claimed answer for each request.
-- The rules are run beside the claims: a claimed refusal leaves the table, and the log goes on.
use Rattle.std.specs.Prelude.{ℕ, suc, ◌+◌, ◌-◌, ◌*◌, ◌/◌, cond, not, List, [], ◌∷◌, ◌≡◌, eqb, length}
use Rattle.lists.specs.Places.{tab}
use Rattle.lists.specs.Rules.{Rule, ◌when◌}
use Rattle.formats.specs.Formats.{Out, got, bad, Format, with, as_type, listed, read_file, ListFits}
use Rattle.rules.specs.Applying.{store, plain, plan_config, store_config}
use Rattle.rules.specs.Configuration.{config_of, Configuration, StoredConfig}
use Rattle.rules.specs.Fields.{short_size}
use Rattle.rules.specs.Filling.{filling, Filled}
use Rattle.rules.specs.Limits.{log_marks, limits, in_format, Limits}
use Rattle.rules.specs.Plan.{requests_of, short, zones_section, plan_format, Short, PlanFits, Plan}
use Rattle.rules.specs.Requests.{refusal, next, standing}
use Rattle.rules.specs.Run.{number_at}
use Rattle.rules.specs.Sizes.{plan_size, longest_size, least_size}
use Rattle.rules.specs.Tables.{table_of, Zone, StoredTable}
use Rattle.rules.specs.declared.LogAnswer.{LogAnswer}
use Rattle.rules.specs.declared.Outcome.{Outcome}
use Rattle.rules.specs.declared.Request.{Request}

-- ---- what a log says
pub record Log : Type 0 where
  pub plan : Plan
  pub claims : List ℕ

-- a terminal's limits, with the marks of a log
abbrev pub log_limits : Limits → Limits
log_limits l = in_format log_marks l

-- claimed answers: as many as the plan has requests
abbrev pub claims_section : Plan → Format (List ℕ)
claims_section p = listed 4 (length p.asked) (length p.asked) short

abbrev pub log_to : Plan × List ℕ → Log
log_to t = record { plan = t.0; claims = t.1 }

abbrev pub log_from : Log → Plan × List ℕ
log_from g = (g.plan, g.claims)

abbrev pub log_format : Limits → Format Log
log_format l = as_type (with (plan_format (log_limits l)) claims_section) log_to log_from

-- the reader and the encoder
unfoldable pub read_log : Limits → List ℕ → Out Log
read_log l b = read_file (log_format l) b

unfoldable pub encode_log : Limits → Log → List ℕ
encode_log l g = (log_format l).write g

-- one that can be written
abbrev pub LogFits : Limits → Log → Type 0
LogFits l g =
    PlanFits (log_limits l) g.plan
    × ListFits 4 (length g.plan.asked) (length g.plan.asked) Short g.claims

-- ---- how many bytes it takes: those of the plan, and so many claims after their count
abbrev pub claims_size : ℕ → ℕ
claims_size n = short_size + n * short_size

unfoldable pub log_size : Limits → Log → ℕ
log_size l g = plan_size (log_limits l) g.plan + claims_size (length g.claims)

-- the longest and the least
abbrev pub longest_log : Limits → ℕ
longest_log l = longest_size (log_limits l) + claims_size l.requests

abbrev pub least_log : Limits → ℕ
least_log l = least_size (log_limits l) + claims_size 0

abbrev pub LogSizesShown : Type 0
LogSizesShown = (least_log limits ≡ 64) × (longest_log limits ≡ 63904)

-- ---- the claims in turn
-- what they come to, and the table at which that is told
pub record Audit : Type 0 where
  pub answer : LogAnswer
  pub table : List Zone

-- an answer that speaks of no claim
abbrev pub claimless : Outcome → LogAnswer
claimless o = record { outcome = o; claimed = 0 }

-- 30: claim i is false; the inner number is what the rules answer, and what was claimed comes beside it
abbrev pub false_claim : ℕ → ℕ → ℕ → LogAnswer
false_claim i claimed right = record { outcome = record { number = 30; place = i; inner = right }; claimed = claimed }

-- the first claim that is not what the rules answer at the table that the requests before it leave; or how many there
-- are, where all hold
unfoldable pub audit_from : Limits → Configuration → ℕ → List Zone → List Request → List ℕ → Audit
audit_from l c i t [] ns = record { answer = claimless (plain 0 i); table = t }
audit_from l c i t (q ∷ qs) [] = record { answer = claimless (plain 0 i); table = t }
audit_from l c i t (q ∷ qs) (a ∷ ns) =
    cond (eqb (refusal l c t q) a) (audit_from l c (suc i) (next l c t q) qs ns) (record
    { answer = false_claim i a (refusal l c t q); table = t })

-- from outside: 1 and 2 come first
unfoldable pub audit : Limits → StoredConfig → StoredTable → List Request → List ℕ → Audit
audit l c t qs ns =
    cond (eqb (standing l c t) 0) (audit_from l (config_of c) 0 (table_of t) qs ns) (record
    { answer = claimless (plain (standing l c t) 0); table = table_of t })

-- claims as bytes: all that are wholly there
unfoldable pub claims_in : List ℕ → List ℕ
claims_in b = tab (length b / short_size) (λ i. number_at short_size b (i * short_size))

-- ---- the check of a log
-- its own configuration and zones, as they are stored
abbrev pub own_config : Limits → Log → StoredConfig
own_config l g = store_config l (plan_config g.plan)

abbrev pub own_table : Limits → Log → StoredTable
own_table l g = store l g.plan.zones

abbrev pub audit_log : Limits → Log → Audit
audit_log l g = audit l (own_config l g) (own_table l g) (requests_of g.plan) g.claims

-- an audit that found something has its answer
abbrev pub audit_rules : Audit → List (Rule Outcome)
audit_rules a = a.answer.outcome when not (eqb a.answer.outcome.number 0) ∷ []

pub record LogChecked : Type 0 where
  pub answer : LogAnswer
  pub buffer : List ℕ

-- then 28, or the zones of its table as a section with their count; only success changes the buffer
unfoldable pub settled_log : Limits → Audit → List ℕ → LogChecked
settled_log l a w =
    let f : Filled = filling (audit_rules a) ((zones_section l).write a.table) w in
    record { answer = record { outcome = f.outcome; claimed = a.answer.claimed }; buffer = f.buffer }

-- 20, 21 or 22; then what its audit comes to
unfoldable pub check_read : Limits → List ℕ → List ℕ → Out Log → LogChecked
check_read l b w (bad k left) = record { answer = claimless (plain k (length b - length left)); buffer = w }
check_read l b w (got g left) = settled_log l (audit_log l g) w

abbrev pub check_log : Limits → List ℕ → List ℕ → LogChecked
check_log l b w = check_read l b w (read_log l b)
