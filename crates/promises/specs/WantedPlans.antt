-- Requests worked out from two tables, as bytes: in a lent buffer, and as the plan that leads a terminal to the wanted
-- table.
use Rattle.std.specs.Prelude.{ℕ, ◌+◌, ◌*◌, ◌≤◌, ◌<◌, List, [], ◌∷◌, ◌++◌, map, ◌≡◌, length, take, drop}
use Rattle.lists.specs.Bytes.{bytes_of}
use Rattle.lists.specs.Lines.{◌given◌, FirstOf, Exactly}
use Rattle.rules.specs.Applying.{last_edition, plain, apply, Terminal, Applied}
use Rattle.rules.specs.Configuration.{StoredConfig}
use Rattle.rules.specs.Fields.{short_size}
use Rattle.rules.specs.Limits.{Limits, Sayable}
use Rattle.rules.specs.Plan.{requests_section, Asked}
use Rattle.rules.specs.Planner.{plan_bytes, MayAsk}
use Rattle.rules.specs.Run.{request_size, requests_in}
use Rattle.rules.specs.Tables.{table_of, StoredTable}
use Rattle.rules.specs.Wanted.{requests_for, worked, asked_as, records_of, listed, Listed}
use Rattle.rules.specs.Writer.{write, asked_of}
use Rattle.rules.specs.declared.Request.{Request}
use Rattle.promises.specs.Wanted.{work_lines, Alike}
use Rattle.promises.specs.WantedOrder.{InOrder}
use Rattle.promises.specs.Writing.{written}

-- ---- in a lent buffer
-- a refusal: none is counted, and no byte of the buffer changes
abbrev pub unlisted : List ℕ → ℕ → Listed
unlisted b n = record { number = n; count = 0; buffer = b }

-- all of the list: its bytes stand at the buffer's start, and what lies behind them stays
abbrev pub all_listed : List Request → List ℕ → Listed
all_listed qs b = record { number = 0; count = length qs; buffer = records_of qs ++ drop (length qs * request_size) b }

-- 1, 2, 29 as before; then 28, where the buffer has fewer bytes than the list takes; or 0
abbrev pub ListedIsExact : Limits → Type 0
ListedIsExact l =
    (c : StoredConfig) (t w : StoredTable) (b : List ℕ)
    → Exactly (listed l c t w b)
    (FirstOf (work_lines (unlisted b) l c t w)
    (FirstOf (unlisted b 28 given (length b < length (requests_for (table_of t) (table_of w)) * request_size) ∷ [])
    (λ a. all_listed (requests_for (table_of t) (table_of w)) b ≡ a)))

-- so a buffer with room for as many requests as a plan may have is never too short
abbrev pub ListedRoomSuffices : Limits → Type 0
ListedRoomSuffices l =
    (c : StoredConfig) (t w : StoredTable) (b : List ℕ) → l.requests * request_size ≤ length b
    → (listed l c t w b).number ≡ 28 → ⊥

-- and then as many bytes as it says are read as the list, as a run reads them
abbrev pub ListedIsRead : Limits → Type 0
ListedIsRead l =
    Sayable l → (c : StoredConfig) (t w : StoredTable) (b : List ℕ) → length c.records ≡ l.regions
    → (listed l c t w b).number ≡ 0
    → requests_in (take ((listed l c t w b).count * request_size) (listed l c t w b).buffer)
    ≡ requests_for (table_of t) (table_of w)

-- ---- as a plan
-- a plan that asks for requests has their bytes after its last count
abbrev pub SectionIsList : Limits → Type 0
SectionIsList l =
    (qs : List Request)
    → (requests_section l).write (map asked_as qs) ≡ bytes_of short_size (length qs) ++ records_of qs

-- the list that is worked out for a terminal, as a plan asks for it; and that plan
abbrev pub asked_for : Limits → Terminal → StoredTable → List Asked
asked_for l s w = map asked_as (worked l s.config s.table w).requests

abbrev pub plan_to : Limits → Terminal → StoredTable → List ℕ
plan_to l s w = plan_bytes l s (asked_for l s w)

-- the terminal accepted it, and its table has the wanted zones and sets, in the order that the rule gives
pub record Led (s : Terminal) (w : StoredTable) (n : ℕ) (a : Applied) : Type 0 where
  pub outcome : a.outcome ≡ plain 0 n
  pub config : a.state.config ≡ s.config
  pub edition : a.state.edition ≡ s.edition + 1
  pub alike : Alike (table_of a.state.table) (table_of w)
  pub order : InOrder (table_of s.table) (table_of w) (table_of a.state.table)

-- from two tables to bytes: where there is a next edition and the list is not refused, the planner may ask for it, and
-- a terminal at the first table accepts the plan, which leads to the wanted zones and sets
abbrev pub PlanLeads : Limits → Type 0
PlanLeads l =
    Sayable l → (s : Terminal) (w : StoredTable) → length s.config.records ≡ l.regions → s.edition < last_edition
    → (worked l s.config s.table w).number ≡ 0
    → MayAsk l s (asked_for l s w) × Led s w (length (asked_for l s w)) (apply l s (plan_to l s w))

-- ---- by the planner's writer
-- the bytes of the list, as the buffer has them
abbrev pub list_bytes : Limits → Terminal → StoredTable → List ℕ → List ℕ
list_bytes l s w b =
    take ((listed l s.config s.table w b).count * request_size) (listed l s.config s.table w b).buffer

-- lent to the writer with a buffer that is long enough for the plan, they are written; and a terminal at the first table
-- accepts what was written, which leads to the wanted zones and sets
abbrev pub WriterLeads : Limits → Type 0
WriterLeads l =
    Sayable l → (s : Terminal) (w : StoredTable) (b d : List ℕ) → length s.config.records ≡ l.regions
    → s.edition < last_edition → (listed l s.config s.table w b).number ≡ 0 → length (plan_to l s w) ≤ length d
    → ((write l s (asked_of (list_bytes l s w b)) d).outcome.number ≡ 0)
    × Led s w (listed l s.config s.table w b).count (apply l s (written l s (asked_of (list_bytes l s w b)) d))
