-- The planner's side: the plan for a terminal's base, and which requests may stand in it.
use Rattle.std.specs.Prelude.{ℕ, ◌<◌, List, ◌≡◌}
use Rattle.formats.specs.Formats.{ListFits}
use Rattle.rules.specs.Applying.{last_edition, Kept, plan_at, plain_steps, Terminal}
use Rattle.rules.specs.Configuration.{config_of, StoredConfig}
use Rattle.rules.specs.Limits.{Limits}
use Rattle.rules.specs.Plan.{AskedFits, Asked, Plan}
use Rattle.rules.specs.Run.{Run}
use Rattle.rules.specs.Steps.{ran_by, StepRule}
use Rattle.rules.specs.Tables.{table_of, StoredTable}

-- ---- by a step rule
module _ (m : StepRule) where
  -- the plan for the terminal's base that asks for such requests, and its bytes
  abbrev pub plan_for_by : Kept m → List Asked → m.Said
  plan_for_by s q = m.plan_at s.config s.edition (table_of s.table) q

  abbrev pub plan_bytes_by : Kept m → List Asked → List ℕ
  plan_bytes_by s q = m.write (plan_for_by s q)

  -- the planner may ask for them: there is a next edition, the requests fit into a plan, and the rules accept them in
  -- turn
  pub record MayAskBy (s : Kept m) (q : List Asked) : Type 0 where
    pub edition : s.edition < last_edition
    pub fits : ListFits 4 0 m.limits.requests AskedFits q
    pub accepted : (ran_by m s.config (table_of s.table) q).inner ≡ 0

-- ---- for document 01's terminals
abbrev pub plan_for : Terminal → List Asked → Plan
plan_for s q = plan_at (config_of s.config) s.edition (table_of s.table) q

abbrev pub plan_bytes : Limits → Terminal → List Asked → List ℕ
plan_bytes l s q = plan_bytes_by (plain_steps l) s q

-- what requests do at a table, in turn
abbrev pub ran_at : Limits → StoredConfig → StoredTable → List Asked → Run
ran_at l c t q = ran_by (plain_steps l) c (table_of t) q

abbrev pub MayAsk : Limits → Terminal → List Asked → Type 0
MayAsk l s q = MayAskBy (plain_steps l) s q
