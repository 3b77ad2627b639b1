-- A step rule: what one kind of terminal differs in from another. Document 01's terminals go by one (Applying), those
-- with owners by another (OwnedPlan); runs, applying a plan and the planner's side are the same for both.
use Rattle.std.specs.Prelude.{ℕ, Bool, List}
use Rattle.formats.specs.Formats.{Out}
use Rattle.rules.specs.Limits.{Limits}
use Rattle.rules.specs.Plan.{requests_from, Asked}
use Rattle.rules.specs.Run.{Run}
use Rattle.rules.specs.Tables.{Zone, StoredTable}
use Rattle.rules.specs.declared.Request.{Request}

pub record StepRule : Type 1 where
  pub limits : Limits
  -- a configuration as it is stored, and that its lists are as long as there is room
  pub Config : Type 0
  pub Whole : Config → Type 0
  -- 1 or 2, which speak of the state, or 0
  pub standing : Config → StoredTable → ℕ
  -- the number of a request at a table, 0 where it is accepted; the next table; and requests in turn, up to the first
  -- that is refused
  pub refusal : Config → List Zone → Request → ℕ
  pub next : Config → List Zone → Request → List Zone
  pub run : Config → List Zone → List Request → Run
  -- what a plan says, how bytes are read as one, and how it stands as bytes
  pub Said : Type 0
  pub read : List ℕ → Out Said
  pub write : Said → List ℕ
  pub edition : Said → ℕ
  pub zones : Said → List Zone
  pub asked : Said → List Asked
  -- it gives that configuration; the test of it (else 23); and what it gives, as it is stored
  pub Gives : Config → Said → Type 0
  pub same : Config → Said → Bool
  pub given : Said → Config
  -- the plan for a configuration, an edition and zones that asks for requests
  pub plan_at : Config → ℕ → List Zone → List Asked → Said

-- what requests do at a table, in turn
abbrev pub ran_by : (m : StepRule) → m.Config → List Zone → List Asked → Run
ran_by m c t q = m.run c t (requests_from q)
