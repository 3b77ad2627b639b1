-- Demand 2 of what is stored, of plans and of answers: what is promised of sound tables and of ClosureSpec holds of every
-- stored configuration and table at which neither 1 nor 2 is answered, after whatever bytes, and of every answer 0.
use Rattle.std.specs.Prelude.{ℕ, ◌<◌, List, ◌≡◌, length}
use Rattle.rules.specs.Applying.{plain_steps, Kept}
use Rattle.rules.specs.Budget.{Transition as BudgetTransition}
use Rattle.rules.specs.Closure.{state_of, Transition, State}
use Rattle.rules.specs.Configuration.{gic_of, config_of, StoredConfig}
use Rattle.rules.specs.Limits.{Limits}
use Rattle.rules.specs.OwnedPlan.{owned_steps}
use Rattle.rules.specs.Owners.{owned_of, owned_next, owned_standing, owned_answer, StoredOwned}
use Rattle.rules.specs.Requests.{next, standing, answer}
use Rattle.rules.specs.Steps.{StepRule}
use Rattle.rules.specs.Tables.{table_of, Zone, StoredTable}
use Rattle.rules.specs.declared.Guest.{Guest}
use Rattle.rules.specs.declared.Request.{Request}
use Rattle.rules.specs.declared.Side.{Side}
use Rattle.promises.specs.Outside.{plain_outside, Outside}
use Rattle.promises.specs.Budget.{FormedFor}
use Rattle.promises.specs.Closure.{Corrections}
use Rattle.promises.specs.Owned.{owned_outside}
use Rattle.promises.specs.Rights.{RightsHold}
use Rattle.promises.specs.Outside.{StretchIsConsecutiveBy, NothingRemainsBy}
use Rattle.promises.specs.Tables.{CoversPhys, HeldBy, CpuReaches, SoundUnder}

-- zones that are kept apart: no address outside the GIC is held by two of them, no CPU region covers one of the GIC, and
-- no region has too many rights for its side
pub record KeptApart (c : StoredConfig) (t : List Zone) : Type 0 where
  pub apart : (y z x : ℕ) → y < length t → z < length t → (y ≡ z → ⊥) → HeldBy t y x → HeldBy t z x
      → CoversPhys (gic_of (config_of c)) x
  pub off_gic_law : (z x : ℕ) → z < length t → CpuReaches t z x → CoversPhys (gic_of (config_of c)) x → ⊥
  pub rights : RightsHold t

-- ---- of every kind of terminals
module _ (m : StepRule) (o : Outside m) where
  -- a stored configuration has a record for each region that there is room for
  abbrev pub AllRecords : m.Config → Type 0
  AllRecords c = length (o.first c).records ≡ m.limits.regions

  -- such a one and a table at which neither 1 nor 2 is answered are sound
  abbrev pub StandsIsSoundBy : Type 0
  StandsIsSoundBy =
      (c : m.Config) (t : StoredTable) → AllRecords c → m.standing c t ≡ 0
      → SoundUnder m.limits (o.first c) (table_of t)

  -- so at a terminal that stands zones are kept apart after any bytes, whatever was answered
  abbrev pub IsolationIsKeptBy : Type 0
  IsolationIsKeptBy =
      (s : Kept m) (b : List ℕ) → AllRecords s.config → m.standing s.config s.table ≡ 0
      → KeptApart (o.first s.config) (table_of (o.deliver s b).state.table)

  -- and rights hold as they held
  abbrev pub RightsAreKeptBy : Type 0
  RightsAreKeptBy =
      (s : Kept m) (b : List ℕ) → m.standing s.config s.table ≡ 0
      → RightsHold (table_of (o.deliver s b).state.table)

  -- two zones whose addresses are answered with one physical address meet in the GIC
  abbrev pub ZonesMeetOutsideBy : Type 0
  ZonesMeetOutsideBy =
      (c : m.Config) (t : StoredTable) → AllRecords c → (y z : ℕ) (one other : Side) (a b : Guest) (x : ℕ)
      → (y ≡ z → ⊥) → (o.address c t y one a).number ≡ 0 → (o.address c t z other b).number ≡ 0
      → (o.address c t y one a).phys.0 ≡ x → (o.address c t z other b).phys.0 ≡ x
      → CoversPhys (gic_of (config_of (o.first c))) x

  -- a request that is answered 0 is ClosureSpec's transition, and the documents' corrections hold
  abbrev pub AnsweredIsUpstreamBy : Type 0
  AnsweredIsUpstreamBy =
      (c : m.Config) (t : StoredTable) (q : Request) → AllRecords c → o.answer c t q ≡ 0
      → Transition m.limits (config_of (o.first c)) q.kind q.zone (state_of (table_of t))
      (state_of (o.after (o.model c) (table_of t) q))
      × Corrections m.limits q.kind q.zone (table_of t)

-- ---- document 01's terminals
abbrev pub StandsIsSound : Limits → Type 0
StandsIsSound l = StandsIsSoundBy (plain_steps l) (plain_outside l)

abbrev pub IsolationIsKept : Limits → Type 0
IsolationIsKept l = IsolationIsKeptBy (plain_steps l) (plain_outside l)

abbrev pub ZonesMeetOutside : Limits → Type 0
ZonesMeetOutside l = ZonesMeetOutsideBy (plain_steps l) (plain_outside l)

abbrev pub AnsweredIsUpstream : Limits → Type 0
AnsweredIsUpstream l = AnsweredIsUpstreamBy (plain_steps l) (plain_outside l)

-- where ClosureSpec has a transition and the corrections hold, a request is answered 0, and leads to its next state.
-- With owners that is so of BudgetSpec: they refuse what ClosureSpec would grant to a stranger
abbrev pub UpstreamIsAnswered : Limits → Type 0
UpstreamIsAnswered l =
    (c : StoredConfig) (t : StoredTable) (q : Request) (u : State) → length c.records ≡ l.regions
    → standing l c t ≡ 0 → Transition l (config_of c) q.kind q.zone (state_of (table_of t)) u
    → Corrections l q.kind q.zone (table_of t)
    → (answer l c t q ≡ 0) × (state_of (next l (config_of c) (table_of t) q) ≡ u)

-- ---- terminals with owners
abbrev pub OwnedStandsIsSound : Limits → Type 0
OwnedStandsIsSound l = StandsIsSoundBy (owned_steps l) (owned_outside l)

abbrev pub OwnedIsolationIsKept : Limits → Type 0
OwnedIsolationIsKept l = IsolationIsKeptBy (owned_steps l) (owned_outside l)

abbrev pub OwnedZonesMeetOutside : Limits → Type 0
OwnedZonesMeetOutside l = ZonesMeetOutsideBy (owned_steps l) (owned_outside l)

abbrev pub OwnedAnsweredIsUpstream : Limits → Type 0
OwnedAnsweredIsUpstream l = AnsweredIsUpstreamBy (owned_steps l) (owned_outside l)

abbrev pub OwnedRightsAreKept : Limits → Type 0
OwnedRightsAreKept l = RightsAreKeptBy (owned_steps l) (owned_outside l)

-- stretches of addresses go on as document 01's do
abbrev pub OwnedStretchIsConsecutive : Limits → Type 0
OwnedStretchIsConsecutive l = StretchIsConsecutiveBy (owned_steps l) (owned_outside l)

abbrev pub OwnedNothingRemains : Limits → Type 0
OwnedNothingRemains l = NothingRemainsBy (owned_steps l) (owned_outside l)

-- and of BudgetSpec, both ways
abbrev pub AnsweredIsBudget : Limits → Type 0
AnsweredIsBudget l =
    (c : StoredOwned) (t : StoredTable) (q : Request) → (owned_steps l).Whole c → owned_answer l c t q ≡ 0
    → BudgetTransition (owned_of c) q.kind q.zone (state_of (table_of t))
    (state_of (owned_next l (owned_of c) (table_of t) q))
    × Corrections l q.kind q.zone (table_of t) × FormedFor l q.kind

abbrev pub BudgetIsAnswered : Limits → Type 0
BudgetIsAnswered l =
    (c : StoredOwned) (t : StoredTable) (q : Request) (u : State) → (owned_steps l).Whole c → owned_standing l c t ≡ 0
    → BudgetTransition (owned_of c) q.kind q.zone (state_of (table_of t)) u
    → Corrections l q.kind q.zone (table_of t) → FormedFor l q.kind
    → (owned_answer l c t q ≡ 0) × (state_of (owned_next l (owned_of c) (table_of t) q) ≡ u)
