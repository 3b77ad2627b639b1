-- Demand 2 of calls: requests at a table where it lies, one call after another, and plans. What the words hold is what
-- the rules leave, an accepted call is upstream's transition, and zones are kept apart after any calls. It is said of
-- the terminals of any step rule; document 01's and those with owners are both instances.
use Rattle.std.specs.Prelude.{ℕ, List, ◌≡◌}
use Rattle.lists.specs.Runs.{runs, told, InTurn}
use Rattle.rules.specs.Applying.{plain_steps}
use Rattle.rules.specs.Closure.{state_of, Transition, State}
use Rattle.rules.specs.Configuration.{config_of}
use Rattle.rules.specs.Limits.{limits}
use Rattle.rules.specs.OwnedPlan.{owned_steps}
use Rattle.rules.specs.Run.{requests_in, ended, Run}
use Rattle.rules.specs.Steps.{StepRule}
use Rattle.rules.specs.Tables.{table_of, Zone}
use Rattle.rules.specs.declared.Outcome.{Outcome}
use Rattle.rules.specs.declared.Request.{Request}
use Rattle.promises.specs.Outside.{plain_outside, Outside}
use Rattle.promises.specs.Closure.{Corrections}
use Rattle.promises.specs.Owned.{owned_outside}
use Rattle.promises.specs.Standing.{AllRecords, KeptApart}
use Rattle.zones.specs.Kept.{table_in}
use Rattle.zones.specs.Run.{RanIn}
use Rattle.zones.specs.Step.{Stepped}
use Rattle.zones.specs.View.{stored_config, config_in, stored_table}
use Rattle.owners.specs.Run.{OwnedRan}
use Rattle.owners.specs.Step.{OwnedStepped}
use Rattle.owners.specs.View.{stored_owned}
use Rattle.plan.specs.Deliveries.{CallsBy, own_number_by, states_lent, Lending, FaithfulBy}
use Rattle.owned.specs.Deliveries.{owned_lent}

-- calls at words: those that no call changes, the configuration that they hold, and what is said of a call with one
-- request, and of one with requests as bytes. A call finds the table's words t, answers n or r, and leaves u
pub record RequestCalls (m : StepRule) : Type 1 where
  pub Fixed : Type 0
  pub config : Fixed → m.Config
  pub Asks : Fixed → List ℕ → Request → ℕ → List ℕ → Type 0
  pub Runs : Fixed → List ℕ → List ℕ → Outcome → List ℕ → Type 0

module _ (m : StepRule) (o : Outside m) (k : RequestCalls m) where
  -- 1 or 2, or 0 where neither applies
  abbrev pub standing_at : k.Fixed → List ℕ → ℕ
  standing_at w t = m.standing (k.config w) (stored_table t)

  abbrev pub StandsAt : k.Fixed → List ℕ → Type 0
  StandsAt w t = standing_at w t ≡ 0

  -- the rules at these words: the number of a request, the next table, and a run of the requests in lent bytes
  abbrev pub number_at : k.Fixed → List Zone → Request → ℕ
  number_at w = o.number (o.model (k.config w))

  abbrev pub next_at : k.Fixed → List Zone → Request → List Zone
  next_at w = o.after (o.model (k.config w))

  abbrev pub run_at : k.Fixed → List Zone → List ℕ → Run
  run_at w t b = m.run (k.config w) t (requests_in b)

  -- ---- what is held
  pub record CallsHold : Type 0 where
    -- after one request the words hold the next table of what they held, and stand as they stood
    pub step_holds : (w : k.Fixed) (t : List ℕ) (q : Request) (n : ℕ) (u : List ℕ) → k.Asks w t q n u → StandsAt w t
        → table_in u ≡ next_at w (table_in t) q
    pub step_stands : (w : k.Fixed) (t : List ℕ) (q : Request) (n : ℕ) (u : List ℕ) → k.Asks w t q n u → StandsAt w t
        → StandsAt w u
    -- after any number other than 0, 1 and 2 among them, every word is what it was
    pub step_refused : (w : k.Fixed) (t : List ℕ) (q : Request) (n : ℕ) (u : List ℕ) → k.Asks w t q n u
        → (n ≡ 0 → ⊥) → u ≡ t
    -- and where 1 or 2 applies, that is the number
    pub step_unsound : (w : k.Fixed) (t : List ℕ) (q : Request) (n : ℕ) (u : List ℕ) → k.Asks w t q n u
        → (StandsAt w t → ⊥) → n ≡ standing_at w t
    -- after a run the words hold the table that it leaves, and stand
    pub run_holds : (w : k.Fixed) (t b : List ℕ) (r : Outcome) (u : List ℕ) → k.Runs w t b r u → StandsAt w t
        → table_in u ≡ (run_at w (table_in t) b).table
    pub run_stands : (w : k.Fixed) (t b : List ℕ) (r : Outcome) (u : List ℕ) → k.Runs w t b r u → StandsAt w t
        → StandsAt w u
    -- where 1 or 2 applies, that is the number, and every word is what it was
    pub run_unsound : (w : k.Fixed) (t b : List ℕ) (r : Outcome) (u : List ℕ) → k.Runs w t b r u
        → (StandsAt w t → ⊥) → (r.number ≡ standing_at w t) × (u ≡ t)
    -- calls in turn, each at the words that the one before left: the numbers are the rules' in turn, refused ones
    -- included, and at the end the words hold the rules' table and stand
    pub steps : (w : k.Fixed) (t : List ℕ) (qs : List Request) (ns u : List ℕ) → InTurn (k.Asks w) t qs ns u
        → StandsAt w t
        → (ns ≡ told (number_at w) (next_at w) (table_in t) qs) × (table_in u ≡ runs (next_at w) (table_in t) qs)
        × StandsAt w u
    pub runs_too : (w : k.Fixed) (t : List ℕ) (bs : List (List ℕ)) (rs : List Outcome) (u : List ℕ)
        → InTurn (k.Runs w) t bs rs u → StandsAt w t
        → (rs ≡ told (λ t b. ended (run_at w t b)) (λ t b. (run_at w t b).table) (table_in t) bs)
        × (table_in u ≡ runs (λ t b. (run_at w t b).table) (table_in t) bs) × StandsAt w u

  -- ---- upstream
  -- a call that answers 0 is ClosureSpec's transition, from the state that the words held to the one that they hold
  abbrev pub CallIsUpstreamBy : Type 0
  CallIsUpstreamBy =
      (w : k.Fixed) (t : List ℕ) (q : Request) (n : ℕ) (u : List ℕ) → k.Asks w t q n u → n ≡ 0
      → Transition m.limits (config_of (o.first (k.config w))) q.kind q.zone (state_of (table_in t))
      (state_of (table_in u))
      × Corrections m.limits q.kind q.zone (table_in t)

  -- ---- isolation
  -- after any calls at words that stand, zones are kept apart
  pub record CallsKeepApartBy : Type 0 where
    pub steps : (w : k.Fixed) (t : List ℕ) (qs : List Request) (ns u : List ℕ) → InTurn (k.Asks w) t qs ns u
        → StandsAt w t → KeptApart (o.first (k.config w)) (table_in u)
    pub runs : (w : k.Fixed) (t : List ℕ) (bs : List (List ℕ)) (rs : List Outcome) (u : List ℕ)
        → InTurn (k.Runs w) t bs rs u → StandsAt w t → KeptApart (o.first (k.config w)) (table_in u)

-- and after any plans, delivered by whatever calls do what the rules say
abbrev pub PlansKeepApartBy : (m : StepRule) → Outside m → Lending m → Type 1
PlansKeepApartBy m o l =
    (Call : CallsBy m l) → FaithfulBy m l o.deliver Call
    → (s : l.State) (bs : List (List ℕ)) (os : List Outcome) (u : l.State) → InTurn Call s bs os u
    → AllRecords m o (l.terminal s).config → own_number_by m l s ≡ 0
    → KeptApart (o.first (l.terminal s).config) (table_of (l.terminal u).table)

-- ---- document 01's terminals: `step`, `step_in` and the library's `peatmitten_request`; `run_in`
abbrev pub plain_calls : RequestCalls (plain_steps limits)
plain_calls = record { Fixed = List ℕ; config = stored_config; Asks = Stepped; Runs = RanIn }

abbrev pub CallIsUpstream : Type 0
CallIsUpstream = CallIsUpstreamBy (plain_steps limits) (plain_outside limits) plain_calls

-- where ClosureSpec has a transition and the corrections hold, the call answers 0 and leaves words of its next state
abbrev pub UpstreamIsCalled : Type 0
UpstreamIsCalled =
    (c t : List ℕ) (q : Request) (n : ℕ) (u : List ℕ) (v : State) → Stepped c t q n u
    → StandsAt (plain_steps limits) (plain_outside limits) plain_calls c t
    → Transition limits (config_in c) q.kind q.zone (state_of (table_in t)) v
    → Corrections limits q.kind q.zone (table_in t) → (n ≡ 0) × (state_of (table_in u) ≡ v)

abbrev pub CallsKeepApart : Type 0
CallsKeepApart = CallsKeepApartBy (plain_steps limits) (plain_outside limits) plain_calls

abbrev pub PlansKeepApart : Type 1
PlansKeepApart = PlansKeepApartBy (plain_steps limits) (plain_outside limits) states_lent

-- ---- terminals with owners: `owners::step_in` and the library's `peatmitten_bank_request`; `owners::run_in`
abbrev pub bank_calls : RequestCalls (owned_steps limits)
bank_calls = record {
  Fixed = List ℕ × List ℕ;
  config = λ w. stored_owned w.0 w.1;
  Asks = λ w. OwnedStepped w.0 w.1;
  Runs = λ w. OwnedRan w.0 w.1;
}

abbrev pub BankCallsHold : Type 0
BankCallsHold = CallsHold (owned_steps limits) (owned_outside limits) bank_calls

abbrev pub BankCallIsUpstream : Type 0
BankCallIsUpstream = CallIsUpstreamBy (owned_steps limits) (owned_outside limits) bank_calls

abbrev pub BankCallsKeepApart : Type 0
BankCallsKeepApart = CallsKeepApartBy (owned_steps limits) (owned_outside limits) bank_calls

abbrev pub BankPlansKeepApart : Type 1
BankPlansKeepApart = PlansKeepApartBy (owned_steps limits) (owned_outside limits) owned_lent
