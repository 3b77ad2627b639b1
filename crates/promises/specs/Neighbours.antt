-- Neighbours: what a zone has follows from its own accepted requests alone, and other zones show only in the numbers 7
-- and 14. Said of any step rule; document 01's terminals have one, those with owners another (OwnedNeighbours).
use Rattle.std.specs.Prelude.{ℕ, zero, suc, Bool, true, false, cond, List, [], ◌∷◌, ◌++◌, ◌⊎◌, ◌≡◌, eqb}
use Rattle.lists.specs.First.{all}
use Rattle.lists.specs.Orders.{keep}
use Rattle.lists.specs.Pairs.{pairwise}
use Rattle.lists.specs.Rules.{Rule, first_rule}
use Rattle.lists.specs.Runs.{runs}
use Rattle.formats.specs.Formats.{got, bad, Out}
use Rattle.rules.specs.Applying.{last_edition, store, Kept, plain_steps, apply}
use Rattle.rules.specs.Changes.{region_set}
use Rattle.rules.specs.Configuration.{config_of, StoredConfig}
use Rattle.rules.specs.Limits.{Limits, Sayable}
use Rattle.rules.specs.Plan.{requests_from, Asked}
use Rattle.rules.specs.Requests.{find, present, insert, refusal, next_by, answer}
use Rattle.rules.specs.Steps.{StepRule}
use Rattle.rules.specs.Tables.{regions_of, table_of, ids_differ, Zone, StoredTable}
use Rattle.rules.specs.Translation.{translation, translated}
use Rattle.rules.specs.declared.Guest.{Guest}
use Rattle.rules.specs.declared.Region.{Region}
use Rattle.rules.specs.declared.Request.{Request}
use Rattle.rules.specs.declared.Side.{Side}
use Rattle.rules.specs.declared.Translated.{Translated}
use Rattle.promises.specs.Answers.{SomeZone}
use Rattle.promises.specs.Steps.{PlanForBy, GoodConfig, PastBy, terminal_in_by, Deliveries}
use Rattle.promises.specs.Tables.{In, SoundUnder}

-- ---- one zone in two tables
-- it is absent from both
abbrev pub AbsentInBoth : ℕ → List Zone → List Zone → Type 0
AbsentInBoth z t u = (present z t ≡ false) × (present z u ≡ false)

-- both have it, with the same two sets in the same order; its position may differ
abbrev pub SameSets : ℕ → List Zone → List Zone → Type 0
SameSets z t u =
    (present z t ≡ true) × ((present z u ≡ true) × ((s : Side) → region_set t (find z t) s ≡ region_set u (find z u) s))

-- the two tables stand alike for the zone
abbrev pub Alike : ℕ → List Zone → List Zone → Type 0
Alike z t u = AbsentInBoth z t u ⊎ SameSets z t u

-- every translation in it is the same, on either side and of every address: the whole answer, number, physical address
-- and what remains
abbrev pub TranslatesAlike : ℕ → List Zone → List Zone → Type 0
TranslatesAlike z t u = (s : Side) (a : ℕ) → translation t z s a ≡ translation u z s a

-- ---- what is asked of a step rule
-- 7 looks at the number of zones, 14 at other zones' regions
abbrev pub SevenOrFourteen : ℕ → Type 0
SevenOrFourteen n = (n ≡ 7) ⊎ (n ≡ 14)

-- two lists of rules go in step: the same numbers in the same order, and the same tests but for 7 and 14
abbrev pub InStep : List (Rule ℕ) → List (Rule ℕ) → Type 0
InStep [] [] = Unit {0}
InStep [] (s ∷ ss) = ⊥
InStep (r ∷ rs) [] = ⊥
InStep (r ∷ rs) (s ∷ ss) = (r.0 ≡ s.0) × (((r.1 ≡ s.1) ⊎ SevenOrFourteen r.0) × InStep rs ss)

pub record Neighbourly (m : StepRule) : Type 1 where
  -- the numbers of a request in their order, each with its test: it is answered the first that applies; and the next
  -- table is the document's
  pub rules : m.Config → List Zone → Request → List (Rule ℕ)
  pub first : (c : m.Config) (t : List Zone) (q : Request) → m.refusal c t q ≡ first_rule (rules c t q) 0
  pub does : (c : m.Config) (t : List Zone) (q : Request) → m.next c t q ≡ next_by (m.refusal c t q) t q
  -- sound tables, whatever the configuration: the empty one is one, every request leads from one to one, and that of a
  -- state at which neither 1 nor 2 is answered is one; in one an id names one zone, and it is stored whole
  pub Sound : m.Config → List Zone → Type 0
  pub start : (c : m.Config) → Sound c []
  pub keeps : (c : m.Config) (t : List Zone) (q : Request) → Sound c t → Sound c (m.next c t q)
  pub stands : (c : m.Config) (t : StoredTable) → m.standing c t ≡ 0 → Sound c (table_of t)
  pub ids : (c : m.Config) (t : List Zone) → Sound c t → pairwise ids_differ t ≡ true
  pub back : (c : m.Config) (t : List Zone) → Sound c t → table_of (store m.limits t) ≡ t
  -- where two tables stand alike for the zone that a request names, only 7 and 14 look at anything else
  pub own : (c : m.Config) (t u : List Zone) (q : Request) → Alike q.zone t u → InStep (rules c t q) (rules c u q)

-- ---- requests
-- a request names the zone
abbrev pub names : ℕ → Request → Bool
names z q = eqb q.zone z

module _ (m : StepRule) (c : m.Config) where
  -- requests in turn from the empty table; a refused one leaves the table
  abbrev pub end_of : List Request → List Zone
  end_of qs = runs (m.next c) [] qs

  -- those of them that are accepted where they come, in order
  unfoldable pub accepted : List Zone → List Request → List Request
  accepted t [] = []
  accepted t (q ∷ qs) =
      cond (eqb (m.refusal c t q) 0) (q ∷ accepted (m.next c t q) qs) (accepted (m.next c t q) qs)

  -- the accepted requests that name the zone
  abbrev pub accepted_for : ℕ → List Request → List Request
  accepted_for z qs = keep (names z) (accepted [] qs)

-- two runs under one configuration in which the accepted requests that name the zone are the same list end alike for
-- it, and every translation in it is the same
abbrev pub OwesNothing : StepRule → Type 0
OwesNothing m =
    (c : m.Config) (z : ℕ) (qs us : List Request) → accepted_for m c z qs ≡ accepted_for m c z us
    → Alike z (end_of m c qs) (end_of m c us) × TranslatesAlike z (end_of m c qs) (end_of m c us)

-- where any two tables stand alike for the zone that a request names, and it gets two different answers, one of the two
-- is 7 or 14
abbrev pub OnlyTheseTell : StepRule → Type 0
OnlyTheseTell m =
    (c : m.Config) (t u : List Zone) (q : Request) → Alike q.zone t u
    → (m.refusal c t q ≡ m.refusal c u q → ⊥)
    → SevenOrFourteen (m.refusal c t q) ⊎ SevenOrFourteen (m.refusal c u q)

-- ---- from outside
-- two stored tables under one configuration, with a record for all that there is room for: neither 1 nor 2 is answered
-- at either, and they stand alike for the zone
pub record StandAlike (m : StepRule) (c : m.Config) (z : ℕ) (t u : StoredTable) : Type 0 where
  pub records : m.Whole c
  pub one : m.standing c t ≡ 0
  pub other : m.standing c u ≡ 0
  pub alike : Alike z (table_of t) (table_of u)

-- what is answered there, with 1 and 2 in front: every translation is the same, and two different answers to one
-- request have a number of Told among them
pub record AlikeOutside (m : StepRule) (ask : m.Config → StoredTable → Request → ℕ)
    (look : m.Config → StoredTable → ℕ → Side → Guest → Translated) (Told : ℕ → Type 0) : Type 0 where
  pub addresses : (c : m.Config) (z : ℕ) (t u : StoredTable) → StandAlike m c z t u → (s : Side) (a : Guest)
      → look c t z s a ≡ look c u z s a
  pub requests : (c : m.Config) (t u : StoredTable) (q : Request) → StandAlike m c q.zone t u
      → (ask c t q ≡ ask c u q → ⊥) → Told (ask c t q) ⊎ Told (ask c u q)

-- ---- plans
-- the requests of what was read
unfoldable pub requests_read : (m : StepRule) → Out m.Said → List Request
requests_read m (got p left) = requests_from (m.asked p)
requests_read m (bad k left) = []

-- a terminal that holds no zone, at whatever edition
abbrev pub bare : (m : StepRule) → m.Config → ℕ → Kept m
bare m c e = record { config = c; table = store m.limits []; edition = e }

module _ (m : StepRule) (deliver : Deliveries m) where
  -- bytes delivered in turn: plans, repeats, damaged ones, noise; the zones that the terminal then has
  abbrev pub zones_after : Kept m → List (List ℕ) → List Zone
  zones_after s bs = table_of (runs (λ (t : Kept m) (b : List ℕ). (deliver t b).state) s bs).table

  -- the requests of the plans among them that it accepted, in order
  unfoldable pub taken : Kept m → List (List ℕ) → List Request
  taken s [] = []
  taken s (b ∷ bs) =
      cond (eqb (deliver s b).outcome.number 0) (requests_read m (m.read b)) [] ++ taken (deliver s b).state bs

  -- two terminals with one configuration that held no zone at first: where the requests that name the zone, in the
  -- plans that they accepted, are the same list, they end alike for it, and every translation in it is the same
  abbrev pub PlansOweNothingBy : Type 0
  PlansOweNothingBy =
      (c : m.Config) (d e z : ℕ) (bs cs : List (List ℕ))
      → keep (names z) (taken (bare m c d) bs) ≡ keep (names z) (taken (bare m c e) cs)
      → Alike z (zones_after (bare m c d) bs) (zones_after (bare m c e) cs)
      × TranslatesAlike z (zones_after (bare m c d) bs) (zones_after (bare m c e) cs)

  -- the requests of a planner's plans 1 to k, in order
  unfoldable pub asked_up_to : (ℕ → List Asked) → ℕ → List Request
  asked_up_to asked zero = []
  asked_up_to asked (suc k) = asked_up_to asked k ++ requests_from (asked (suc k))

  -- the same of any two histories with one configuration, each with its own planner: plans come late, twice or never,
  -- noise comes, and a restart brings back what was held before. Where the requests that name the zone, in the plans up
  -- to the edition that each is at, are the same list, the two have the zone alike
  abbrev pub HistoriesOweNothingBy : Type 0
  HistoriesOweNothingBy =
      (c : m.Config) → GoodConfig m c
      → (z : ℕ) (asked other : ℕ → List Asked) (g : PastBy m deliver c asked) (h : PastBy m deliver c other)
      → keep (names z) (asked_up_to asked (terminal_in_by m deliver c asked g).edition)
      ≡ keep (names z) (asked_up_to other (terminal_in_by m deliver c other h).edition)
      → Alike z (table_of (terminal_in_by m deliver c asked g).table) (table_of (terminal_in_by m deliver c other h).table)
      × TranslatesAlike z (table_of (terminal_in_by m deliver c asked g).table)
      (table_of (terminal_in_by m deliver c other h).table)

  -- the zone's next plan: two terminals that stand alike for it, below the last edition, each with bytes that are a
  -- plan for its own base; both plans ask for the same requests, and all of these name the zone
  pub record NextPlan (z : ℕ) (s u : Kept m) (b d : List ℕ) : Type 0 where
    pub config : s.config ≡ u.config
    pub alike : StandAlike m s.config z s.table u.table
    pub onward : (s.edition ≡ last_edition → ⊥) × (u.edition ≡ last_edition → ⊥)
    pub one : m.Said
    pub other : m.Said
    pub plans : PlanForBy m s b one × PlanForBy m u d other
    pub same : requests_from (m.asked one) ≡ requests_from (m.asked other)
    pub own : all (names z) (requests_from (m.asked one)) ≡ true

  -- where the two are answered differently, one of the two inner numbers is one of Told
  abbrev pub PlansTellBy : (ℕ → Type 0) → Type 0
  PlansTellBy Told =
      (z : ℕ) (s u : Kept m) (b d : List ℕ) → NextPlan z s u b d
      → ((deliver s b).outcome ≡ (deliver u d).outcome → ⊥)
      → Told (deliver s b).outcome.inner ⊎ Told (deliver u d).outcome.inner

-- ---- document 01's terminals
abbrev pub PlainIsNeighbourly : Limits → Type 1
PlainIsNeighbourly l = Neighbourly (plain_steps l)

-- the payment zone owes nothing to its neighbours, by its requests and by plans
abbrev pub PaymentZoneOwesNothing : Limits → Type 0
PaymentZoneOwesNothing l = OwesNothing (plain_steps l)

abbrev pub PlansOweNothing : Limits → Type 0
PlansOweNothing l = PlansOweNothingBy (plain_steps l) (apply l)

abbrev pub HistoriesOweNothing : Limits → Type 0
HistoriesOweNothing l = Sayable l → HistoriesOweNothingBy (plain_steps l) (apply l)

-- of two different answers one is 7 or 14: at any two tables, from outside, and as inner numbers of plans
abbrev pub SevenOrFourteenTells : Limits → Type 0
SevenOrFourteenTells l = OnlyTheseTell (plain_steps l)

abbrev pub PaymentZoneOutside : Limits → Type 0
PaymentZoneOutside l = AlikeOutside (plain_steps l) (answer l) (translated l) SevenOrFourteen

abbrev pub PlansTell : Limits → Type 0
PlansTell l = PlansTellBy (plain_steps l) (apply l) SevenOrFourteen

-- ---- what 14 tells
-- another zone than the one with that id holds the region itself, on either side
abbrev pub HeldElsewhere : List Zone → ℕ → Region → Type 0
HeldElsewhere t id r = SomeZone t (λ z y. (z ≡ find id t → ⊥) × In r (regions_of y))

-- in a sound table 14 says so, and nothing less: the region itself, not only one that overlaps it
abbrev pub FourteenIsAnothers : Limits → Type 0
FourteenIsAnothers l =
    (s : StoredConfig) (t : List Zone) → SoundUnder l s t → (side : Side) (r : Region) (id : ℕ)
    → refusal l (config_of s) t (insert side r id) ≡ 14 → HeldElsewhere t id r
