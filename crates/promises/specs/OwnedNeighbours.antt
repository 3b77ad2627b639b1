-- Neighbours at terminals with owners: the same, and of other zones only 7 tells, since 14 does not occur.
use Rattle.std.specs.Prelude.{ℕ, true, List, ◌⊎◌, ◌≡◌}
use Rattle.rules.specs.Applying.{apply_by}
use Rattle.rules.specs.Limits.{Limits, Sayable}
use Rattle.rules.specs.OwnedPlan.{owned_steps}
use Rattle.rules.specs.Owners.{owned_of, owned_sound, owned_refusal, owned_answer, owned_translated, StoredOwned}
use Rattle.rules.specs.Tables.{Zone}
use Rattle.rules.specs.declared.Request.{Request}
use Rattle.promises.specs.Neighbours.{Alike, end_of, OwesNothing, AlikeOutside, PlansOweNothingBy, HistoriesOweNothingBy}
use Rattle.promises.specs.Neighbours.{PlansTellBy}
use Rattle.promises.specs.Neighbours.{Neighbourly}
use Rattle.promises.specs.OwnedConfiguration.{OwnedPassed}

abbrev pub OwnedIsNeighbourly : Limits → Type 1
OwnedIsNeighbourly l = Neighbourly (owned_steps l)

-- the payment zone owes nothing to its neighbours, by its requests and by plans
abbrev pub OwnedZoneOwesNothing : Limits → Type 0
OwnedZoneOwesNothing l = OwesNothing (owned_steps l)

abbrev pub OwnedPlansOweNothing : Limits → Type 0
OwnedPlansOweNothing l = PlansOweNothingBy (owned_steps l) (apply_by (owned_steps l))

abbrev pub OwnedHistoriesOweNothing : Limits → Type 0
OwnedHistoriesOweNothing l = Sayable l → HistoriesOweNothingBy (owned_steps l) (apply_by (owned_steps l))

-- of two different answers one is 7
abbrev pub Seven : ℕ → Type 0
Seven n = n ≡ 7

abbrev pub SevenBetween : Limits → StoredOwned → List Zone → List Zone → Request → Type 0
SevenBetween l c t u q =
    Alike q.zone t u → (owned_refusal l (owned_of c) t q ≡ owned_refusal l (owned_of c) u q → ⊥)
    → Seven (owned_refusal l (owned_of c) t q) ⊎ Seven (owned_refusal l (owned_of c) u q)

-- at two sound tables under a configuration that passed, and at the ends of two runs
pub record SevenTells (l : Limits) : Type 0 where
  pub tables : (c : StoredOwned) (t u : List Zone) (q : Request) → OwnedPassed l c → owned_sound l (owned_of c) t ≡ true
      → owned_sound l (owned_of c) u ≡ true → SevenBetween l c t u q
  pub ends : (c : StoredOwned) (qs us : List Request) (q : Request) → OwnedPassed l c
      → SevenBetween l c (end_of (owned_steps l) c qs) (end_of (owned_steps l) c us) q

-- from outside, and as inner numbers of plans
abbrev pub OwnedZoneOutside : Limits → Type 0
OwnedZoneOutside l = AlikeOutside (owned_steps l) (owned_answer l) (owned_translated l) Seven

abbrev pub OwnedPlansTell : Limits → Type 0
OwnedPlansTell l = PlansTellBy (owned_steps l) (apply_by (owned_steps l)) Seven
