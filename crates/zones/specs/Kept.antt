-- Requests at a table where it lies: what its words hold after a call and after calls in turn, and that they stand as
-- they stood. `Stepped` is what `step`, `step_in` and the library's `peatmitten_request` say of a call, and `RanIn`
-- what `run_in` says; the words are any words.
use Rattle.std.specs.Prelude.{ℕ, List, ◌≡◌}
use Rattle.lists.specs.Runs.{runs, told, InTurn}
use Rattle.rules.specs.Limits.{limits}
use Rattle.rules.specs.Requests.{next, answers, standing}
use Rattle.rules.specs.Run.{requests_in, run, ended, Run}
use Rattle.rules.specs.Tables.{table_of, Zone}
use Rattle.rules.specs.declared.Outcome.{Outcome}
use Rattle.rules.specs.declared.Request.{Request}
use Rattle.zones.specs.Run.{RanIn}
use Rattle.zones.specs.Step.{Stepped}
use Rattle.zones.specs.View.{stored_config, config_in, stored_table}

-- the zones that words hold
abbrev pub table_in : List ℕ → List Zone
table_in w = table_of (stored_table w)

-- 1 or 2, or 0 where neither applies
abbrev pub standing_in : List ℕ → List ℕ → ℕ
standing_in c t = standing limits (stored_config c) (stored_table t)

-- a configuration and a table at which neither applies
abbrev pub Stands : List ℕ → List ℕ → Type 0
Stands c t = standing_in c t ≡ 0

-- ---- one request
-- the words hold the next table of what they held
abbrev pub StepHolds : Type 0
StepHolds =
    (c t : List ℕ) (q : Request) (n : ℕ) (u : List ℕ) → Stepped c t q n u → Stands c t
    → table_in u ≡ next limits (config_in c) (table_in t) q

-- and stand
abbrev pub StepKeepsStanding : Type 0
StepKeepsStanding = (c t : List ℕ) (q : Request) (n : ℕ) (u : List ℕ) → Stepped c t q n u → Stands c t → Stands c u

-- after any number other than 0, 1 and 2 among them, every word is what it was
abbrev pub RefusedStepStays : Type 0
RefusedStepStays = (c t : List ℕ) (q : Request) (n : ℕ) (u : List ℕ) → Stepped c t q n u → (n ≡ 0 → ⊥) → u ≡ t

-- and where 1 or 2 applies, that is the number
abbrev pub UnsoundStepRefused : Type 0
UnsoundStepRefused =
    (c t : List ℕ) (q : Request) (n : ℕ) (u : List ℕ) → Stepped c t q n u → (Stands c t → ⊥) → n ≡ standing_in c t

-- ---- a run of the requests in lent bytes
-- what it leaves by the rules
abbrev pub run_in : List ℕ → List Zone → List ℕ → Run
run_in c t b = run limits (config_in c) t (requests_in b)

-- the words hold the table that the run leaves, and stand
abbrev pub RunHolds : Type 0
RunHolds =
    (c t b : List ℕ) (r : Outcome) (u : List ℕ) → RanIn c t b r u → Stands c t
    → table_in u ≡ (run_in c (table_in t) b).table

abbrev pub RunKeepsStanding : Type 0
RunKeepsStanding = (c t b : List ℕ) (r : Outcome) (u : List ℕ) → RanIn c t b r u → Stands c t → Stands c u

-- where 1 or 2 applies, that is the number, and every word is what it was
abbrev pub UnsoundRunStays : Type 0
UnsoundRunStays =
    (c t b : List ℕ) (r : Outcome) (u : List ℕ) → RanIn c t b r u → (Stands c t → ⊥)
    → (r.number ≡ standing_in c t) × (u ≡ t)

-- ---- calls in turn under one configuration, each at the words that the one before left
-- requests: the numbers are the rules' in turn, refused ones included, and at the end the words hold the rules' table
-- and stand
abbrev pub StepsHold : Type 0
StepsHold =
    (c t : List ℕ) (qs : List Request) (ns u : List ℕ) → InTurn (λ t q n u. Stepped c t q n u) t qs ns u → Stands c t
    → (ns ≡ answers limits (config_in c) (table_in t) qs) × (table_in u ≡ runs (next limits (config_in c)) (table_in t) qs)
    × Stands c u

-- and runs
abbrev pub RunsHold : Type 0
RunsHold =
    (c t : List ℕ) (bs : List (List ℕ)) (rs : List Outcome) (u : List ℕ) → InTurn (λ t b r u. RanIn c t b r u) t bs rs u
    → Stands c t
    → (rs ≡ told (λ t b. ended (run_in c t b)) (λ t b. (run_in c t b).table) (table_in t) bs)
    × (table_in u ≡ runs (λ t b. (run_in c t b).table) (table_in t) bs) × Stands c u
