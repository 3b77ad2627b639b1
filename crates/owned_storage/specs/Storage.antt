-- Terminals with owners in storage: a call beside the current table, by their step rule (storage, Beside).
use Rattle.std.specs.Prelude.{ℕ, List}
use Rattle.rules.specs.Limits.{limits}
use Rattle.rules.specs.OwnedPlan.{owned_steps}
use Rattle.rules.specs.declared.Outcome.{Outcome}
use Rattle.owners.specs.View.{stored_owned}
use Rattle.plan.specs.Steps.{base_number}
use Rattle.plan.specs.declared.finding.Parts.{Parts}
use Rattle.storage.specs.Beside.{BesideBy, PreparedBy, FoundBesideBy}
use Rattle.storage.specs.declared.Prepared.{Prepared}
use Rattle.owned.specs.Held.{owned_held}

abbrev pub OwnedBeside : List ℕ → List ℕ → List ℕ → List ℕ → ℕ → List ℕ → Outcome → List ℕ → Type 0
OwnedBeside c o t y e b r u = BesideBy (owned_steps limits) (stored_owned c o) t y e b r u

abbrev pub OwnedPrepared : List ℕ → List ℕ → List ℕ → List ℕ → ℕ → List ℕ → Prepared → List ℕ → Type 0
OwnedPrepared c o t y e b r u = PreparedBy (owned_steps limits) (stored_owned c o) t y e b r u

-- a plan that reads whole, by its parts
abbrev pub OwnedFoundBeside : List ℕ → List ℕ → List ℕ → List ℕ → ℕ → Parts → Outcome → List ℕ → Type 0
OwnedFoundBeside c o t y e p r u =
    FoundBesideBy (owned_steps limits) (stored_owned c o) t y
    (base_number (owned_held p.regions.now p.gic c o) t e p.edition p.zones.now) p.requests.now r u
