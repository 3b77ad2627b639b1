-- Applying a plan with owners, where configuration, owners and table are lent as words: `apply_by` of these terminals'
-- step rule (plan, Steps).
use Rattle.std.specs.Prelude.{ℕ, List}
use Rattle.rules.specs.Limits.{limits}
use Rattle.rules.specs.OwnedPlan.{owned_steps}
use Rattle.rules.specs.declared.Outcome.{Outcome}
use Rattle.owners.specs.View.{stored_owned}
use Rattle.plan.specs.Steps.{base_number, AppliedBy, RanOrUndoneBy, FoundBy}
use Rattle.plan.specs.declared.finding.Parts.{Parts}
use Rattle.owned.specs.Held.{owned_held}

-- r is answered, and u is what the table's words then are
abbrev pub OwnedApplied : List ℕ → List ℕ → List ℕ → ℕ → List ℕ → Outcome → List ℕ → Type 0
OwnedApplied c o t e b r u = AppliedBy (owned_steps limits) (stored_owned c o) t e b r u

-- ---- how the code goes about it
-- a run, after which the table is what it was unless the number is 0
abbrev pub OwnedRanOrUndone : List ℕ → List ℕ → List ℕ → List ℕ → Outcome → List ℕ → Type 0
OwnedRanOrUndone c o t b r u = RanOrUndoneBy (owned_steps limits) (stored_owned c o) t b r u

-- a plan that reads whole, by its parts
abbrev pub OwnedFoundIn : List ℕ → List ℕ → List ℕ → ℕ → Parts → Outcome → List ℕ → Type 0
OwnedFoundIn c o t e p r u =
    FoundBy (owned_steps limits) (stored_owned c o) t
    (base_number (owned_held p.regions.now p.gic c o) t e p.edition p.zones.now) p.requests.now r u
