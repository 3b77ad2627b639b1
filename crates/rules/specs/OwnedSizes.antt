-- How many bytes a plan with owners takes: those of the plan, and its owners section.
use Rattle.std.specs.Prelude.{ℕ, ◌+◌, ◌*◌, ◌≡◌, length, replicate}
use Rattle.rules.specs.Fields.{short_size}
use Rattle.rules.specs.Limits.{limits, Limits}
use Rattle.rules.specs.OwnedPlan.{OwnedPlan}
use Rattle.rules.specs.Sizes.{plan_size, longest_size, least_size, plan_with}

-- so many owners after their count
abbrev pub owners_size : ℕ → ℕ
owners_size n = short_size + n * short_size

unfoldable pub owned_plan_size : Limits → OwnedPlan → ℕ
owned_plan_size l p = plan_size l p.plan + owners_size (length p.owners)

-- the longest and the least
abbrev pub longest_owned_size : Limits → ℕ
longest_owned_size l = longest_size l + owners_size l.regions

abbrev pub least_owned_size : Limits → ℕ
least_owned_size l = least_size l + owners_size 1

-- the document's two numbers
abbrev pub OwnedSizesShown : Type 0
OwnedSizesShown = (least_owned_size limits ≡ 68) × (longest_owned_size limits ≡ 62880)

-- a plan that has so many of each, every number 0
abbrev pub owned_with : ℕ → ℕ → ℕ → ℕ → ℕ → OwnedPlan
owned_with r z c i q = record { plan = plan_with r z c i q; owners = replicate r 0 }
