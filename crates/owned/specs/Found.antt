-- Where the sections of a plan with owners begin, of what the format reads: n is the number of the plan's bytes.
use Rattle.std.specs.Prelude.{ℕ, ◌+◌, ◌*◌, List, length}
use Rattle.formats.specs.Formats.{Out}
use Rattle.rules.specs.Fields.{region_size}
use Rattle.rules.specs.Limits.{limits}
use Rattle.rules.specs.OwnedPlan.{OwnedPlan}
use Rattle.rules.specs.OwnedSizes.{owners_size}
use Rattle.rules.specs.Plan.{regions_section, Marks}
use Rattle.rules.specs.Sizes.{zones_at}
use Rattle.rules.specs.declared.Region.{Region}
use Rattle.plan.specs.Found.{marks_bytes, found_of, four_of, leading, zones_found}
use Rattle.plan.specs.Told.{Told}
use Rattle.plan.specs.declared.finding.Found.{Found}
use Rattle.plan.specs.declared.finding.Four.{Four}
use Rattle.owned.specs.Section.{owners_section}

-- the zones begin behind the owners, which stand where the first machine's zones would
abbrev pub owned_zones_at : OwnedPlan → ℕ
owned_zones_at p = zones_at limits p.plan + owners_size (length p.owners)

abbrev pub found_owned : ℕ → Out OwnedPlan → Told Found
found_owned n o = found_of (λ (p : OwnedPlan). p.plan) owned_zones_at n o

-- bytes that begin with one
abbrev pub four_owned : ℕ → Out OwnedPlan → Told Four
four_owned n o = four_of (λ (p : OwnedPlan). p.plan) owned_zones_at n o

-- ---- the same, section by section: the owners begin at byte a, and are as many as k says
unfoldable pub after_owners : ℕ → ℕ → ℕ → ℕ → List ℕ → List ℕ → Told Four
after_owners gic e a n os left = zones_found gic e (a + owners_size (length os)) n left

abbrev pub owners_found : ℕ → ℕ → ℕ → ℕ → ℕ → List ℕ → Told Four
owners_found gic e a k n b = leading (after_owners gic e a n) n ((owners_section k).read b)

unfoldable pub after_regions : ℕ → ℕ → ℕ → List Region → List ℕ → Told Four
after_regions gic e n rs left = owners_found gic e (marks_bytes + (4 + length rs * region_size)) (length rs) n left

abbrev pub regions_found : ℕ → ℕ → ℕ → List ℕ → Told Four
regions_found gic e n b = leading (after_regions gic e n) n ((regions_section limits).read b)

unfoldable pub after_marks : ℕ → Marks → List ℕ → Told Four
after_marks n m left = regions_found m.gic m.edition n left
