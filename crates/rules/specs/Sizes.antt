-- How many bytes a plan takes, from its contents; and the least and the longest plan, from the limits.
use Rattle.std.specs.Prelude.{ℕ, ◌+◌, ◌-◌, ◌*◌, ◌^◌, List, [], ◌∷◌, ◌≡◌, length, replicate}
use Rattle.formats.specs.Sizes.{total}
use Rattle.rules.specs.Limits.{mark_count, limits, Limits, Sayable}
use Rattle.rules.specs.Fields.{short_size, region_size}
use Rattle.rules.specs.Plan.{Asked, Plan}
use Rattle.rules.specs.Regions.{no_region}
use Rattle.rules.specs.Run.{request_size}
use Rattle.rules.specs.Tables.{Zone}

-- the marks after their count
abbrev pub marks_size : Limits → ℕ
marks_size l = (1 + mark_count l) * short_size

-- so many regions after their count, so many requests after theirs
abbrev pub regions_size : ℕ → ℕ
regions_size n = short_size + n * region_size

abbrev pub requests_size : ℕ → ℕ
requests_size n = short_size + n * request_size

-- a zone: its id, and so many regions in its two sets
abbrev pub sets_size : ℕ → ℕ → ℕ
sets_size m n = short_size + (regions_size m + regions_size n)

abbrev pub zone_size : Zone → ℕ
zone_size z = sets_size (length z.cpu) (length z.iommu)

-- zones after their count
abbrev pub zones_size : List Zone → ℕ
zones_size zs = short_size + total zone_size zs

-- a plan: its four sections
unfoldable pub plan_size : Limits → Plan → ℕ
plan_size l p =
    marks_size l
    + (regions_size (length p.regions) + (zones_size p.zones + requests_size (length p.asked)))

-- where its zones and its requests begin, each at its count
abbrev pub zones_at : Limits → Plan → ℕ
zones_at l p = marks_size l + regions_size (length p.regions)

abbrev pub requests_at : Limits → Plan → ℕ
requests_at l p = zones_at l p + zones_size p.zones

-- ---- the longest and the least
-- with all that the limits let a plan have
abbrev pub longest_size : Limits → ℕ
longest_size l =
    marks_size l
    + (regions_size l.regions + ((short_size + l.zones * sets_size l.in_set l.in_set) + requests_size l.requests))

-- with what every plan has: one region
abbrev pub least_size : Limits → ℕ
least_size l = marks_size l + (regions_size 1 + (short_size + requests_size 0))

-- the document's two numbers
abbrev pub SizesShown : Type 0
SizesShown = (least_size limits ≡ 60) × (longest_size limits ≡ 61852)

-- the widest limits that a plan's fields can say
abbrev pub widest : Limits
widest = record { page = 4096; iommu_page = 4096; guest_reach = 2 ^ 64 - 1; phys_reach = 2 ^ 64 - 1; regions = 2 ^ 32 - 1; zones = 2 ^ 32 - 1; in_set = 2 ^ 32 - 1; requests = 2 ^ 32 - 1; last_marks = (2 ^ 32 - 1) ∷ [] }

abbrev pub SayableShown : Type 0
SayableShown = Sayable widest

-- ---- a plan that has so many of each, every number 0
abbrev pub zone_with : ℕ → ℕ → Zone
zone_with c i = record { id = 0; cpu = replicate c no_region; iommu = replicate i no_region }

abbrev pub no_asked : Asked
no_asked = record { kind = 0; zone = 0; region = no_region }

abbrev pub plan_with : ℕ → ℕ → ℕ → ℕ → ℕ → Plan
plan_with r z c i q = record { marks = record { gic = 0; edition = 0 }; regions = replicate r no_region; zones = replicate z (zone_with c i); asked = replicate q no_asked }
