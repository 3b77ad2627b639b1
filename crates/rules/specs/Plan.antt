-- The plan: four sections in a fixed order, each after its count. All numbers are little-endian; counts, ids, kinds and
-- marks have 4 bytes, region fields 8.
use Rattle.std.specs.Prelude.{ℕ, ◌^◌, ◌<◌, List, map}
use Rattle.formats.specs.Formats.{Out, Format, number, both, field, as_type, many, headed, listed, read_file, InRange}
use Rattle.formats.specs.Formats.{exactly, All, ListFits}
use Rattle.rules.specs.Limits.{mark_count, Limits}
use Rattle.rules.specs.Fields.{region_numbers, numbers_of, region_to, short_size, long_size}
use Rattle.rules.specs.Run.{make_request}
use Rattle.rules.specs.Tables.{Zone}
use Rattle.rules.specs.declared.Region.{Region}
use Rattle.rules.specs.declared.Request.{Request}

-- ---- what a plan says
-- a request's numbers as they stand
pub record Asked : Type 0 where
  pub kind : ℕ
  pub zone : ℕ
  pub region : Region

pub record Marks : Type 0 where
  pub gic : ℕ
  pub edition : ℕ

pub record Plan : Type 0 where
  pub marks : Marks
  pub regions : List Region
  pub zones : List Zone
  pub asked : List Asked

-- the requests that the numbers make
abbrev pub requests_from : List Asked → List Request
requests_from q = map (λ (a : Asked). make_request a.kind a.zone a.region) q

abbrev pub requests_of : Plan → List Request
requests_of p = requests_from p.asked

-- ---- fields
-- a count, a mark, an id or a kind
abbrev pub short : Format ℕ
short = number short_size

abbrev pub long : Format ℕ
long = number long_size

-- a region's numbers, one after another
abbrev pub region_format : Format Region
region_format = as_type (many long region_numbers) region_to numbers_of

abbrev pub region_field : Format Region
region_field = field region_format

-- kind, zone id, region
abbrev pub asked_to : ℕ × (ℕ × Region) → Asked
asked_to t = record { kind = t.0; zone = t.1.0; region = t.1.1 }

abbrev pub asked_from : Asked → ℕ × (ℕ × Region)
asked_from a = (a.kind, (a.zone, a.region))

abbrev pub asked_field : Format Asked
asked_field = field (as_type (both short (both short region_format)) asked_to asked_from)

-- ---- sections
-- marks: how many the format has; GIC position, base edition, and the marks of the format
abbrev pub marks_to : ℕ × (ℕ × Unit {0}) → Marks
marks_to t = record { gic = t.0; edition = t.1.0 }

abbrev pub marks_from : Marks → ℕ × (ℕ × Unit {0})
marks_from m = (m.gic, (m.edition, tt))

abbrev pub marks_format : Limits → Format Marks
marks_format l = as_type (both short (both short (exactly 4 l.last_marks))) marks_to marks_from

abbrev pub marks_section : Limits → Format Marks
marks_section l = headed 4 (mark_count l) (mark_count l) (λ c. marks_format l) (λ m. mark_count l)

-- configured regions: at least one
abbrev pub regions_section : Limits → Format (List Region)
regions_section l = listed 4 1 l.regions region_field

-- base zones: each an id, a CPU set and an IOMMU set, both after their counts
abbrev pub set_format : Limits → Format (List Region)
set_format l = listed 4 0 l.in_set region_field

abbrev pub zone_to : ℕ × (List Region × List Region) → Zone
zone_to t = record { id = t.0; cpu = t.1.0; iommu = t.1.1 }

abbrev pub zone_from : Zone → ℕ × (List Region × List Region)
zone_from z = (z.id, (z.cpu, z.iommu))

abbrev pub zone_format : Limits → Format Zone
zone_format l = as_type (both short (both (set_format l) (set_format l))) zone_to zone_from

abbrev pub zones_section : Limits → Format (List Zone)
zones_section l = listed 4 0 l.zones (zone_format l)

-- requests
abbrev pub requests_section : Limits → Format (List Asked)
requests_section l = listed 4 0 l.requests asked_field

-- ---- the whole: in the regions' place may stand more than regions
abbrev pub sections_with : {A : Type 0} → Limits → Format A → Format (Marks × (A × (List Zone × List Asked)))
sections_with l R = both (marks_section l) (both R (both (zones_section l) (requests_section l)))

abbrev pub plan_to : Marks × (List Region × (List Zone × List Asked)) → Plan
plan_to t = record { marks = t.0; regions = t.1.0; zones = t.1.1.0; asked = t.1.1.1 }

abbrev pub plan_from : Plan → Marks × (List Region × (List Zone × List Asked))
plan_from p = (p.marks, (p.regions, (p.zones, p.asked)))

abbrev pub plan_format : Limits → Format Plan
plan_format l = as_type (sections_with l (regions_section l)) plan_to plan_from

-- the reader and the encoder
unfoldable pub read_plan : Limits → List ℕ → Out Plan
read_plan l b = read_file (plan_format l) b

unfoldable pub encode : Limits → Plan → List ℕ
encode l p = (plan_format l).write p

-- ---- a plan that can be written: numbers that their bytes can say, counts within limits
abbrev pub Short : ℕ → Type 0
Short n = n < 256 ^ 4

abbrev pub Long : ℕ → Type 0
Long n = n < 256 ^ 8

abbrev pub RegionFits : Region → Type 0
RegionFits r = All Long (numbers_of r)

abbrev pub AskedFits : Asked → Type 0
AskedFits a = Short a.kind × (Short a.zone × RegionFits a.region)

abbrev pub MarksFit : Limits → Marks → Type 0
MarksFit l =
    InRange 4 (mark_count l) (mark_count l) (λ m. mark_count l)
    (λ c m. Short m.gic × (Short m.edition × All Short l.last_marks))

abbrev pub SetFits : Limits → List Region → Type 0
SetFits l = ListFits 4 0 l.in_set RegionFits

abbrev pub ZoneFits : Limits → Zone → Type 0
ZoneFits l z = Short z.id × (SetFits l z.cpu × SetFits l z.iommu)

abbrev pub PlanFits : Limits → Plan → Type 0
PlanFits l p =
    MarksFit l p.marks
    × (ListFits 4 1 l.regions RegionFits p.regions
    × (ListFits 4 0 l.zones (ZoneFits l) p.zones × ListFits 4 0 l.requests AskedFits p.asked))
