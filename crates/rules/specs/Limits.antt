-- Every limit, once.
use Rattle.std.specs.Prelude.{ℕ, ◌+◌, ◌^◌, ◌<◌, List, [], ◌∷◌, length}
use Rattle.formats.specs.Formats.{All}
use Rattle.rules.specs.declared.Side.{Side}
use Rattle.rules.specs.declared.Side.TheVariants.{Cpu, Iommu}

-- a region's v, p and size are multiples of this
abbrev pub page : ℕ
page = 4096

-- the highest end of a region, in guest and in physical addresses
abbrev pub guest_reach : ℕ
guest_reach = 2 ^ 40

abbrev pub phys_reach : ℕ
phys_reach = 2 ^ 48

-- a configuration has 1 to this many regions
abbrev pub most_regions : ℕ
most_regions = 256

-- a table has up to this many zones, each with an id up to the highest and two sets of up to so many regions
abbrev pub most_zones : ℕ
most_zones = 32

abbrev pub highest_id : ℕ
highest_id = 255

abbrev pub most_in_set : ℕ
most_in_set = 16

-- a plan has up to this many requests
abbrev pub most_requests : ℕ
most_requests = 512

-- ---- formats: a plan's marks are the GIC's position, the base edition, and then those by which its format is told
abbrev pub first_format : List ℕ
first_format = []

abbrev pub second_format : List ℕ
second_format = 2 ∷ []

-- those of a log that a terminal sends back
abbrev pub log_marks : List ℕ
log_marks = 3 ∷ []

-- ---- the limits of a family of terminals, and the format of its plans: every rule goes by them
pub record Limits : Type 0 where
  pub page : ℕ
  pub iommu_page : ℕ
  pub guest_reach : ℕ
  pub phys_reach : ℕ
  pub regions : ℕ
  pub zones : ℕ
  pub in_set : ℕ
  pub requests : ℕ
  pub last_marks : List ℕ

-- how many marks its plans have
abbrev pub mark_count : Limits → ℕ
mark_count l = 2 + length l.last_marks

-- the page of a side: devices may ask for larger ones than the processor
unfoldable pub page_of : Limits → Side → ℕ
page_of l Cpu = l.page
page_of l Iommu = l.iommu_page

-- those of the document's terminals
abbrev pub limits : Limits
limits = record { page = page; iommu_page = page; guest_reach = guest_reach; phys_reach = phys_reach; regions = most_regions; zones = most_zones; in_set = most_in_set; requests = most_requests; last_marks = second_format }

-- the same limits, with the marks of another format
abbrev pub in_format : List ℕ → Limits → Limits
in_format marks l = record { page = l.page; iommu_page = l.iommu_page; guest_reach = l.guest_reach; phys_reach = l.phys_reach; regions = l.regions; zones = l.zones; in_set = l.in_set; requests = l.requests; last_marks = marks }

-- a plan's fields can say them: counts and marks in 4 bytes, ends of regions in 8
pub record Sayable (l : Limits) : Type 0 where
  pub guest_reach : l.guest_reach < 256 ^ 8
  pub phys_reach : l.phys_reach < 256 ^ 8
  pub regions : l.regions < 256 ^ 4
  pub zones : l.zones < 256 ^ 4
  pub in_set : l.in_set < 256 ^ 4
  pub requests : l.requests < 256 ^ 4
  pub mark_count : mark_count l < 256 ^ 4
  pub last_marks : All (λ (n : ℕ). n < 256 ^ 4) l.last_marks
