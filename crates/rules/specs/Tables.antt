-- Zones and the table of them; and when a table is sound.
use Rattle.std.specs.Prelude.{ℕ, Bool, cond, not, ◌&&◌, List, [], ◌∷◌, ◌++◌, map, leb, eqb, length, drop, take, replicate}
use Rattle.std.proofs.Math.Option.{Option, none, some}
use Rattle.lists.specs.First.{any, all}
use Rattle.lists.specs.Pairs.{pairwise}
use Rattle.lists.specs.Room.{room}
use Rattle.lists.specs.Tests.{all_of}
use Rattle.rules.specs.declared.Region.{Region}
use Rattle.rules.specs.declared.Side.{Side}
use Rattle.rules.specs.declared.Side.TheVariants.{Cpu, Iommu}
use Rattle.rules.specs.Limits.{highest_id, Limits}
use Rattle.rules.specs.Regions.{well_formed, may_write, may_execute, region_eq, phys_overlap, guest_overlap, no_region, used}
use Rattle.rules.specs.Configuration.{Configuration, gic_of, StoredConfig, config_of, check, is_sound}

-- a zone: its id, its CPU set and its IOMMU set; a table is a list of zones
pub record Zone : Type 0 where
  pub id : ℕ
  pub cpu : List Region
  pub iommu : List Region

-- a zone that holds nothing
abbrev pub empty_zone : ℕ → Zone
empty_zone n = record { id = n; cpu = []; iommu = [] }

-- what stands past the end of a table
abbrev pub no_zone : Zone
no_zone = empty_zone 0

-- the set of a side
unfoldable pub side_of : Side → Zone → List Region
side_of Cpu z = z.cpu
side_of Iommu z = z.iommu

-- the zone has that id
abbrev pub has_id : ℕ → Zone → Bool
has_id n z = eqb z.id n

-- the zone of a table with that id, or none
unfoldable pub zone_in : List Zone → ℕ → Option Zone
zone_in [] id = none
zone_in (z ∷ t) id = cond (has_id id z) (some z) (zone_in t id)

-- what a zone holds on either side
abbrev pub regions_of : Zone → List Region
regions_of z = z.cpu ++ z.iommu

-- ---- a table as it is stored: counts, and a record for each region and zone that there is room for
pub record StoredSet : Type 0 where
  pub count : ℕ
  pub records : List Region

pub record StoredZone : Type 0 where
  pub id : ℕ
  pub cpu : StoredSet
  pub iommu : StoredSet

pub record StoredTable : Type 0 where
  pub count : ℕ
  pub zones : List StoredZone

-- an unused zone: all zero
abbrev pub unused_set : Limits → StoredSet
unused_set l = record { count = 0; records = replicate l.in_set no_region }

abbrev pub unused_zone : Limits → StoredZone
unused_zone l = record { id = 0; cpu = unused_set l; iommu = unused_set l }

-- what stands past the end of the stored zones
abbrev pub no_stored : StoredZone
no_stored = record { id = 0; cpu = record { count = 0; records = [] }; iommu = record { count = 0; records = [] } }

-- the table that is stored
unfoldable pub set_of : StoredSet → List Region
set_of s = room s.count no_region s.records

unfoldable pub zone_of : StoredZone → Zone
zone_of z = record { id = z.id; cpu = set_of z.cpu; iommu = set_of z.iommu }

unfoldable pub table_of : StoredTable → List Zone
table_of t = map zone_of (room t.count no_stored t.zones)

-- ---- every unused record or zone is zero
unfoldable pub rest_zero : StoredSet → Bool
rest_zero s = not (any used (drop s.count s.records))

unfoldable pub zero_set : StoredSet → Bool
zero_set s = all_of (eqb s.count 0 ∷ not (any used s.records) ∷ [])

unfoldable pub tidy_zone : StoredZone → Bool
tidy_zone z = all_of (rest_zero z.cpu ∷ rest_zero z.iommu ∷ [])

unfoldable pub zero_zone : StoredZone → Bool
zero_zone z = all_of (eqb z.id 0 ∷ zero_set z.cpu ∷ zero_set z.iommu ∷ [])

unfoldable pub tidy : StoredTable → Bool
tidy t = all_of (all tidy_zone (take t.count t.zones) ∷ all zero_zone (drop t.count t.zones) ∷ [])

-- ---- sound under a configuration
-- the region is configured
unfoldable pub configured : Configuration → Region → Bool
configured c r = any (region_eq r) c.regions

-- the two do not overlap in guest addresses
abbrev pub guest_apart : Region → Region → Bool
guest_apart a b = not (guest_overlap a b)

-- the region does not overlap the GIC physically
abbrev pub off_gic : Configuration → Region → Bool
off_gic c r = not (phys_overlap r (gic_of c))

-- the two overlap physically and neither is the GIC
unfoldable pub clash : Configuration → Region → Region → Bool
clash c a b = not (region_eq a (gic_of c)) && (not (region_eq b (gic_of c)) && phys_overlap a b)

-- on the CPU side it may be written and executed, on the IOMMU side it may be executed: too many rights
unfoldable pub excessive : Side → Region → Bool
excessive Cpu r = may_write r && may_execute r
excessive Iommu r = may_execute r

abbrev pub modest : Side → Region → Bool
modest s r = not (excessive s r)

-- counts within limits; every region is configured; no two overlap in guest addresses
unfoldable pub sound_set : Limits → Configuration → List Region → Bool
sound_set l c xs = all_of (leb (length xs) l.in_set ∷ all (configured c) xs ∷ pairwise guest_apart xs ∷ [])

-- id at most the highest; both sets; no CPU region overlaps the GIC
-- physically; every IOMMU region is well formed for devices; no region has too many rights for its side
unfoldable pub sound_zone : Limits → Configuration → Zone → Bool
sound_zone l c z = all_of (leb z.id highest_id ∷ sound_set l c z.cpu ∷ sound_set l c z.iommu ∷ all (off_gic c) z.cpu ∷ all (well_formed l.iommu_page) z.iommu ∷ all (modest Cpu) z.cpu ∷ all (modest Iommu) z.iommu ∷ [])

-- two zones: their ids differ; regions other than the GIC never overlap physically
abbrev pub ids_differ : Zone → Zone → Bool
ids_differ y z = not (eqb y.id z.id)

unfoldable pub zones_apart : Configuration → Zone → Zone → Bool
zones_apart c y z = all (λ (a : Region). not (any (clash c a) (regions_of z))) (regions_of y)

-- the table
unfoldable pub sound : Limits → Configuration → List Zone → Bool
sound l c t =
    all_of (leb (length t) l.zones ∷ all (sound_zone l c) t ∷ pairwise ids_differ t ∷ pairwise (zones_apart c) t ∷ [])

-- the table check: yes exactly for a sound table, every unused record or zone zero, under a sound configuration
unfoldable pub check_table : Limits → StoredConfig → StoredTable → Bool
check_table l c t = all_of (is_sound (check l c) ∷ tidy t ∷ sound l (config_of c) (table_of t) ∷ [])
