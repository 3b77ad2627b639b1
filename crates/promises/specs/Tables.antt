-- Sound tables: what the check of a table says yes to, isolation in bytes, and what upstream's invariants say.
use Rattle.std.specs.Prelude.{ℕ, ◌≤◌, ◌<◌, ◌/◌, ◌%◌, true, false, List, [], ◌↔◌, ◌≡◌, length, get_or}
use Rattle.rules.specs.Limits.{highest_id, Limits, page_of}
use Rattle.rules.specs.Addresses.{Covers}
use Rattle.rules.specs.Configuration.{gic_of, config_of, check, Configuration, StoredConfig}
use Rattle.rules.specs.Regions.{well_formed, in_reach, phys_overlap, guest_overlap, no_region}
use Rattle.rules.specs.Tables.{no_zone, no_stored, side_of, regions_of, excessive, sound, check_table, Zone, StoredSet}
use Rattle.rules.specs.Tables.{StoredZone, StoredTable}
use Rattle.rules.specs.declared.Checked.TheVariants.{Sound}
use Rattle.rules.specs.declared.Region.{Region}
use Rattle.rules.specs.declared.Side.{Side}
use Rattle.rules.specs.declared.Side.TheVariants.{Cpu, Iommu}
use Rattle.promises.specs.Configuration.{at, Passed}

-- ---- the check of a table, on the table as it is stored
-- the zone at a position, and the set of one of its sides
abbrev pub zone_at : StoredTable → ℕ → StoredZone
zone_at t z = get_or t.zones z no_stored

unfoldable pub set_in : Side → StoredZone → StoredSet
set_in Cpu z = z.cpu
set_in Iommu z = z.iommu

-- the count of that set, and the record at a position of it
abbrev pub count_at : StoredTable → ℕ → Side → ℕ
count_at t z s = (set_in s (zone_at t z)).count

abbrev pub record_at : StoredTable → ℕ → Side → ℕ → Region
record_at t z s i = get_or (set_in s (zone_at t z)).records i no_region

-- a zone is at z, and its set holds a region at i
abbrev pub Held : StoredTable → ℕ → Side → ℕ → Type 0
Held t z s i = (z < t.count) × (i < count_at t z s)

-- document 01's conditions on a table, one by one
pub record Conditions (l : Limits) (c : StoredConfig) (t : StoredTable) : Type 0 where
  -- counts are within limits
  pub few_zones : t.count ≤ l.zones
  pub few_regions : (z : ℕ) (s : Side) → z < t.count → count_at t z s ≤ l.in_set
  -- ids are at most 255 and differ
  pub low_ids : (z : ℕ) → z < t.count → (zone_at t z).id ≤ highest_id
  pub ids_differ : (y z : ℕ) → y < t.count → z < t.count → (y ≡ z → ⊥) → (zone_at t y).id ≡ (zone_at t z).id → ⊥
  -- every unused record or zone is zero
  pub rest_zero : (z : ℕ) (s : Side) (i : ℕ) → z < t.count → count_at t z s ≤ i → record_at t z s i ≡ no_region
  pub zones_zero : (z : ℕ) → t.count ≤ z
      → ((zone_at t z).id ≡ 0) × ((s : Side) → (count_at t z s ≡ 0) × ((i : ℕ) → record_at t z s i ≡ no_region))
  -- every region is configured
  pub configured : (z : ℕ) (s : Side) (i : ℕ) → Held t z s i → (k : ℕ) × (k < c.count) × (at c k ≡ record_at t z s i)
  -- no set has two regions that overlap in guest addresses
  pub guest_apart : (z : ℕ) (s : Side) (i j : ℕ) → Held t z s i → Held t z s j → (i ≡ j → ⊥)
      → guest_overlap (record_at t z s i) (record_at t z s j) ≡ false
  -- no CPU region overlaps the GIC physically; every IOMMU region is well formed by the page of devices
  pub off_gic : (z i : ℕ) → Held t z Cpu i → phys_overlap (record_at t z Cpu i) (at c c.gic) ≡ false
  pub formed : (z i : ℕ) → Held t z Iommu i → well_formed l.iommu_page (record_at t z Iommu i) ≡ true
  -- no region has too many rights for its side
  pub modest : (z : ℕ) (s : Side) (i : ℕ) → Held t z s i → excessive s (record_at t z s i) ≡ false
  -- regions other than the GIC in two different zones never overlap physically
  pub zones_apart : (y z : ℕ) (s u : Side) (i j : ℕ) → (y ≡ z → ⊥) → Held t y s i → Held t z u j
      → (record_at t y s i ≡ at c c.gic → ⊥) → (record_at t z u j ≡ at c c.gic → ⊥)
      → phys_overlap (record_at t y s i) (record_at t z u j) ≡ false

-- the check says yes exactly then, under a configuration that its check finds sound
abbrev pub TableCheckIsExact : Limits → Type 0
TableCheckIsExact l =
    (c : StoredConfig) (t : StoredTable) → (check_table l c t ≡ true) ↔ ((check l c ≡ Sound) × Conditions l c t)

-- ---- sound tables
-- the region stands in the set
abbrev pub In : Region → List Region → Type 0
In r xs = (i : ℕ) × (i < length xs) × (get_or xs i no_region ≡ r)

-- the region covers a physical address
abbrev pub CoversPhys : Region → ℕ → Type 0
CoversPhys r x = Covers r.p.0 r.size x

-- the zone at position z holds the address, on either side; its processor reaches it
abbrev pub HeldBy : List Zone → ℕ → ℕ → Type 0
HeldBy t z x = (r : Region) × In r (regions_of (get_or t z no_zone)) × CoversPhys r x

abbrev pub CpuReaches : List Zone → ℕ → ℕ → Type 0
CpuReaches t z x = (r : Region) × In r (get_or t z no_zone).cpu × CoversPhys r x

-- a table that is sound under a configuration that passed its check
pub record SoundUnder (l : Limits) (s : StoredConfig) (t : List Zone) : Type 0 where
  pub config : Passed l s
  pub table : sound l (config_of s) t ≡ true

-- ---- isolation in bytes
-- no address outside the GIC region is held by two zones
abbrev pub NoAddressInTwoZones : Limits → Type 0
NoAddressInTwoZones l =
    (s : StoredConfig) (t : List Zone) → SoundUnder l s t → (y z x : ℕ) → y < length t → z < length t → (y ≡ z → ⊥)
    → HeldBy t y x → HeldBy t z x → CoversPhys (gic_of (config_of s)) x

-- no CPU region covers an address of the GIC
abbrev pub NoCpuOnGic : Limits → Type 0
NoCpuOnGic l =
    (s : StoredConfig) (t : List Zone) → SoundUnder l s t → (z x : ℕ) → z < length t → CpuReaches t z x
    → CoversPhys (gic_of (config_of s)) x → ⊥

-- ---- rights
-- the region may be written, the bit 2; it may be executed, the bit 4
abbrev pub MayWrite : Region → Type 0
MayWrite r = r.rights.0 / 2 % 2 ≡ 1

abbrev pub MayExecute : Region → Type 0
MayExecute r = r.rights.0 / 4 % 2 ≡ 1

-- ---- upstream's invariants
-- inv_zone_ids: an id names one zone
abbrev pub InvZoneIds : Limits → Type 0
InvZoneIds l =
    (s : StoredConfig) (t : List Zone) → SoundUnder l s t → (y z : ℕ) → y < length t → z < length t
    → (get_or t y no_zone).id ≡ (get_or t z no_zone).id → y ≡ z

-- inv_zones_wf: every region of either set is well formed and in reach, and no two of one set overlap in guest
-- addresses
abbrev pub InvZonesWf : Limits → Type 0
InvZonesWf l = (s : StoredConfig) (t : List Zone) → SoundUnder l s t → (z : ℕ) (side : Side) → z < length t
    → ((r : Region) → In r (side_of side (get_or t z no_zone))
    → (well_formed (page_of l side) r ≡ true) × (in_reach l r ≡ true))
    × ((i j : ℕ) → i < length (side_of side (get_or t z no_zone)) → j < length (side_of side (get_or t z no_zone)) → (i ≡ j → ⊥)
    → guest_overlap (get_or (side_of side (get_or t z no_zone)) i no_region)
    (get_or (side_of side (get_or t z no_zone)) j no_region)
    ≡ false)

-- inv_regions_in_all_regions: every region of every zone is configured
abbrev pub InvRegionsInAllRegions : Limits → Type 0
InvRegionsInAllRegions l =
    (s : StoredConfig) (t : List Zone) → SoundUnder l s t → (z : ℕ) (r : Region) → z < length t
    → In r (regions_of (get_or t z no_zone)) → In r (config_of s).regions

-- inv_cpu_disjoint_from_gic: no CPU region overlaps the GIC physically
abbrev pub InvCpuDisjointFromGic : Limits → Type 0
InvCpuDisjointFromGic l =
    (s : StoredConfig) (t : List Zone) → SoundUnder l s t → (z : ℕ) (r : Region) → z < length t
    → In r (get_or t z no_zone).cpu → phys_overlap r (gic_of (config_of s)) ≡ false

-- inv_cross_zone_non_gic_disjoint: regions of two zones, neither of them the GIC, do not overlap physically
abbrev pub InvCrossZoneNonGicDisjoint : Limits → Type 0
InvCrossZoneNonGicDisjoint l =
    (s : StoredConfig) (t : List Zone) → SoundUnder l s t → (y z : ℕ) (a b : Region) → y < length t → z < length t
    → (y ≡ z → ⊥) → In a (regions_of (get_or t y no_zone)) → In b (regions_of (get_or t z no_zone))
    → (a ≡ gic_of (config_of s) → ⊥) → (b ≡ gic_of (config_of s) → ⊥) → phys_overlap a b ≡ false

-- initialize: the empty table is sound under every configuration
abbrev pub EmptyIsSound : Limits → Type 0
EmptyIsSound l = (c : Configuration) → sound l c [] ≡ true
