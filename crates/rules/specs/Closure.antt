-- Upstream's ClosureSpec, with its names (- stands for their _) and the
-- order of its clauses, and a table read as its state.
use Rattle.std.specs.Prelude.{ℕ, Bool, true, false, cond, not, ◌&&◌, ◌||◌, List, ◌⊎◌, ◌≡◌, eqb}
use Rattle.std.proofs.Math.Option.{Option, none, some, map}
use Rattle.rules.specs.Limits.{Limits, page_of}
use Rattle.rules.specs.Configuration.{gic_of, Configuration}
use Rattle.rules.specs.Regions.{well_formed, in_reach, region_eq, phys_overlap, guest_overlap}
use Rattle.rules.specs.Requests.{held_in}
use Rattle.rules.specs.Tables.{zone_in, configured, Zone}
use Rattle.rules.specs.Translation.{covers_guest}
use Rattle.rules.specs.declared.Kind.{Kind}
use Rattle.rules.specs.declared.Kind.TheVariants.{AddZone, RemoveZone, Insert, Remove, NoRequest}
use Rattle.rules.specs.declared.Region.{Region}
use Rattle.rules.specs.declared.Side.{Side}
use Rattle.rules.specs.declared.Side.TheVariants.{Cpu, Iommu}

-- ---- its types, as far as their use shows
-- Set<MemoryRegion>: the set tells of each region whether it contains it
abbrev pub RegionSet : Type 0
RegionSet = Region → Bool

-- SpecMemorySet: its regions; the mappings follow from them
abbrev pub empty_set : RegionSet
empty_set r = false

abbrev pub insert_region : RegionSet → Region → RegionSet
insert_region set region r = set r || region_eq r region

abbrev pub remove_region_exact : RegionSet → Region → RegionSet
remove_region_exact set region r = set r && not (region_eq r region)

-- no region of the set overlaps the region in guest addresses
abbrev pub not_overlaps_vmem : RegionSet → Region → Type 0
not_overlaps_vmem set region = (r : Region) → set r ≡ true → guest_overlap region r ≡ false

-- some region of the set covers the guest address
abbrev pub contains_vaddr : RegionSet → ℕ → Type 0
contains_vaddr set v = (r : Region) × (set r ≡ true) × (covers_guest v r ≡ true)

pub record GhostZone : Type 0 where
  pub cpu_mem_set : RegionSet
  pub iommu_mem_set : RegionSet

abbrev pub contains_region : GhostZone → RegionSet
contains_region zone r = zone.cpu_mem_set r || zone.iommu_mem_set r

-- MemoryRegion: spec-valid
abbrev pub spec_valid : Limits → Side → Region → Type 0
spec_valid l s r = (well_formed (page_of l s) r ≡ true) × (in_reach l r ≡ true)

-- SpecMemorySet::wf, by the comment on inv_zones_wf: every region is valid,
-- and no two overlap in guest addresses; and GhostZone::wf
abbrev pub set_wf : Limits → Side → RegionSet → Type 0
set_wf l s set =
    ((r : Region) → set r ≡ true → spec_valid l s r)
    × ((r1 r2 : Region) → set r1 ≡ true → set r2 ≡ true → (r1 ≡ r2 → ⊥) → guest_overlap r1 r2 ≡ false)

abbrev pub wf : Limits → GhostZone → Type 0
wf l zone = set_wf l Cpu zone.cpu_mem_set × set_wf l Iommu zone.iommu_mem_set

-- Map<nat, GhostZone>, which is the state: zone-ids are its keys, and zones-view is the map itself
abbrev pub State : Type 0
State = ℕ → Option GhostZone

abbrev pub map_insert : State → ℕ → GhostZone → State
map_insert zones zid zone id = cond (eqb zid id) (some zone) (zones id)

abbrev pub map_remove : State → ℕ → State
map_remove zones zid id = cond (eqb zid id) none (zones id)

-- ---- the configuration
abbrev pub all_regions : Configuration → RegionSet
all_regions c = configured c

abbrev pub gic_region : Configuration → Region
gic_region c = gic_of c

-- ---- the two guards
abbrev pub cpu_insert_region_allowed : Configuration → State → ℕ → Region → Type 0
cpu_insert_region_allowed c zones zid region =
    (all_regions c region ≡ true)
    × (phys_overlap region (gic_region c) ≡ false)
    × ((other-zid : ℕ) (zone : GhostZone) (r : Region) → zones other-zid ≡ some zone → (zone.cpu_mem_set r ≡ true) ⊎ ((other-zid ≡ zid → ⊥) × (zone.iommu_mem_set r ≡ true)) → phys_overlap region r ≡ false)

abbrev pub iommu_insert_region_allowed : Configuration → State → ℕ → Region → Type 0
iommu_insert_region_allowed c zones zid region =
    (all_regions c region ≡ true)
    × ((other-zid : ℕ) (zone : GhostZone) (r : Region) → zones other-zid ≡ some zone → (other-zid ≡ zid → ⊥)
    → (zone.cpu_mem_set r ≡ true) ⊎ (zone.iommu_mem_set r ≡ true)
    → (region ≡ gic_region c) ⊎ ((r ≡ gic_region c) ⊎ (phys_overlap region r ≡ false)))

-- ---- the invariants; inv_zone_ids and inv_zones_view say that the other two fields are the map's keys and the map,
-- which is how they are read here
pub record Invariants (l : Limits) (c : Configuration) (zones : State) : Type 0 where
  pub inv_zones_wf : (zid : ℕ) (zone : GhostZone) → zones zid ≡ some zone → wf l zone
  pub inv_regions_in_all_regions : (zid : ℕ) (zone : GhostZone) (r : Region) → zones zid ≡ some zone
      → contains_region zone r ≡ true → all_regions c r ≡ true
  pub inv_cpu_disjoint_from_gic : (zid : ℕ) (zone : GhostZone) (r : Region) → zones zid ≡ some zone
      → zone.cpu_mem_set r ≡ true → phys_overlap r (gic_region c) ≡ false
  pub inv_cross_zone_non_gic_disjoint : (zid1 zid2 : ℕ) (zone1 zone2 : GhostZone) (r1 r2 : Region)
      → zones zid1 ≡ some zone1 → zones zid2 ≡ some zone2 → (zid1 ≡ zid2 → ⊥) → contains_region zone1 r1 ≡ true
      → contains_region zone2 r2 ≡ true → (r1 ≡ gic_region c → ⊥) → (r2 ≡ gic_region c → ⊥) → phys_overlap r1 r2 ≡ false

-- ---- the first state, and the six transitions: what each requires, and the state after it
abbrev pub initialize : State
initialize id = none

pub record add_zone_law (zid : ℕ) (pre post : State) : Type 0 where
  pub absent : pre zid ≡ none
  pub update : post ≡ map_insert pre zid (record { cpu_mem_set = empty_set; iommu_mem_set = empty_set })

pub record remove_zone (zid : ℕ) (pre post : State) : Type 0 where
  pub zone : GhostZone
  pub there : pre zid ≡ some zone
  pub update : post ≡ map_remove pre zid

pub record cpu_insert_region (l : Limits) (c : Configuration) (zid : ℕ) (region : Region) (pre post : State) : Type 0 where
  pub zone : GhostZone
  pub there : pre zid ≡ some zone
  pub valid : spec_valid l Cpu region
  pub allowed : cpu_insert_region_allowed c pre zid region
  pub absent : zone.cpu_mem_set region ≡ false
  pub apart : not_overlaps_vmem zone.cpu_mem_set region
  pub update : post ≡ map_insert pre zid
      (record { cpu_mem_set = insert_region zone.cpu_mem_set region; iommu_mem_set = zone.iommu_mem_set })

pub record cpu_remove_region (zid : ℕ) (region : Region) (pre post : State) : Type 0 where
  pub zone : GhostZone
  pub there : pre zid ≡ some zone
  pub held : zone.cpu_mem_set region ≡ true
  pub update : post ≡ map_insert pre zid
      (record { cpu_mem_set = remove_region_exact zone.cpu_mem_set region; iommu_mem_set = zone.iommu_mem_set })

pub record iommu_insert_region (l : Limits) (c : Configuration) (zid : ℕ) (region : Region) (pre post : State) : Type 0 where
  pub zone : GhostZone
  pub there : pre zid ≡ some zone
  pub valid : spec_valid l Iommu region
  pub allowed : iommu_insert_region_allowed c pre zid region
  pub absent : zone.iommu_mem_set region ≡ false
  pub apart : not_overlaps_vmem zone.iommu_mem_set region
  pub update : post ≡ map_insert pre zid
      (record { cpu_mem_set = zone.cpu_mem_set; iommu_mem_set = insert_region zone.iommu_mem_set region })

pub record iommu_remove_region (zid : ℕ) (region : Region) (pre post : State) : Type 0 where
  pub zone : GhostZone
  pub there : pre zid ≡ some zone
  pub held : zone.iommu_mem_set region ≡ true
  pub update : post ≡ map_insert pre zid
      (record { cpu_mem_set = zone.cpu_mem_set; iommu_mem_set = remove_region_exact zone.iommu_mem_set region })

-- ---- a table as a state, and a request as a transition
abbrev pub ghost_of : Zone → GhostZone
ghost_of z = record { cpu_mem_set = λ r. held_in r z.cpu; iommu_mem_set = λ r. held_in r z.iommu }

unfoldable pub state_of : List Zone → State
unfolding zone_in
state_of t id = map ghost_of (zone_in t id)

abbrev pub Transition : Limits → Configuration → Kind → ℕ → State → State → Type 0
Transition l c AddZone zid pre post = add_zone_law zid pre post
Transition l c RemoveZone zid pre post = remove_zone zid pre post
Transition l c (Insert Cpu region) zid pre post = cpu_insert_region l c zid region pre post
Transition l c (Insert Iommu region) zid pre post = iommu_insert_region l c zid region pre post
Transition l c (Remove Cpu region) zid pre post = cpu_remove_region zid region pre post
Transition l c (Remove Iommu region) zid pre post = iommu_remove_region zid region pre post
Transition l c NoRequest zid pre post = ⊥
