-- Upstream's BudgetSpec, with its names (- stands for their _) and the order of its clauses, on the types of ClosureSpec.
-- Its zone-ids are the map's keys, as there. Four of its six transitions are those of ClosureSpec word for word, and
-- are taken from there.
use Rattle.std.specs.Prelude.{ℕ, true, false, [], ◌∷◌, ◌⊎◌, ◌≡◌, leb, eqb}
use Rattle.std.proofs.Math.Option.{some}
use Rattle.lists.specs.Tests.{all_of}
use Rattle.rules.specs.Closure.{insert_region, not_overlaps_vmem, wf, map_insert, gic_region, add_zone_law}
use Rattle.rules.specs.Closure.{remove_zone}
use Rattle.rules.specs.Closure.{cpu_remove_region, iommu_remove_region, RegionSet, State, GhostZone}
use Rattle.rules.specs.Limits.{highest_id, Limits}
use Rattle.rules.specs.Owners.{owner_of, Owned}
use Rattle.rules.specs.Tables.{configured}
use Rattle.rules.specs.declared.Kind.{Kind}
use Rattle.rules.specs.declared.Kind.TheVariants.{AddZone, RemoveZone, Insert, Remove, NoRequest}
use Rattle.rules.specs.declared.Region.{Region}
use Rattle.rules.specs.declared.Side.TheVariants.{Cpu, Iommu}

-- ---- the configuration: zone_regions is not interpreted upstream; here it is the configured regions that a zone owns
unfoldable pub zone_regions : Owned → ℕ → RegionSet
zone_regions o zid r = all_of (leb zid highest_id ∷ configured o.config r ∷ eqb (owner_of o r) zid ∷ [])

-- ---- the invariants; inv_zone_ids says that the other field is the map's keys, which is how it is read here
pub record Invariants (l : Limits) (o : Owned) (zones : State) : Type 0 where
  pub inv_zones_wf : (zid : ℕ) (zone : GhostZone) → zones zid ≡ some zone → wf l zone
  pub inv_cpu_in_zone_regions : (zid : ℕ) (zone : GhostZone) (r : Region) → zones zid ≡ some zone
      → zone.cpu_mem_set r ≡ true → zone_regions o zid r ≡ true
  pub inv_iommu_in_zone_regions : (zid : ℕ) (zone : GhostZone) (r : Region) → zones zid ≡ some zone
      → zone.iommu_mem_set r ≡ true → (zone_regions o zid r ≡ true) ⊎ (r ≡ gic_region o.config)

-- ---- the transitions that differ: what each requires, and the state after it
pub record cpu_insert_region (o : Owned) (zid : ℕ) (region : Region) (pre post : State) : Type 0 where
  pub zone : GhostZone
  pub there : pre zid ≡ some zone
  pub allowed : zone_regions o zid region ≡ true
  pub absent : zone.cpu_mem_set region ≡ false
  pub apart : not_overlaps_vmem zone.cpu_mem_set region
  pub update : post ≡ map_insert pre zid
      (record { cpu_mem_set = insert_region zone.cpu_mem_set region; iommu_mem_set = zone.iommu_mem_set })

pub record iommu_insert_region (o : Owned) (zid : ℕ) (region : Region) (pre post : State) : Type 0 where
  pub zone : GhostZone
  pub there : pre zid ≡ some zone
  pub allowed : (zone_regions o zid region ≡ true) ⊎ (region ≡ gic_region o.config)
  pub absent : zone.iommu_mem_set region ≡ false
  pub apart : not_overlaps_vmem zone.iommu_mem_set region
  pub update : post ≡ map_insert pre zid
      (record { cpu_mem_set = zone.cpu_mem_set; iommu_mem_set = insert_region zone.iommu_mem_set region })

-- a request as a transition
abbrev pub Transition : Owned → Kind → ℕ → State → State → Type 0
Transition o AddZone zid pre post = add_zone_law zid pre post
Transition o RemoveZone zid pre post = remove_zone zid pre post
Transition o (Insert Cpu region) zid pre post = cpu_insert_region o zid region pre post
Transition o (Insert Iommu region) zid pre post = iommu_insert_region o zid region pre post
Transition o (Remove Cpu region) zid pre post = cpu_remove_region zid region pre post
Transition o (Remove Iommu region) zid pre post = iommu_remove_region zid region pre post
Transition o NoRequest zid pre post = ⊥
