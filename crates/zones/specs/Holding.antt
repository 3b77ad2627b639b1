-- Which zones hold a region: how the check tells that two zones share none.
use Rattle.std.specs.Prelude.{ℕ, ◌+◌, ◌-◌, Bool, not, ◌&&◌, ◌||◌, List, [], ◌∷◌, eqb, length, get_or}
use Rattle.lists.specs.First.{first_index, any, all}
use Rattle.lists.specs.Pairs.{pairwise}
use Rattle.lists.specs.Places.{places}
use Rattle.lists.specs.Tests.{all_of}
use Rattle.rules.specs.Configuration.{Configuration}
use Rattle.rules.specs.Regions.{region_eq, no_region}
use Rattle.rules.specs.Tables.{no_zone, has_id, regions_of, guest_apart, off_gic, modest, Zone}
use Rattle.rules.specs.declared.Region.{Region}
use Rattle.rules.specs.declared.Side.{Side}
use Rattle.rules.specs.declared.Side.TheVariants.{Cpu, Iommu}
use Rattle.zones.specs.View.{record_in, set_in, zone_in}

-- the zone holds the region, on either side
unfoldable pub holds : Region → Zone → Bool
holds r z = any (region_eq r) (regions_of z)

-- of any two zones at most one holds it
unfoldable pub held_once : Region → List Zone → Bool
held_once r t = pairwise (λ (y z : Zone). not (holds r y && holds r z)) t

-- configured region k is the GIC, or is held by at most one zone
unfoldable pub held_at : Configuration → List Zone → ℕ → Bool
held_at c t k = eqb k c.gic || held_once (get_or c.regions k no_region) t

-- so is every configured region
unfoldable pub held_apart : Configuration → List Zone → Bool
held_apart c t = all (held_at c t) (places 0 (length c.regions))

-- the id at z is that of no earlier zone
unfoldable pub new_id : List Zone → ℕ → Bool
new_id t z = eqb (first_index (has_id (get_or t z no_zone).id) t) z

-- how the regions of the two sets are used: none of the CPU's overlaps the GIC, and none has too many rights
unfoldable pub used_well : Configuration → List Region → List Region → Bool
used_well c cpu iommu = all_of (all (off_gic c) cpu ∷ all (modest Cpu) cpu ∷ all (modest Iommu) iommu ∷ [])

-- ---- tests place by place
-- of record i of a set, of zone z
unfoldable pub at_record : (Region → Bool) → List ℕ → ℕ → Side → ℕ → Bool
at_record p w z s i = p (record_in w z s i)

unfoldable pub at_zone : (Zone → Bool) → List ℕ → ℕ → Bool
at_zone p w z = p (zone_in w z)

-- records i and j of a set do not overlap in guest addresses; record i overlaps no later one
unfoldable pub apart_from : List ℕ → ℕ → Side → ℕ → ℕ → Bool
apart_from w z s i j = guest_apart (record_in w z s i) (record_in w z s j)

unfoldable pub apart_after : List ℕ → ℕ → Side → ℕ → Bool
apart_after w z s i = all (apart_from w z s i) (places (i + 1) (length (set_in w z s) - (i + 1)))
