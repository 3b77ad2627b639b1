-- What an accepted request does to a table. All else stays, and so does the order.
use Rattle.std.specs.Prelude.{ℕ, List, [], ◌∷◌, ◌++◌, get_or, set}
use Rattle.lists.specs.Room.{remove_at}
use Rattle.rules.specs.declared.Region.{Region}
use Rattle.rules.specs.declared.Side.{Side}
use Rattle.rules.specs.declared.Side.TheVariants.{Cpu, Iommu}
use Rattle.rules.specs.Tables.{Zone, empty_zone, no_zone, side_of}

-- the set of a side of the zone at position z
unfoldable pub region_set : List Zone → ℕ → Side → List Region
region_set t z s = side_of s (get_or t z no_zone)

-- a zone, and a table, with another set there
unfoldable pub with_side : Side → List Region → Zone → Zone
with_side Cpu xs z = record { id = z.id; cpu = xs; iommu = z.iommu }
with_side Iommu xs z = record { id = z.id; cpu = z.cpu; iommu = xs }

unfoldable pub put_set : ℕ → Side → List Region → List Zone → List Zone
put_set z s xs t = set t z (with_side s xs (get_or t z no_zone))

-- add appends an empty zone
unfoldable pub added : ℕ → List Zone → List Zone
added id t = t ++ empty_zone id ∷ []

-- insert appends to the set
unfoldable pub pushed : ℕ → Side → Region → List Zone → List Zone
pushed z s r t = put_set z s (region_set t z s ++ r ∷ []) t

-- removal closes the gap and keeps order: of region i in a set, and of the zone at z
unfoldable pub cut : ℕ → Side → ℕ → List Zone → List Zone
cut z s i t = put_set z s (remove_at i (region_set t z s)) t

unfoldable pub dropped : ℕ → List Zone → List Zone
dropped z t = remove_at z t
