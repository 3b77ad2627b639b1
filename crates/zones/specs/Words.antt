-- The words of a table and of a configuration: what stands at each place, and zeros in what is free.
use Rattle.std.specs.Prelude.{ℕ, ◌≤◌, ◌<◌, ◌≡◌, length, get_or}
use mathlib.Core.List.{List, ◌∷◌, ◌++◌, flat_map}
use Rattle.lists.specs.Room.{room}
use Rattle.lists.specs.Words.{counted, cleared}
use Rattle.rules.specs.declared.Region.{Region}
use Rattle.rules.specs.declared.Side.{Side}
use Rattle.rules.specs.Configuration.{Configuration}
use Rattle.rules.specs.Limits.{most_regions, most_zones, most_in_set}
use Rattle.rules.specs.Regions.{no_region}
use Rattle.rules.specs.Tables.{Zone, no_zone}
use Rattle.rules.specs.Changes.{region_set}
use Rattle.zones.specs.Layout.{zone_start}
use Rattle.zones.specs.Records.{words_of_region}
use Rattle.zones.specs.View.{zones_in}

unfoldable pub words_of_set : List Region → List ℕ
words_of_set xs = counted most_in_set no_region words_of_region xs

unfoldable pub words_of_zone : Zone → List ℕ
words_of_zone z = z.id ∷ (words_of_set z.cpu ++ words_of_set z.iommu)

unfoldable pub words_of : List Zone → List ℕ
words_of t = counted most_zones no_zone words_of_zone t

-- those of a configuration: its count, the GIC's position, its records and zeros
unfoldable pub words_of_config : Configuration → List ℕ
words_of_config c = length c.regions ∷ c.gic ∷ flat_map words_of_region (room most_regions no_region c.regions)

-- counts within limits
pub record Within (t : List Zone) : Type 0 where
  pub zones : length t ≤ most_zones
  pub sets : (z : ℕ) (s : Side) → z < length t → length (region_set t z s) ≤ most_in_set

-- words that are those of the table that they hold: counts within limits, and zeros in what is free
pub record Packed (w : List ℕ) : Type 0 where
  pub within : Within (zones_in w)
  pub words : w ≡ words_of (zones_in w)

-- the words with zeros up to where the unused zones begin
unfoldable pub emptied : List ℕ → List ℕ
emptied w = cleared w 0 (zone_start (get_or w 0 0))
