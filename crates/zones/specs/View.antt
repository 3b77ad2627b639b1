-- What is stored in words.
use Rattle.std.specs.Prelude.{ℕ, ◌+◌, List, ◌≡◌, get_or}
use Rattle.lists.specs.Places.{tab}
use Rattle.rules.specs.Configuration.{config_of, check, Configuration, StoredConfig}
use Rattle.rules.specs.Limits.{most_regions, most_zones, most_in_set, limits}
use Rattle.rules.specs.Tables.{Zone, StoredSet, StoredZone, StoredTable}
use Rattle.rules.specs.declared.Checked.TheVariants.{Sound}
use Rattle.rules.specs.declared.Region.{Region}
use Rattle.rules.specs.declared.Side.{Side}
use Rattle.rules.specs.declared.Side.TheVariants.{Cpu, Iommu}
use Rattle.zones.specs.Layout.{config_count, config_gic, config_records, zone_base, set_base}
use Rattle.zones.specs.Records.{record_at, records_at}

-- ---- the configuration
-- its records, used or not
abbrev pub all_records : List ℕ → List Region
all_records w = records_at w config_records most_regions

abbrev pub stored_config : List ℕ → StoredConfig
stored_config w = record { count = get_or w config_count 0; gic = get_or w config_gic 0; records = all_records w }

-- the configuration that is stored
abbrev pub config_in : List ℕ → Configuration
config_in w = config_of (stored_config w)

-- the check finds it sound
abbrev pub ConfigPassed : List ℕ → Type 0
ConfigPassed w = check limits (stored_config w) ≡ Sound

-- ---- the table
-- the set whose count stands at word b
unfoldable pub stored_set : List ℕ → ℕ → StoredSet
stored_set w b = record { count = get_or w b 0; records = records_at w (b + 1) most_in_set }

unfoldable pub stored_zone : List ℕ → ℕ → StoredZone
stored_zone w z = record {
  id = get_or w (zone_base z) 0;
  cpu = stored_set w (set_base z Cpu);
  iommu = stored_set w (set_base z Iommu);
}

unfoldable pub stored_table : List ℕ → StoredTable
stored_table w = record { count = get_or w 0 0; zones = tab most_zones (stored_zone w) }

-- ---- the same as readers find it, whatever the counts are
-- record i of a side of zone z
unfoldable pub record_in : List ℕ → ℕ → Side → ℕ → Region
record_in w z s i = record_at w (set_base z s + 1) i

-- the set of a side of zone z
unfoldable pub set_in : List ℕ → ℕ → Side → List Region
set_in w z s = records_at w (set_base z s + 1) (get_or w (set_base z s) 0)

unfoldable pub zone_in : List ℕ → ℕ → Zone
zone_in w z = record { id = get_or w (zone_base z) 0; cpu = set_in w z Cpu; iommu = set_in w z Iommu }

unfoldable pub zones_in : List ℕ → List Zone
zones_in w = tab (get_or w 0 0) (zone_in w)
