-- Where things stand among words: the numbers of src/layout.rt.
use Rattle.std.specs.Prelude.{ℕ, ◌+◌, ◌*◌, cond, ltb}
use Rattle.rules.specs.declared.Side.{Side}
use Rattle.rules.specs.declared.Side.TheVariants.{Cpu, Iommu}
use Rattle.rules.specs.Fields.{region_numbers}
use Rattle.rules.specs.Limits.{most_regions, most_zones, most_in_set}

-- a record is a region's numbers
abbrev pub region_words : ℕ
region_words = region_numbers

-- a configuration is its count, the GIC's position, then its records
abbrev pub config_count : ℕ
config_count = 0

abbrev pub config_gic : ℕ
config_gic = 1

abbrev pub config_records : ℕ
config_records = 2

abbrev pub config_words : ℕ
config_words = config_records + most_regions * region_words

-- a set is its count, then its records; a zone is its id, then its CPU and its IOMMU set; a table is its count, then
-- its zones
abbrev pub set_words : ℕ
set_words = 1 + most_in_set * region_words

abbrev pub zone_words : ℕ
zone_words = 1 + 2 * set_words

abbrev pub table_words : ℕ
table_words = 1 + most_zones * zone_words

-- the first word of zone z, which is its id; that of a set, which is its count; that of record i of the set at b
abbrev pub zone_base : ℕ → ℕ
zone_base z = 1 + z * zone_words

-- the same for any number: past the last zone, the end of the words
unfoldable pub zone_start : ℕ → ℕ
zone_start z = cond (ltb z most_zones) (zone_base z) table_words

abbrev pub side_words : Side → ℕ
side_words Cpu = 1
side_words Iommu = 1 + set_words

unfoldable pub set_base : ℕ → Side → ℕ
set_base z s = 1 + z * zone_words + side_words s

abbrev pub record_base : ℕ → ℕ → ℕ
record_base b i = b + 1 + i * region_words
