-- Bytes held against words: what the format reads there passes a test, or it does not.
use Rattle.std.specs.Prelude.{ℕ, Option, ◌+◌, ◌-◌, ◌*◌, Bool, cond, List, [], ◌∷◌, eqb, Some, None, is_some, length, get_or}
use Rattle.lists.specs.Tests.{all_of}
use Rattle.formats.specs.Formats.{Out, got, bad, Format, both}
use Rattle.rules.specs.Applying.{same_list, same_zone}
use Rattle.rules.specs.Fields.{region_size}
use Rattle.rules.specs.Limits.{limits}
use Rattle.rules.specs.Plan.{set_format, regions_section, zones_section}
use Rattle.rules.specs.Regions.{region_eq}
use Rattle.rules.specs.Run.{region_in}
use Rattle.rules.specs.declared.Region.{Region}
use Rattle.zones.specs.Layout.{set_words, config_count, config_gic, config_records}
use Rattle.zones.specs.Records.{record_at, records_at}
use Rattle.zones.specs.View.{zones_in}

-- where what was read ends, if it passes the test: n is the number of lent bytes
unfoldable pub held_answer : {A : Type 0} → ℕ → (A → Bool) → Out A → Option ℕ
held_answer n p (got x left) = cond (p x) (Some (n - length left)) None
held_answer n p (bad k left) = None

-- record i of those from word a on is region i of those from byte `at` on
unfoldable pub same_record : List ℕ → ℕ → List ℕ → ℕ → ℕ → Bool
same_record s at w a i = region_eq (record_at w a i) (region_in s (at + i * region_size))

-- the count in word k, and the records from word a on
unfoldable pub holds_regions : List ℕ → ℕ → ℕ → List Region → Bool
holds_regions w k a xs = same_list region_eq (records_at w a (get_or w k 0)) xs

-- the two sets from word k on
abbrev pub two_sets : Format (List Region × List Region)
two_sets = both (set_format limits) (set_format limits)

unfoldable pub holds_sets : List ℕ → ℕ → List Region × List Region → Bool
holds_sets w k y = all_of (holds_regions w k (k + 1) y.0 ∷ holds_regions w (k + set_words) (k + set_words + 1) y.1 ∷ [])

-- the bytes from the regions' count on, and the GIC's position, are those of the configuration in the words w
unfoldable pub config_held : List ℕ → ℕ → List ℕ → Bool
config_held s gic w =
    all_of (is_some (held_answer (length s) (holds_regions w config_count config_records) ((regions_section limits).read s))
    ∷ eqb (get_or w config_gic 0) gic ∷ [])

-- the bytes from the zones' count on are those of the zones in the words w
unfoldable pub table_held : List ℕ → List ℕ → Bool
table_held s w = is_some (held_answer (length s) (same_list same_zone (zones_in w)) ((zones_section limits).read s))
