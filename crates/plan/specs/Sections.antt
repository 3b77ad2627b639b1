-- What the readers of sections answer, of what the format reads: n is the number of lent bytes, and an offset is that
-- of what is left.
use Rattle.std.specs.Prelude.{ℕ, Result, ◌+◌, ◌-◌, ◌*◌, ◌/◌, cond, ltb, List, ◌≡◌, Ok, Err, length, replicate}
use Rattle.formats.specs.Formats.{Out, got, bad, Format, listed}
use Rattle.rules.specs.Limits.{limits}
use Rattle.rules.specs.Plan.{short, regions_section, zones_section, Marks as PlanMarks}
use Rattle.rules.specs.Tables.{Zone}
use Rattle.rules.specs.declared.Region.{Region}
use Rattle.zones.specs.Layout.{config_words, table_words}
use Rattle.zones.specs.declared.config.Config.{Config}
use Rattle.zones.specs.declared.table.Table.{Table}
use Rattle.zones.specs.Words.{words_of_config, words_of}
use Rattle.plan.specs.Told.{Told, told, answer_by}
use Rattle.plan.specs.declared.refused.Refused.{Refused}
use Rattle.plan.specs.declared.sections.Marks.{Marks}
use Rattle.plan.specs.declared.sections.Regions.{Regions}
use Rattle.plan.specs.declared.sections.Zones.{Zones}

abbrev pub marks_answer : ℕ → Out PlanMarks → Told Marks
marks_answer n o = answer_by (λ m left. record { gic = m.gic; edition = m.edition }) n o

-- where a section ends
abbrev pub section_answer : {A : Type 0} → ℕ → Out A → Told ℕ
section_answer n o = answer_by (λ x left. n - length left) n o

-- numbers after their count, which must be n
abbrev pub numbers_section : ℕ → Format (List ℕ)
numbers_section n = listed 4 n n short

-- fields of one width, w bytes, behind a count at byte `at` of n: the first that is cut, or where all end
unfoldable pub fields_answer : ℕ → ℕ → ℕ → Out ℕ → Told ℕ
fields_answer w n at (got count left) =
    cond (ltb ((n - (at + 4)) / w) count) (Err (20, at + 4 + (n - (at + 4)) / w * w)) (Ok (at + 4 + count * w))
fields_answer w n at (bad k left) = Err (k, n - length left)

-- n bytes reach a place, or are cut at their end
unfoldable pub reached : ℕ → ℕ → Told (Unit {0})
reached n place = cond (ltb n place) (Err (20, n)) (Ok tt)

-- zeros, where there is nothing to give
abbrev pub no_config : Config
no_config = record { words = replicate config_words 0 }

abbrev pub no_table : Table
no_table = record { words = replicate table_words 0 }

-- the words of what was read
abbrev pub config_for : ℕ → List Region → Config
config_for gic rs = record { words = words_of_config (record { regions = rs; gic = gic }) }

abbrev pub table_for : List Zone → Table
table_for zs = record { words = words_of zs }

unfoldable pub config_answer : ℕ → Out (List Region) → Config
config_answer gic (got rs left) = config_for gic rs
config_answer gic (bad k left) = no_config

unfoldable pub table_answer : Out (List Zone) → Table
table_answer (got zs left) = table_for zs
table_answer (bad k left) = no_table

abbrev pub regions_answer : ℕ → ℕ → Out (List Region) → Told Regions
regions_answer gic n o = answer_by (λ rs left. record { end = n - length left; config = config_for gic rs }) n o

abbrev pub zones_answer : ℕ → Out (List Zone) → Told Zones
zones_answer n o = answer_by (λ zs left. record { end = n - length left; table = table_for zs }) n o

-- ---- the same into lent words, of which w is what they then are
pub record RegionsIn (gic : ℕ) (s : List ℕ) (r : Result ℕ Refused) (w : List ℕ) : Type 0 where
  pub section : told r ≡ section_answer (length s) ((regions_section limits).read s)
  pub words : w ≡ (config_answer gic ((regions_section limits).read s)).words

pub record ZonesIn (s : List ℕ) (r : Result ℕ Refused) (w : List ℕ) : Type 0 where
  pub section : told r ≡ section_answer (length s) ((zones_section limits).read s)
  pub words : w ≡ (table_answer ((zones_section limits).read s)).words
