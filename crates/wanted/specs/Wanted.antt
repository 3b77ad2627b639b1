-- The list from two tables where configuration and tables are words.
use Rattle.std.specs.Prelude.{ℕ, ◌+◌, ◌≤◌, ◌<◌, cond, not, ◌≡◌, ltb, eqb, length, get_or, drop, Result, Ok, Err}
use mathlib.Core.List.{List, [], ◌∷◌, ◌++◌, flat_map}
use Rattle.rules.specs.Changes.{region_set}
use Rattle.rules.specs.Limits.{most_in_set, most_requests, highest_id, limits}
use Rattle.rules.specs.Plan.{Asked}
use Rattle.rules.specs.Regions.{no_region}
use Rattle.rules.specs.Requests.{find, present, held_in}
use Rattle.rules.specs.Tables.{side_of, Zone}
use Rattle.rules.specs.Wanted.{absent, records_of, listed, Listed}
use Rattle.rules.specs.declared.Region.{Region}
use Rattle.rules.specs.declared.Request.{Request}
use Rattle.rules.specs.declared.Side.{Side}
use Rattle.rules.specs.declared.Side.TheVariants.{Cpu, Iommu}
use Rattle.zones.specs.Kept.{standing_in}
use Rattle.zones.specs.Layout.{set_words, table_words, zone_base}
use Rattle.zones.specs.Records.{records_at}
use Rattle.zones.specs.View.{stored_config, stored_table, zone_in, zones_in}
use Rattle.zones.specs.Words.{Within}
use Rattle.rules.specs.declared.refusal.Refusal.{Refusal}
use Rattle.rules.specs.Numbers.{number}
use Rattle.wanted.specs.declared.list.Change.{Change}
use Rattle.wanted.specs.declared.list.Change.TheVariants.{Comes, Goes}

-- an answer in numbers: 0 with how many requests stand in the buffer, or what refuses, and none
pub record Listing : Type 0 where
  pub number : ℕ
  pub count : ℕ

abbrev pub listing : ℕ → ℕ → Listing
listing n k = record { number = n; count = k }

abbrev pub told : Result ℕ Refusal → Listing
told (Ok n) = listing 0 n
told (Err r) = listing (number r) 0

-- what becomes of the words of two tables and of a buffer
abbrev pub listed_in : List ℕ → List ℕ → List ℕ → List ℕ → Listed
listed_in c t w b = listed limits (stored_config c) (stored_table t) (stored_table w) b

-- o is answered, and v is what the buffer then is
pub record ListsIn (c t w b : List ℕ) (o : Listing) (v : List ℕ) : Type 0 where
  pub number : o.number ≡ (listed_in c t w b).number
  pub count : o.count ≡ (listed_in c t w b).count
  pub buffer : v ≡ (listed_in c t w b).buffer

-- ---- how the code goes about it
-- 1 or 2 of the one table, else 2 of the other
unfoldable pub own_number : List ℕ → List ℕ → List ℕ → ℕ
own_number c t w = cond (eqb (standing_in c t) 0) (standing_in c w) (standing_in c t)

-- counts within limits, and no id above the highest
pub record InLimits (w : List ℕ) : Type 0 where
  pub within : Within (zones_in w)
  pub ids : (z : ℕ) → z < length (zones_in w) → (zone_in w z).id ≤ highest_id

-- the list into the buffer b, which is then v: nothing but 29 and 28 refuses
pub record FillsIn (qs : List Request) (b : List ℕ) (o : Listing) (v : List ℕ) : Type 0 where
  pub answer : o
      ≡ cond (ltb most_requests (length qs)) (listing 29 0)
      (cond (ltb (length b) (length (records_of qs))) (listing 28 0) (listing 0 (length qs)))
  pub buffer : v
      ≡ cond (ltb most_requests (length qs)) b
      (cond (ltb (length b) (length (records_of qs))) b (records_of qs ++ drop (length (records_of qs)) b))

-- ---- the list in numbers, as loops over the two tables write it
abbrev pub numbers : ℕ → ℕ → Region → Asked
numbers kind id r = record { kind = kind; zone = id; region = r }

-- the kinds of what comes and what goes
abbrev pub zone_kind : Change → ℕ
zone_kind Comes = 1
zone_kind Goes = 2

abbrev pub region_kind : Change → Side → ℕ
region_kind Comes Cpu = 3
region_kind Goes Cpu = 4
region_kind Comes Iommu = 5
region_kind Goes Iommu = 6

-- a region that the set ys has not; those of a set xs; those of a zone; those of all zones
unfoldable pub lacked : ℕ → ℕ → List Region → Region → List Asked
lacked kind id ys r = cond (not (held_in r ys)) (numbers kind id r ∷ []) []

unfoldable pub set_asked : ℕ → ℕ → List Region → List Region → List Asked
set_asked kind id xs ys = flat_map (lacked kind id ys) xs

unfoldable pub zone_asked : Change → List Zone → Zone → List Asked
zone_asked x w z =
    set_asked (region_kind x Cpu) z.id (side_of Cpu z) (region_set w (find z.id w) Cpu)
    ++ set_asked (region_kind x Iommu) z.id (side_of Iommu z) (region_set w (find z.id w) Iommu)

unfoldable pub regions_asked : Change → List Zone → List Zone → List Asked
regions_asked x t w = flat_map (zone_asked x w) t

-- a zone that the table w has not; those of all zones
unfoldable pub missed : ℕ → List Zone → ℕ → List Asked
missed kind w id = cond (absent w id) (numbers kind id no_region ∷ []) []

unfoldable pub missed_zone : Change → List Zone → Zone → List Asked
missed_zone x w z = missed (zone_kind x) w z.id

unfoldable pub zones_asked : Change → List Zone → List Zone → List Asked
zones_asked x t w = flat_map (missed_zone x w) t

-- ---- among words
-- the set whose count stands in word k
unfoldable pub set_from : List ℕ → ℕ → List Region
set_from w k = records_at w (k + 1) (get_or w k 0)

-- those of the zone that begins at word k of w, whose like begins at word j of x
unfoldable pub sets_asked : Change → ℕ → List ℕ → ℕ → List ℕ → ℕ → List Asked
sets_asked y id w k x j =
    set_asked (region_kind y Cpu) id (set_from w (k + 1)) (set_from x (j + 1))
    ++ set_asked (region_kind y Iommu) id (set_from w (k + 1 + set_words)) (set_from x (j + 1 + set_words))

-- a zone begins at word k, or the words end there: its sets are within limits
pub record ZoneAt (w : List ℕ) (k : ℕ) : Type 0 where
  pub low : k ≤ table_words
  pub cpu : get_or w (k + 1) 0 ≤ most_in_set
  pub iommu : get_or w (k + 1 + set_words) 0 ≤ most_in_set

-- the word where the zone with that id begins; where the words end, if there is none
unfoldable pub start_of : List ℕ → ℕ → ℕ
start_of w id = cond (present id (zones_in w)) (zone_base (find id (zones_in w))) table_words
