-- The writer where configuration and table are words and the requests are bytes.
use Rattle.std.specs.Prelude.{ℕ, ◌+◌, ◌*◌, ◌^◌, ◌≤◌, ◌<◌, cond, List, ◌++◌, ◌≡◌, eqb, length, get_or}
use Rattle.lists.specs.Bytes.{bytes_of}
use Rattle.formats.specs.Formats.{write_many}
use Rattle.rules.specs.Applying.{plain, Terminal}
use Rattle.rules.specs.Differing.{write_zones}
use Rattle.rules.specs.Filling.{Filled}
use Rattle.rules.specs.Limits.{most_regions, most_zones, most_in_set, limits}
use Rattle.rules.specs.Plan.{region_field}
use Rattle.rules.specs.Planner.{plan_bytes}
use Rattle.rules.specs.Requests.{standing}
use Rattle.rules.specs.Writer.{write, asked_of}
use Rattle.rules.specs.declared.Outcome.{Outcome}
use Rattle.zones.specs.Layout.{region_words, set_words, zone_base}
use Rattle.zones.specs.Records.{records_at}
use Rattle.zones.specs.View.{stored_config, stored_table}
use Rattle.plan.specs.Applying.{terminal_in, state_in}

-- the terminal whose state the words are
abbrev pub lent_in : List ℕ → List ℕ → ℕ → Terminal
lent_in c t e = terminal_in (state_in c t e)

-- what the writer does with what is lent
abbrev pub writes_in : List ℕ → List ℕ → ℕ → List ℕ → List ℕ → Filled
writes_in c t e r w = write limits (lent_in c t e) (asked_of r) w

-- o is answered; u and v are what the table and the buffer then are
pub record WritesIn (c t : List ℕ) (e : ℕ) (r w : List ℕ) (o : Outcome) (u v : List ℕ) : Type 0 where
  pub answer : o ≡ (writes_in c t e r w).outcome
  pub buffer : v ≡ (writes_in c t e r w).buffer
  pub table : u ≡ t

-- what becomes of a terminal's zones
abbrev pub writes_zones_in : List ℕ → List ℕ → List ℕ → Filled
writes_zones_in c t w = write_zones limits (stored_config c) (stored_table t) w

-- o is answered, and v is what the buffer then is
pub record WritesZonesIn (c t w : List ℕ) (o : Outcome) (v : List ℕ) : Type 0 where
  pub answer : o ≡ (writes_zones_in c t w).outcome
  pub buffer : v ≡ (writes_zones_in c t w).buffer

-- ---- how the code goes about it
-- the plan's bytes
abbrev pub plan_in : List ℕ → List ℕ → ℕ → List ℕ → List ℕ
plan_in c t e r = plan_bytes limits (lent_in c t e) (asked_of r)

-- 1 or 2, else 25
unfoldable pub no_next : List ℕ → List ℕ → Outcome
no_next c t =
    cond (eqb (standing limits (stored_config c) (stored_table t)) 0) (plain 25 0)
    (plain (standing limits (stored_config c) (stored_table t)) 0)

-- a count in word k and as many regions from word a on, as bytes
unfoldable pub set_bytes : List ℕ → ℕ → ℕ → List ℕ
set_bytes w k a = bytes_of 4 (get_or w k 0) ++ write_many region_field (records_at w a (get_or w k 0))

-- they are there, and no more than a configuration has
pub record SetFits (w : List ℕ) (k a : ℕ) : Type 0 where
  pub here : k < length w
  pub few : get_or w k 0 ≤ most_regions
  pub inside : a + get_or w k 0 * region_words ≤ length w

-- the zone whose id stands in word k, as bytes: the id, and the two sets
unfoldable pub zone_bytes : List ℕ → ℕ → List ℕ
zone_bytes w k = bytes_of 4 (get_or w k 0) ++ (set_bytes w (k + 1) (k + 2) ++ set_bytes w (k + 1 + set_words) (k + 2 + set_words))

-- it is there, with an id that its field can say and sets within limits
pub record ZoneAt (w : List ℕ) (k : ℕ) : Type 0 where
  pub here : k + 2 * set_words < length w
  pub id : get_or w k 0 < 256 ^ 4
  pub cpu : SetFits w (k + 1) (k + 2)
  pub cpu_few : get_or w (k + 1) 0 ≤ most_in_set
  pub iommu : SetFits w (k + 1 + set_words) (k + 2 + set_words)
  pub iommu_few : get_or w (k + 1 + set_words) 0 ≤ most_in_set

pub record TableFits (w : List ℕ) : Type 0 where
  pub here : 0 < length w
  pub few : get_or w 0 0 ≤ most_zones
  pub zones : (z : ℕ) → z < get_or w 0 0 → ZoneAt w (zone_base z)
