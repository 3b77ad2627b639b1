-- Where a plan's base differs: two unequal zones sections differ at a byte that both have; so where a plan is answered
-- 26, the part that is handed back begins with a byte of the plan beside which the terminal has another.
use Rattle.std.specs.Prelude.{ℕ, ◌-◌, ◌≤◌, ◌<◌, List, [], ◌++◌, ◌↔◌, ◌≡◌, length, get_or, drop}
use Rattle.lists.specs.Alike.{alike, FirstLack}
use Rattle.lists.specs.Bytes.{Bytes}
use Rattle.lists.specs.Lines.{FirstOf, Exactly}
use Rattle.formats.specs.Formats.{got}
use Rattle.rules.specs.Applying.{plain, apply, Terminal}
use Rattle.rules.specs.Configuration.{StoredConfig}
use Rattle.rules.specs.Differing.{zones_bytes, write_zones, zones_of, lacking_part}
use Rattle.rules.specs.Limits.{Limits, Sayable}
use Rattle.rules.specs.Plan.{zones_section, read_plan, Plan}
use Rattle.rules.specs.Requests.{standing}
use Rattle.rules.specs.Sizes.{longest_size}
use Rattle.rules.specs.Tables.{table_of, Zone, StoredTable}
use Rattle.rules.specs.declared.Outcome.{Outcome}
use Rattle.promises.specs.Answers.{standing_lines}
use Rattle.promises.specs.Filling.{Fills}

-- ---- any two stretches
-- where the part begins
abbrev pub part_at : List ℕ → List ℕ → ℕ
part_at b c = length b - length (lacking_part b c)

pub record PartIs (b c : List ℕ) : Type 0 where
  -- it is the rest of the first stretch from a place on: the first where the second lacks the same byte
  pub rest : lacking_part b c ≡ drop (part_at b c) b
  pub first : FirstLack b c (part_at b c)
  -- and no other place is the first
  pub only : (k : ℕ) → FirstLack b c k → k ≡ part_at b c
  -- it is empty exactly where the second stretch begins with the first
  pub empty : (lacking_part b c ≡ []) ↔ ((t : List ℕ) × (c ≡ b ++ t))

abbrev pub PartsAre : Type 0
PartsAre = (b c : List ℕ) → PartIs b c

-- ---- proper sections: stretches that read whole as zones
abbrev pub IsSection : Limits → List ℕ → Type 0
IsSection l b = Bytes b × ((zs : List Zone) × ((zones_section l).read b ≡ got zs []))

-- the part begins with a byte of the first, and the second has another there
pub record BothHave (b c : List ℕ) : Type 0 where
  pub first : part_at b c < length b
  pub second : part_at b c < length c
  pub other : get_or c (part_at b c) 0 ≡ get_or b (part_at b c) 0 → ⊥

abbrev pub SectionsDiffer : Limits → Type 0
SectionsDiffer l = (b c : List ℕ) → IsSection l b → IsSection l c → (b ≡ c → ⊥) → BothHave b c

-- ---- a terminal and a plan
pub record SectionsOf (l : Limits) : Type 0 where
  -- the zones of a state that stands are a proper section, which reads back to them; its configuration has a record for
  -- each region that there is room for
  pub terminal : Sayable l → (c : StoredConfig) (t : StoredTable) → length c.records ≡ l.regions
      → standing l c t ≡ 0
      → Bytes (zones_bytes l t) × ((zones_section l).read (zones_bytes l t) ≡ got (table_of t) [])
  -- and so is that of a plan, which reads to the plan's zones
  pub plan : (b : List ℕ) (p : Plan) → Bytes b → read_plan l b ≡ got p []
      → Bytes (zones_of l b) × ((zones_section l).read (zones_of l b) ≡ got p.zones [])

-- a plan that is answered 26 has a byte in its zones section beside which the terminal's has another
abbrev pub TwentySixIsShown : Limits → Type 0
TwentySixIsShown l =
    Sayable l → (s : Terminal) (b : List ℕ) → length s.config.records ≡ l.regions → Bytes b
    → (apply l s b).outcome.number ≡ 26
    → BothHave (zones_of l b) (zones_bytes l s.table)

-- the place of the part is the number of bytes that the two have alike
abbrev pub PlaceIsAlike : Type 0
PlaceIsAlike = (b c : List ℕ) → alike b c ≡ part_at b c

-- ---- the terminal's section in a lent buffer
-- 1, 2; then 28 where the section is longer than the buffer; or 0 and its length
pub data Told (b : List ℕ) (room : ℕ) : Outcome → Type 0 where
  short : room < length b → Told b room (plain 28 0)
  fits : length b ≤ room → Told b room (plain 0 (length b))

pub record ZonesAreWritten (l : Limits) : Type 0 where
  pub exact : (c : StoredConfig) (t : StoredTable) (w : List ℕ)
      → Exactly (write_zones l c t w).outcome
      (FirstOf (standing_lines (λ n. plain n 0) l c t) (Told (zones_bytes l t) (length w)))
  -- a refusal changes no byte
  pub refusal : (c : StoredConfig) (t : StoredTable) (w : List ℕ) → ((write_zones l c t w).outcome.number ≡ 0 → ⊥)
      → (write_zones l c t w).buffer ≡ w
  -- success changes exactly the section's length from the buffer's start
  pub success : (c : StoredConfig) (t : StoredTable) (w : List ℕ) → (write_zones l c t w).outcome.number ≡ 0
      → Fills (zones_bytes l t) w (write_zones l c t w).outcome (write_zones l c t w).buffer

-- a buffer of the longest plan's length is never too short; a stored configuration has a record for each region that
-- there is room for
abbrev pub ZonesLongestSuffices : Limits → Type 0
ZonesLongestSuffices l =
    Sayable l → (c : StoredConfig) (t : StoredTable) (w : List ℕ) → length c.records ≡ l.regions
    → longest_size l ≤ length w → (write_zones l c t w).outcome.number ≡ 28 → ⊥
