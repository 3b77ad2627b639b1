-- Whose each configured position is, as a pass over a table finds it: the position of a zone, or none where no zone was
-- met that holds its region.
use Rattle.std.specs.Prelude.{ℕ, ◌<◌, true, List, Option, ◌≡◌, length, get_or}
use Rattle.std.specs.declared.option.Option.TheVariants.{None, Some}
use Rattle.lists.specs.First.{all}
use Rattle.rules.specs.Configuration.{Configuration}
use Rattle.rules.specs.Regions.{no_region}
use Rattle.rules.specs.Tables.{configured}
use Rattle.rules.specs.declared.Region.{Region}
use Rattle.rules.specs.declared.Side.{Side}
use Rattle.zones.specs.View.{record_in, set_in}

-- position k is the GIC's, or zone z's
unfoldable pub Owns : Configuration → List (Option ℕ) → ℕ → ℕ → Type 0
Owns c o z k = (k ≡ c.gic → ⊥) → get_or o k None ≡ Some z

-- such a position has region r
unfoldable pub Has : Configuration → List (Option ℕ) → ℕ → Region → Type 0
Has c o z r = (k : ℕ) × (k < length c.regions) × (r ≡ get_or c.regions k no_region) × Owns c o z k

-- what is somebody's stays so
unfoldable pub Keeps : List (Option ℕ) → List (Option ℕ) → Type 0
Keeps o p = (k z : ℕ) → get_or o k None ≡ Some z → get_or p k None ≡ Some z

-- zone z has the first n regions of a set; it has all of its own; each zone below n has
unfoldable pub HasSet : Configuration → List ℕ → List (Option ℕ) → ℕ → Side → ℕ → Type 0
HasSet c w o z s n = (i : ℕ) → i < n → Has c o z (record_in w z s i)

unfoldable pub HasZone : Configuration → List ℕ → List (Option ℕ) → ℕ → Type 0
HasZone c w o z = (s : Side) → HasSet c w o z s (length (set_in w z s))

unfoldable pub HasZones : Configuration → List ℕ → List (Option ℕ) → ℕ → Type 0
HasZones c w o n = (z : ℕ) → z < n → (s : Side) → HasSet c w o z s (length (set_in w z s))

-- every region of zone z is configured
abbrev pub ZoneConfigured : Configuration → List ℕ → ℕ → Type 0
ZoneConfigured c w z = (s : Side) → all (configured c) (set_in w z s) ≡ true
