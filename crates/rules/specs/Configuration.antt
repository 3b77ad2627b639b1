-- The configuration: the regions that zones may be given, and which of them is the GIC; and its check.
use Rattle.std.specs.Prelude.{ℕ, Bool, true, false, not, ◌||◌, ltb, leb, eqb, get_or, take, drop}
use mathlib.Core.List.{List, [], ◌∷◌, flat_map}
use Rattle.lists.specs.First.{first_index, first_from, any}
use Rattle.lists.specs.Places.{places}
use Rattle.lists.specs.Room.{room}
use Rattle.lists.specs.Rules.{Rule, ◌when◌, first_rule}
use Rattle.rules.specs.declared.Region.{Region}
use Rattle.rules.specs.declared.Checked.{Checked}
use Rattle.rules.specs.declared.Checked.TheVariants.{Sound, BadCount, BadGic, NotZero, Malformed, OutOfReach, Overlap}
use Rattle.rules.specs.Limits.{Limits}
use Rattle.rules.specs.Regions.{well_formed, in_reach, phys_overlap, no_region, used}

-- a configuration: its regions, and the GIC's position among them
pub record Configuration : Type 0 where
  pub regions : List Region
  pub gic : ℕ

-- the GIC
unfoldable pub gic_of : Configuration → Region
gic_of c = get_or c.regions c.gic no_region

-- a configuration as it is stored: a count, the GIC's position, and a record for each of the regions that there is room for
pub record StoredConfig : Type 0 where
  pub count : ℕ
  pub gic : ℕ
  pub records : List Region

-- the configuration that is stored
unfoldable pub config_of : StoredConfig → Configuration
config_of s = record { regions = room s.count no_region s.records; gic = s.gic }

-- ---- the check
-- at position i: C4 not well formed, C5 out of reach, C6 physical overlap with an earlier position, and the lowest such
unfoldable pub position_rules : Limits → List Region → ℕ → List (Rule Checked)
position_rules l records i =
    let r = get_or records i no_region in
    let earlier = take i records in
    Malformed i when not (well_formed l.page r)
    ∷ OutOfReach i when not (in_reach l r)
    ∷ Overlap i (first_index (phys_overlap r) earlier) when any (phys_overlap r) earlier
    ∷ []

-- C1 count 0 or above the limit; C2 GIC position not below the count
abbrev pub wrong_count : Limits → StoredConfig → Bool
wrong_count l s = eqb s.count 0 || ltb l.regions s.count

abbrev pub wrong_gic : StoredConfig → Bool
wrong_gic s = leb s.count s.gic

-- the positions upward
abbrev pub fault_rules : Limits → StoredConfig → List (Rule Checked)
fault_rules l s = flat_map (position_rules l s.records) (places 0 s.count)

-- C1, C2; C3 a record past the count not all zero; then the positions
unfoldable pub check_rules : Limits → StoredConfig → List (Rule Checked)
check_rules l s =
    BadCount when wrong_count l s
    ∷ BadGic when wrong_gic s
    ∷ NotZero (first_from used s.records s.count) when any used (drop s.count s.records)
    ∷ fault_rules l s

-- the first that applies
unfoldable pub check : Limits → StoredConfig → Checked
check l s = first_rule (check_rules l s) Sound

-- it finds nothing
unfoldable pub is_sound : Checked → Bool
is_sound Sound = true
is_sound BadCount = false
is_sound BadGic = false
is_sound (NotZero k) = false
is_sound (Malformed i) = false
is_sound (OutOfReach i) = false
is_sound (Overlap i k) = false

-- ---- the number of each answer, and its places: 0 where one is not used
abbrev pub check_number : Checked → ℕ
check_number Sound = 0
check_number BadCount = 1
check_number BadGic = 2
check_number (NotZero k) = 3
check_number (Malformed i) = 4
check_number (OutOfReach i) = 5
check_number (Overlap i k) = 6

abbrev pub check_place : Checked → ℕ
check_place Sound = 0
check_place BadCount = 0
check_place BadGic = 0
check_place (NotZero k) = k
check_place (Malformed i) = i
check_place (OutOfReach i) = i
check_place (Overlap i k) = i

abbrev pub check_earlier : Checked → ℕ
check_earlier Sound = 0
check_earlier BadCount = 0
check_earlier BadGic = 0
check_earlier (NotZero k) = 0
check_earlier (Malformed i) = 0
check_earlier (OutOfReach i) = 0
check_earlier (Overlap i k) = k
