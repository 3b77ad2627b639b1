-- Requests decided on: refused with a number, or a change to the table; and the change made.
use Rattle.std.specs.Prelude.{ℕ, ◌<◌, Bool, true, not, ◌&&◌, List, [], ◌∷◌, map, ◌≡◌, ltb, length, Result, Ok, Err}
use Rattle.lists.specs.First.{first_index, any}
use Rattle.lists.specs.Rules.{Rule, ◌when◌, first_rule}
use Rattle.rules.specs.Changes.{region_set, added, pushed, cut, dropped}
use Rattle.rules.specs.Configuration.{gic_of, Configuration}
use Rattle.rules.specs.Limits.{most_zones, highest_id, most_in_set, limits}
use Rattle.rules.specs.Numbers.{number}
use Rattle.rules.specs.Regions.{region_eq}
use Rattle.rules.specs.Requests.{find, present, others, on_gic, add_rules, remove_zone_rules, insert_rules, remove_rules}
use Rattle.rules.specs.Tables.{excessive, sound, Zone}
use Rattle.rules.specs.declared.Kind.{Kind}
use Rattle.rules.specs.declared.Kind.TheVariants.{AddZone, RemoveZone, Insert, Remove, NoRequest}
use Rattle.rules.specs.declared.Region.{Region}
use Rattle.rules.specs.declared.Request.{Request}
use Rattle.rules.specs.declared.Side.{Side}
use Rattle.rules.specs.declared.refusal.Refusal.{Refusal}
use Rattle.zones.specs.Holding.{holds}
use Rattle.zones.specs.View.{config_in, ConfigPassed, zones_in}
use Rattle.zones.specs.Words.{Packed}
use Rattle.zones.specs.declared.decide.Change.{Change}
use Rattle.zones.specs.declared.decide.Change.TheVariants.{Add, Drop, Push, Cut}

-- an answer that may refuse, told by the number of its refusal
abbrev pub in_numbers : {A : Type 0} → Result A Refusal → Result A ℕ
in_numbers (Ok x) = Ok x
in_numbers (Err r) = Err (number r)

-- the rules with a refusal in the place of each number; the first that applies refuses, and where none does the answer is x
abbrev pub refusing : {A : Type 0} → List (Rule ℕ) → List (Rule (Result A ℕ))
refusing rs = map (λ (r : Rule ℕ). Err r.0 when r.1) rs

abbrev pub ruled : {A : Type 0} → List (Rule ℕ) → A → Result A ℕ
ruled rs x = first_rule (refusing rs) (Ok x)

-- 4, which looks at an id; 4 and 6, which look for its zone
abbrev pub id_rules : ℕ → List (Rule ℕ)
id_rules id = 4 when ltb highest_id id ∷ []

abbrev pub name_rules : ℕ → List Zone → List (Rule ℕ)
name_rules id t = 4 when ltb highest_id id ∷ 6 when not (present id t) ∷ []

-- 19 and 12, which look at how a region is to be used
unfoldable pub use_rules : Configuration → Side → Region → List (Rule ℕ)
use_rules c s r = 19 when excessive s r ∷ 12 when on_gic c s r ∷ []

unfoldable pub decided_add : ℕ → List Zone → Result Change ℕ
decided_add id t = ruled (4 when ltb highest_id id ∷ add_rules limits id t) (Add id)

unfoldable pub decided_drop : ℕ → List Zone → Result Change ℕ
decided_drop id t = ruled (4 when ltb highest_id id ∷ remove_zone_rules id t) (Drop (find id t))

unfoldable pub decided_insert : Configuration → ℕ → Side → Region → List Zone → Result Change ℕ
decided_insert c id s r t = ruled (4 when ltb highest_id id ∷ insert_rules limits c id s r t) (Push (find id t) s r)

unfoldable pub decided_cut : ℕ → Side → Region → List Zone → Result Change ℕ
decided_cut id s r t =
    ruled (4 when ltb highest_id id ∷ remove_rules id s r t)
    (Cut (find id t) s (first_index (region_eq r) (region_set t (find id t) s)))

unfoldable pub decided_kind : Configuration → Kind → ℕ → List Zone → Result Change ℕ
decided_kind c AddZone id t = decided_add id t
decided_kind c RemoveZone id t = decided_drop id t
decided_kind c (Insert s r) id t = decided_insert c id s r t
decided_kind c (Remove s r) id t = decided_cut id s r t
decided_kind c NoRequest id t = Err 3

unfoldable pub decided : Configuration → List Zone → Request → Result Change ℕ
decided c t q = decided_kind c q.kind q.zone t

-- what `decide` asks: a sound table, packed, under a sound configuration
pub record Ready (c t : List ℕ) : Type 0 where
  pub config : ConfigPassed c
  pub words : Packed t
  pub table : sound limits (config_in c) (zones_in t) ≡ true

-- the region is not the GIC, and another zone than the one at k holds it
unfoldable pub shared_elsewhere : Configuration → ℕ → Region → List Zone → Bool
shared_elsewhere c k r t = not (region_eq r (gic_of c)) && any (holds r) (others k t)

-- ---- the change made
unfoldable pub changed : Change → List Zone → List Zone
changed (Add id) t = added id t
changed (Drop z) t = dropped z t
changed (Push z s r) t = pushed z s r t
changed (Cut z s i) t = cut z s i t

-- what a change asks of the table
unfoldable pub Allowed : Change → List Zone → Type 0
Allowed (Add id) t = length t < most_zones
Allowed (Drop z) t = z < length t
Allowed (Push z s r) t = (z < length t) × (length (region_set t z s) < most_in_set)
Allowed (Cut z s i) t = (z < length t) × (i < length (region_set t z s))
