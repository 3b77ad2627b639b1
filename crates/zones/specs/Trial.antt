-- A run that is only tried: what it answers, and what is known of each request that is to be undone.
use Rattle.std.specs.Prelude.{ℕ, zero, suc, ◌*◌, ◌/◌, ◌≤◌, ◌<◌, List, [], ◌∷◌, ◌≡◌, ltb, length, get_or}
use Rattle.lists.specs.Rules.{◌when◌, first_rule}
use Rattle.rules.specs.Applying.{plain}
use Rattle.rules.specs.Changes.{region_set, cut, dropped}
use Rattle.rules.specs.Configuration.{config_of, StoredConfig}
use Rattle.rules.specs.Filling.{own_rule}
use Rattle.rules.specs.Limits.{most_zones, most_in_set, limits, Limits}
use Rattle.rules.specs.Regions.{no_region}
use Rattle.rules.specs.Requests.{find, after}
use Rattle.rules.specs.Run.{request_size, request_from, requests_in, run, ended}
use Rattle.rules.specs.Tables.{no_zone, empty_zone, table_of, Zone, StoredTable}
use Rattle.rules.specs.declared.Kind.{Kind}
use Rattle.rules.specs.declared.Kind.TheVariants.{AddZone, RemoveZone, Insert, Remove, NoRequest}
use Rattle.rules.specs.declared.Outcome.{Outcome}
use Rattle.rules.specs.declared.Region.{Region}
use Rattle.rules.specs.declared.Request.{Request}
use Rattle.rules.specs.declared.Side.{Side}
use Rattle.zones.specs.View.{config_in, zones_in}
use Rattle.zones.specs.Words.{words_of, Within}
use Rattle.zones.specs.declared.decide.Change.{Change}
use Rattle.zones.specs.declared.decide.Change.TheVariants.{Add, Drop, Push, Cut}

-- 1 or 2; 29, where there are more requests than a plan may have; then 27 or 0, as their run ends
unfoldable pub trial_answer : Limits → StoredConfig → StoredTable → List Request → Outcome
trial_answer l c t qs =
    first_rule
    (own_rule l c t
    ∷ plain 29 0 when ltb l.requests (length qs)
    ∷ [])
    (ended (run l (config_of c) (table_of t) qs))

-- ---- what is noted of a change: the position of the zone or of the region that goes
unfoldable pub note_of : Change → ℕ
note_of (Add id) = 0
note_of (Drop z) = z
note_of (Push z s r) = 0
note_of (Cut z s i) = i

-- ---- how the code goes about it
-- the words of the table b without its region r, which stood at place i of a side of zone z
pub record WithoutRegion (b : List Zone) (z : ℕ) (s : Side) (i : ℕ) (r : Region) (w : List ℕ) : Type 0 where
  pub within : Within b
  pub there : z < length b
  pub inside : i < length (region_set b z s)
  pub same : get_or (region_set b z s) i no_region ≡ r
  pub words : w ≡ words_of (cut z s i b)

-- the words of the table b without its zone at z, which had that id and was empty
pub record WithoutZone (b : List Zone) (z id : ℕ) (w : List ℕ) : Type 0 where
  pub within : Within b
  pub there : z < length b
  pub same : get_or b z no_zone ≡ empty_zone id
  pub words : w ≡ words_of (dropped z b)

-- what an accepted request of a kind, with its note p, found in the table b
unfoldable pub Undoable : Kind → ℕ → ℕ → List Zone → Type 0
Undoable AddZone id p b = length b < most_zones
Undoable RemoveZone id p b = (find id b ≡ p) × ((p < length b) × (get_or b p no_zone ≡ empty_zone id))
Undoable (Insert s r) id p b = (find id b < length b) × (length (region_set b (find id b) s) < most_in_set)
Undoable (Remove s r) id p b =
    (find id b < length b)
    × ((p < length (region_set b (find id b) s))
    × ((get_or (region_set b (find id b) s) p no_region ≡ r) × (after (Remove s r) id b ≡ cut (find id b) s p b)))
Undoable NoRequest id p b = ⊥

-- the words w are those of the table that the request q, with its note p, made of b
pub record Before (b : List Zone) (q : Request) (p : ℕ) (w : List ℕ) : Type 0 where
  pub within : Within b
  pub can : Undoable q.kind q.zone p b
  pub made : Within (after q.kind q.zone b)
  pub words : w ≡ words_of (after q.kind q.zone b)

-- request i of the bytes
abbrev pub asks : List ℕ → ℕ → Request
asks r i = request_from r (i * request_size)

-- the table after the first i of them
unfoldable pub tried : List ℕ → List Zone → ℕ → List Zone
tried r b zero = b
tried r b (suc i) = after (asks r i).kind (asks r i).zone (tried r b i)

-- the words w are those of the table that the first i requests made of b, and the notes tell how to undo each
pub record Trail (b : List Zone) (r notes : List ℕ) (i : ℕ) (w : List ℕ) : Type 0 where
  pub words : w ≡ words_of (tried r b i)
  pub within : (j : ℕ) → j ≤ i → Within (tried r b j)
  pub each : (j : ℕ) → j < i → Undoable (asks r j).kind (asks r j).zone (get_or notes j 0) (tried r b j)

-- a run that was noted: v are the notes
pub record Noted (c t r : List ℕ) (o : Outcome) (u v : List ℕ) : Type 0 where
  pub answer : o ≡ ended (run limits (config_in c) (zones_in t) (requests_in r))
  pub few : o.place ≤ length r / request_size
  pub trail : Trail (zones_in t) r v o.place u
