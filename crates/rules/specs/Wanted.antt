-- Requests worked out from two tables: those that lead from the one that is there to the one that is wanted.
use Rattle.std.specs.Prelude.{ℕ, Bool, cond, not, ◌||◌, ltb, eqb, length}
use mathlib.Core.List.{List, [], ◌∷◌, ◌++◌, map, flat_map}
use Rattle.lists.specs.Orders.{keep}
use Rattle.lists.specs.Rules.{Rule, ◌when◌, first_rule}
use Rattle.formats.specs.Formats.{write_many}
use Rattle.rules.specs.Applying.{plain}
use Rattle.rules.specs.Changes.{region_set}
use Rattle.rules.specs.Configuration.{check, is_sound, StoredConfig}
use Rattle.rules.specs.Filling.{filling, Filled}
use Rattle.rules.specs.Limits.{Limits}
use Rattle.rules.specs.Plan.{asked_field, Asked}
use Rattle.rules.specs.Regions.{no_region}
use Rattle.rules.specs.Requests.{add_zone, drop_zone, insert, remove, find, present, held_in}
use Rattle.rules.specs.Tables.{side_of, table_of, check_table, Zone, StoredTable}
use Rattle.rules.specs.declared.Kind.{Kind}
use Rattle.rules.specs.declared.Kind.TheVariants.{AddZone, RemoveZone, Insert, Remove, NoRequest}
use Rattle.rules.specs.declared.Region.{Region}
use Rattle.rules.specs.declared.Request.{Request}
use Rattle.rules.specs.declared.Side.{Side}
use Rattle.rules.specs.declared.Side.TheVariants.{Cpu, Iommu}

-- ---- what a table holds
-- a region, in the set of that side of the zone with that id
pub record Holding : Type 0 where
  pub zone : ℕ
  pub side : Side
  pub region : Region

abbrev pub holding : ℕ → Side → Region → Holding
holding id s r = record { zone = id; side = s; region = r }

-- what a zone holds on a side, in the set's order
abbrev pub held_on : Side → Zone → List Holding
held_on s z = map (holding z.id s) (side_of s z)

-- all that the table holds: zone by zone in table order, CPU before IOMMU, each set in its order
unfoldable pub holdings : List Zone → List Holding
holdings t = flat_map (λ (z : Zone). held_on Cpu z ++ held_on Iommu z) t

-- the ids of its zones, in table order
abbrev pub ids_of : List Zone → List ℕ
ids_of t = map (λ (z : Zone). z.id) t

-- the table holds the region in that set; it does not; it has no zone with that id
unfoldable pub holds : List Zone → Holding → Bool
holds t h = held_in h.region (region_set t (find h.zone t) h.side)

abbrev pub lacks : List Zone → Holding → Bool
lacks t h = not (holds t h)

abbrev pub absent : List Zone → ℕ → Bool
absent t id = not (present id t)

-- ---- the list
abbrev pub take_out : Holding → Request
take_out h = remove h.side h.region h.zone

abbrev pub put_in : Holding → Request
put_in h = insert h.side h.region h.zone

-- from t to w: removals of the regions that are not wanted, each in its set, and of the zones that are not wanted, in
-- table order; then additions of zones and inserts of what is missing, in the wanted order
unfoldable pub requests_for : List Zone → List Zone → List Request
requests_for t w =
    map take_out (keep (lacks w) (holdings t))
    ++ (map drop_zone (keep (absent w) (ids_of t))
    ++ (map add_zone (keep (absent t) (ids_of w))
    ++ map put_in (keep (lacks t) (holdings w))))

-- ---- from outside
-- the number and the list
pub record Worked : Type 0 where
  pub number : ℕ
  pub requests : List Request

-- a refusal has an empty list
abbrev pub no_list : ℕ → Worked
no_list n = record { number = n; requests = [] }

-- 1; 2, of either table; 29, where the list is longer than that of a plan may be
unfoldable pub work_rules : Limits → StoredConfig → StoredTable → StoredTable → List (Rule Worked)
work_rules l c t w =
    no_list 1 when not (is_sound (check l c))
    ∷ no_list 2 when (not (check_table l c t) || not (check_table l c w))
    ∷ no_list 29 when ltb l.requests (length (requests_for (table_of t) (table_of w)))
    ∷ []

-- the first that applies, or 0 with the list
unfoldable pub worked : Limits → StoredConfig → StoredTable → StoredTable → Worked
worked l c t w =
    first_rule (work_rules l c t w) (record { number = 0; requests = requests_for (table_of t) (table_of w) })

-- ---- as bytes: each request as a plan holds it
-- the number of a kind, 0 for what is no request; and the region that stands beside it
unfoldable pub kind_number : Kind → ℕ
kind_number AddZone = 1
kind_number RemoveZone = 2
kind_number (Insert Cpu r) = 3
kind_number (Remove Cpu r) = 4
kind_number (Insert Iommu r) = 5
kind_number (Remove Iommu r) = 6
kind_number NoRequest = 0

unfoldable pub kind_region : Kind → Region
kind_region AddZone = no_region
kind_region RemoveZone = no_region
kind_region (Insert s r) = r
kind_region (Remove s r) = r
kind_region NoRequest = no_region

abbrev pub asked_as : Request → Asked
asked_as q = record { kind = kind_number q.kind; zone = q.zone; region = kind_region q.kind }

-- one after another
unfoldable pub records_of : List Request → List ℕ
records_of qs = write_many asked_field (map asked_as qs)

-- ---- the list into a lent buffer: number, how many requests stand there, and the buffer afterwards
pub record Listed : Type 0 where
  pub number : ℕ
  pub count : ℕ
  pub buffer : List ℕ

-- 28 comes after all else, where the list's bytes do not fit; a refusal counts none and changes no byte
unfoldable pub listed : Limits → StoredConfig → StoredTable → StoredTable → List ℕ → Listed
listed l c t w b =
    let r : Worked = worked l c t w in
    let f : Filled = filling (plain r.number 0 when not (eqb r.number 0) ∷ []) (records_of r.requests) b in
    record {
      number = f.outcome.number;
      count = cond (eqb f.outcome.number 0) (length r.requests) 0;
      buffer = f.buffer;
    }
