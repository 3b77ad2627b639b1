-- Requests: which one is refused with which number, and what an accepted one does.
use Rattle.std.specs.Prelude.{ℕ, Bool, true, false, cond, not, ◌||◌, List, [], ◌∷◌, ◌++◌, ltb, leb, eqb, length}
use Rattle.lists.specs.First.{first_index, any}
use Rattle.lists.specs.Room.{remove_at}
use Rattle.lists.specs.Rules.{Rule, ◌when◌, first_rule}
use Rattle.rules.specs.Changes.{region_set, added, pushed, cut, dropped}
use Rattle.rules.specs.Configuration.{gic_of, config_of, check, is_sound, Configuration, StoredConfig}
use Rattle.rules.specs.Limits.{highest_id, Limits, page_of}
use Rattle.rules.specs.Regions.{well_formed, in_reach, region_eq, phys_overlap, guest_overlap}
use Rattle.rules.specs.Tables.{has_id, regions_of, table_of, configured, excessive, clash, check_table, Zone, StoredTable}
use Rattle.rules.specs.declared.Kind.{Kind}
use Rattle.rules.specs.declared.Kind.TheVariants.{AddZone, RemoveZone, Insert, Remove, NoRequest}
use Rattle.rules.specs.declared.Region.{Region}
use Rattle.rules.specs.declared.Request.{Request}
use Rattle.rules.specs.declared.Side.{Side}
use Rattle.rules.specs.declared.Side.TheVariants.{Cpu, Iommu}

-- ---- a request of each kind
abbrev pub add_zone : ℕ → Request
add_zone id = record { zone = id; kind = AddZone }

abbrev pub drop_zone : ℕ → Request
drop_zone id = record { zone = id; kind = RemoveZone }

abbrev pub insert : Side → Region → ℕ → Request
insert s r id = record { zone = id; kind = Insert s r }

abbrev pub remove : Side → Region → ℕ → Request
remove s r id = record { zone = id; kind = Remove s r }

-- ---- what the rules ask of the table
-- the position of the zone with that id, or the number of zones
abbrev pub find : ℕ → List Zone → ℕ
find id t = first_index (has_id id) t

-- a zone has that id
abbrev pub present : ℕ → List Zone → Bool
present id t = any (has_id id) t

-- the other zones than the one at k
abbrev pub others : ℕ → List Zone → List Zone
others k t = remove_at k t

-- the set holds the region
abbrev pub held_in : Region → List Region → Bool
held_in r xs = any (region_eq r) xs

-- 8: either set of the zone at k holds a region
unfoldable pub holds_any : ℕ → List Zone → Bool
holds_any k t = ltb 0 (length (region_set t k Cpu)) || ltb 0 (length (region_set t k Iommu))

-- 12: a CPU region overlaps the GIC physically
unfoldable pub on_gic : Configuration → Side → Region → Bool
on_gic c Cpu r = phys_overlap r (gic_of c)
on_gic c Iommu r = false

-- 14, for the zone at k: a CPU region against all CPU sets and the other zones' IOMMU sets; an IOMMU region against the
-- other zones' two sets, unless either region is the GIC
unfoldable pub forbidden : Configuration → ℕ → Side → Region → List Zone → Bool
forbidden c k Cpu r t =
    any (λ (z : Zone). any (phys_overlap r) z.cpu) t
    || any (λ (z : Zone). any (phys_overlap r) z.iommu) (others k t)
forbidden c k Iommu r t = any (λ (z : Zone). any (clash c r) (regions_of z)) (others k t)

-- ---- the numbers, in the document's order for each kind
unfoldable pub add_rules : Limits → ℕ → List Zone → List (Rule ℕ)
add_rules l id t = 5 when present id t ∷ 7 when leb l.zones (length t) ∷ []

unfoldable pub remove_zone_rules : ℕ → List Zone → List (Rule ℕ)
remove_zone_rules id t = 6 when not (present id t) ∷ 8 when holds_any (find id t) t ∷ []

unfoldable pub region_rules : Limits → Configuration → Side → Region → List (Rule ℕ)
region_rules l c s r = 9 when not (well_formed (page_of l s) r) ∷ 10 when not (in_reach l r) ∷ 11 when not (configured c r) ∷ 19 when excessive s r ∷ 12 when on_gic c s r ∷ []

unfoldable pub set_rules : Limits → Configuration → ℕ → Side → Region → List Zone → List (Rule ℕ)
set_rules l c k s r t =
    13 when held_in r (region_set t k s)
    ∷ 14 when forbidden c k s r t
    ∷ 15 when any (guest_overlap r) (region_set t k s)
    ∷ 16 when leb l.in_set (length (region_set t k s))
    ∷ []

unfoldable pub insert_rules : Limits → Configuration → ℕ → Side → Region → List Zone → List (Rule ℕ)
insert_rules l c id s r t = 6 when not (present id t) ∷ (region_rules l c s r ++ set_rules l c (find id t) s r t)

unfoldable pub remove_rules : ℕ → Side → Region → List Zone → List (Rule ℕ)
remove_rules id s r t = 6 when not (present id t) ∷ 17 when not (held_in r (region_set t (find id t) s)) ∷ []

unfoldable pub kind_rules : Limits → Configuration → Kind → ℕ → List Zone → List (Rule ℕ)
kind_rules l c AddZone id t = add_rules l id t
kind_rules l c RemoveZone id t = remove_zone_rules id t
kind_rules l c (Insert s r) id t = insert_rules l c id s r t
kind_rules l c (Remove s r) id t = remove_rules id s r t
kind_rules l c NoRequest id t = []

-- 3: numbers that make no request
unfoldable pub no_request : Kind → Bool
no_request AddZone = false
no_request RemoveZone = false
no_request (Insert s r) = false
no_request (Remove s r) = false
no_request NoRequest = true

unfoldable pub request_rules : Limits → Configuration → Kind → ℕ → List Zone → List (Rule ℕ)
request_rules l c k id t = 3 when no_request k ∷ 4 when ltb highest_id id ∷ kind_rules l c k id t

-- the number of a request at a sound table under a sound configuration: 0 where it is accepted
unfoldable pub refusal : Limits → Configuration → List Zone → Request → ℕ
refusal l c t q = first_rule (request_rules l c q.kind q.zone t) 0

-- ---- what is done
-- the table after an accepted request
unfoldable pub after : Kind → ℕ → List Zone → List Zone
after AddZone id t = added id t
after RemoveZone id t = dropped (find id t) t
after (Insert s r) id t = pushed (find id t) s r t
after (Remove s r) id t = cut (find id t) s (first_index (region_eq r) (region_set t (find id t) s)) t
after NoRequest id t = t

-- the next table, by the number that a request gets: a refusal returns the table that it was given
unfoldable pub next_by : ℕ → List Zone → Request → List Zone
next_by number t q = cond (eqb number 0) (after q.kind q.zone t) t

unfoldable pub next : Limits → Configuration → List Zone → Request → List Zone
unfolding next_by
next l c t q = next_by (refusal l c t q) t q

-- the numbers of requests one after another
unfoldable pub answers : Limits → Configuration → List Zone → List Request → List ℕ
answers l c t [] = []
answers l c t (q ∷ qs) = refusal l c t q ∷ answers l c (next l c t q) qs

-- ---- a request from outside: 1 and 2 come first
unfoldable pub standing_rules : Limits → StoredConfig → StoredTable → List (Rule ℕ)
standing_rules l c t = 1 when not (is_sound (check l c)) ∷ 2 when not (check_table l c t) ∷ []

-- the number before any request is looked at, or 0
abbrev pub standing : Limits → StoredConfig → StoredTable → ℕ
standing l c t = first_rule (standing_rules l c t) 0

unfoldable pub answer : Limits → StoredConfig → StoredTable → Request → ℕ
answer l c t q = first_rule (standing_rules l c t) (refusal l (config_of c) (table_of t) q)
