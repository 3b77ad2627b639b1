-- Terminals with owners: every configured region other than the GIC belongs to one zone. Owners beside a configuration,
-- their check, sound tables, and the numbers of requests.
use Rattle.std.specs.Prelude.{ℕ, ◌-◌, ◌^◌, Bool, false, cond, not, ◌&&◌, ◌||◌, List, [], ◌∷◌, map, ltb, leb, eqb, get_or, drop}
use Rattle.lists.specs.First.{first_index, first_from, any, all}
use Rattle.lists.specs.Places.{places}
use Rattle.lists.specs.Room.{room}
use Rattle.lists.specs.Rules.{Rule, ◌when◌, first_rule}
use Rattle.lists.specs.Tests.{all_of}
use Rattle.rules.specs.Configuration.{gic_of, config_of, wrong_count, wrong_gic, fault_rules, is_sound, check_number}
use Rattle.rules.specs.Configuration.{check_place, check_earlier, Configuration, StoredConfig}
use Rattle.rules.specs.Limits.{highest_id, Limits}
use Rattle.rules.specs.Regions.{region_eq, no_region, used}
use Rattle.rules.specs.Requests.{request_rules, next_by}
use Rattle.rules.specs.Run.{run_by, ended_after, Run}
use Rattle.rules.specs.Translation.{translated_after}
use Rattle.rules.specs.Tables.{table_of, tidy, sound, Zone, StoredTable}
use Rattle.rules.specs.declared.Checked.{Checked}
use Rattle.rules.specs.declared.Checked.TheVariants.{Sound, BadCount, BadGic, NotZero}
use Rattle.rules.specs.declared.Guest.{Guest}
use Rattle.rules.specs.declared.Kind.{Kind}
use Rattle.rules.specs.declared.Kind.TheVariants.{AddZone, RemoveZone, Insert, Remove, NoRequest}
use Rattle.rules.specs.declared.OwnedChecked.{OwnedChecked}
use Rattle.rules.specs.declared.OwnedChecked.TheVariants.{Plain, WrongOwner}
use Rattle.rules.specs.declared.Outcome.{Outcome}
use Rattle.rules.specs.declared.Region.{Region}
use Rattle.rules.specs.declared.Request.{Request}
use Rattle.rules.specs.declared.Side.{Side}
use Rattle.rules.specs.declared.Side.TheVariants.{Cpu, Iommu}
use Rattle.rules.specs.declared.Translated.{Translated}

-- what stands as owner of the GIC, and of it only
abbrev pub gic_owner : ℕ
gic_owner = 2 ^ 32 - 1

-- a configuration, and an owner for each of its regions
pub record Owned : Type 0 where
  pub config : Configuration
  pub owners : List ℕ

-- as it is stored: an owner for each of the records
pub record StoredOwned : Type 0 where
  pub config : StoredConfig
  pub owners : List ℕ

-- what is stored
unfoldable pub owned_of : StoredOwned → Owned
owned_of s = record { config = config_of s.config; owners = room s.config.count 0 s.owners }

-- ---- the check
-- C3: the record at the position is used, or its owner is
unfoldable pub used_at : StoredOwned → ℕ → Bool
used_at s i = used (get_or s.config.records i no_region) || not (eqb (get_or s.owners i 0) 0)

-- the owner at the position is right: the GIC's is its own number, any other's is an id
unfoldable pub right_owner : StoredOwned → ℕ → Bool
right_owner s i =
    let owner = get_or s.owners i 0 in
    cond (eqb i s.config.gic) (eqb owner gic_owner) (leb owner highest_id)

-- C7: it is not
abbrev pub wrong_at : StoredOwned → ℕ → Bool
wrong_at s i = not (right_owner s i)

-- a rule of the plain check
abbrev pub plain_rule : Rule Checked → Rule OwnedChecked
plain_rule r = Plain r.0 when r.1

-- C1 and C2 as in the plain check; C3 past the count; C7 at the first bad position; then the positions upward, as in
-- the plain check
unfoldable pub owned_check_rules : Limits → StoredOwned → List (Rule OwnedChecked)
owned_check_rules l s =
    let n = s.config.count in
    let positions = places 0 l.regions in
    let counted = places 0 n in
    Plain BadCount when wrong_count l s.config
    ∷ Plain BadGic when wrong_gic s.config
    ∷ Plain (NotZero (first_from (used_at s) positions n)) when any (used_at s) (drop n positions)
    ∷ WrongOwner (first_index (wrong_at s) counted) when any (wrong_at s) counted
    ∷ map plain_rule (fault_rules l s.config)

-- the first that applies
unfoldable pub owned_check : Limits → StoredOwned → OwnedChecked
owned_check l s = first_rule (owned_check_rules l s) (Plain Sound)

-- it finds nothing
unfoldable pub is_owned_sound : OwnedChecked → Bool
is_owned_sound (Plain f) = is_sound f
is_owned_sound (WrongOwner i) = false

-- the number of each answer, and its places
abbrev pub owned_check_number : OwnedChecked → ℕ
owned_check_number (Plain f) = check_number f
owned_check_number (WrongOwner i) = 7

abbrev pub owned_check_place : OwnedChecked → ℕ
owned_check_place (Plain f) = check_place f
owned_check_place (WrongOwner i) = i

abbrev pub owned_check_earlier : OwnedChecked → ℕ
owned_check_earlier (Plain f) = check_earlier f
owned_check_earlier (WrongOwner i) = 0

-- ---- who may hold what
-- the owner of a region: the one at its position
unfoldable pub owner_of : Owned → Region → ℕ
owner_of o r = get_or o.owners (first_index (region_eq r) o.config.regions) gic_owner

-- a zone may hold what it owns, and on the IOMMU side the GIC too
unfoldable pub may_hold : Owned → ℕ → Side → Region → Bool
may_hold o id Cpu r = eqb (owner_of o r) id
may_hold o id Iommu r = eqb (owner_of o r) id || region_eq r (gic_of o.config)

-- ---- sound tables
-- the zone holds no other's region
unfoldable pub holds_own : Owned → Zone → Bool
holds_own o z = all_of (all (may_hold o z.id Cpu) z.cpu ∷ all (may_hold o z.id Iommu) z.iommu ∷ [])

-- sound as before, and no zone holds another's region
unfoldable pub owned_sound : Limits → Owned → List Zone → Bool
owned_sound l o t = all_of (sound l o.config t ∷ all (holds_own o) t ∷ [])

-- the table check
unfoldable pub owned_check_table : Limits → StoredOwned → StoredTable → Bool
owned_check_table l c t = all_of (is_owned_sound (owned_check l c) ∷ tidy t ∷ owned_sound l (owned_of c) (table_of t) ∷ [])

-- ---- the step rule
-- an insert of a region that the zone may not hold
unfoldable pub stranger : Owned → Kind → ℕ → Bool
stranger o AddZone id = false
stranger o RemoveZone id = false
stranger o (Insert s r) id = not (may_hold o id s r)
stranger o (Remove s r) id = false
stranger o NoRequest id = false

-- 11 applies also where b holds; every other rule as it was
unfoldable pub eleven_too : Bool → Rule ℕ → Rule ℕ
eleven_too b r = r.0 when (r.1 || (eqb r.0 11 && b))

-- the first machine's rules in their order, where 11 covers "not configured" and "not owned"
unfoldable pub owned_rules : Limits → Owned → Kind → ℕ → List Zone → List (Rule ℕ)
owned_rules l o k id t = map (eleven_too (stranger o k id)) (request_rules l o.config k id t)

-- the number of a request, 0 where it is accepted; and the next table
unfoldable pub owned_refusal : Limits → Owned → List Zone → Request → ℕ
owned_refusal l o t q = first_rule (owned_rules l o q.kind q.zone t) 0

unfoldable pub owned_next : Limits → Owned → List Zone → Request → List Zone
unfolding next_by
owned_next l o t q = next_by (owned_refusal l o t q) t q

-- ---- from outside: 1 and 2 come first
unfoldable pub owned_standing_rules : Limits → StoredOwned → StoredTable → List (Rule ℕ)
owned_standing_rules l c t = 1 when not (is_owned_sound (owned_check l c)) ∷ 2 when not (owned_check_table l c t) ∷ []

abbrev pub owned_standing : Limits → StoredOwned → StoredTable → ℕ
owned_standing l c t = first_rule (owned_standing_rules l c t) 0

unfoldable pub owned_answer : Limits → StoredOwned → StoredTable → Request → ℕ
owned_answer l c t q = first_rule (owned_standing_rules l c t) (owned_refusal l (owned_of c) (table_of t) q)

-- a run of requests, and translation
abbrev pub owned_run : Limits → Owned → List Zone → List Request → Run
owned_run l o t qs = run_by (owned_refusal l o) (owned_next l o) 0 t qs

unfoldable pub owned_run_answer : Limits → StoredOwned → StoredTable → List Request → Outcome
owned_run_answer l c t qs = ended_after (owned_standing l c t) (owned_run l (owned_of c) (table_of t) qs)

unfoldable pub owned_translated : Limits → StoredOwned → StoredTable → ℕ → Side → Guest → Translated
owned_translated l c t id s a = translated_after (owned_standing_rules l c t) (table_of t) id s a.0

-- ---- over the first machine
-- what 11 makes of the first machine's number: it comes before every number above it, and before acceptance
unfoldable pub eleven_over : Bool → ℕ → ℕ
eleven_over b n = cond (b && (eqb n 0 || ltb 11 n)) 11 n
