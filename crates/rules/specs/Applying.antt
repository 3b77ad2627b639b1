-- Applying a plan to a terminal's state.
use Rattle.std.specs.Prelude.{ℕ, ◌+◌, ◌-◌, ◌^◌, Bool, true, false, cond, not, ◌&&◌, List, [], ◌∷◌, map, ◌≡◌, eqb, length}
use Rattle.lists.specs.Room.{room}
use Rattle.lists.specs.Rules.{Rule, ◌when◌, first_rule}
use Rattle.lists.specs.Tests.{all_of}
use Rattle.formats.specs.Formats.{Out, got, bad}
use Rattle.rules.specs.Configuration.{config_of, Configuration, StoredConfig}
use Rattle.rules.specs.Limits.{Limits}
use Rattle.rules.specs.Plan.{read_plan, encode, Asked, Plan}
use Rattle.rules.specs.Regions.{region_eq, no_region}
use Rattle.rules.specs.Requests.{refusal, next, standing}
use Rattle.rules.specs.Run.{run, ended, Run}
use Rattle.rules.specs.Steps.{ran_by, StepRule}
use Rattle.rules.specs.Tables.{table_of, unused_zone, Zone, StoredSet, StoredZone, StoredTable}
use Rattle.rules.specs.declared.Outcome.{Outcome}
use Rattle.rules.specs.declared.Region.{Region}

-- the terminal's state, whatever its configuration is
pub record TerminalOf (C : Type 0) : Type 0 where
  pub config : C
  pub table : StoredTable
  pub edition : ℕ

abbrev pub Terminal : Type 0
Terminal = TerminalOf StoredConfig

-- the highest edition
abbrev pub last_edition : ℕ
last_edition = 2 ^ 32 - 1

-- ---- a list of zones as it is stored: what is unused is zero
abbrev pub store_set : Limits → List Region → StoredSet
store_set l xs = record { count = length xs; records = room l.in_set no_region xs }

abbrev pub store_zone : Limits → Zone → StoredZone
store_zone l z = record { id = z.id; cpu = store_set l z.cpu; iommu = store_set l z.iommu }

abbrev pub store : Limits → List Zone → StoredTable
store l t = record { count = length t; zones = room l.zones (unused_zone l) (map (store_zone l) t) }

-- ---- the plan's base and the terminal's
-- as many, and equal one by one
unfoldable pub same_list : {A : Type 0} → (A → A → Bool) → List A → List A → Bool
same_list e [] [] = true
same_list e [] (y ∷ ys) = false
same_list e (x ∷ xs) [] = false
same_list e (x ∷ xs) (y ∷ ys) = e x y && same_list e xs ys

unfoldable pub same_zone : Zone → Zone → Bool
same_zone y z =
    all_of (eqb y.id z.id ∷ same_list region_eq y.cpu z.cpu ∷ same_list region_eq y.iommu z.iommu ∷ [])

unfoldable pub same_config : Configuration → Plan → Bool
same_config c p = all_of (same_list region_eq c.regions p.regions ∷ eqb c.gic p.marks.gic ∷ [])

-- ---- the answer
-- a number that speaks of no request
abbrev pub plain : ℕ → ℕ → Outcome
plain number place = record { number = number; place = place; inner = 0 }

-- 23 to 26 of a plan that reads whole: whether it gives the terminal's configuration, its edition and its zones
unfoldable pub base_rules : {C : Type 0} → TerminalOf C → Bool → ℕ → List Zone → List (Rule Outcome)
base_rules s same edition zones =
    plain 23 0 when not same
    ∷ plain 24 0 when not (eqb s.edition edition)
    ∷ plain 25 0 when eqb s.edition last_edition
    ∷ plain 26 0 when not (same_list same_zone (table_of s.table) zones)
    ∷ []

unfoldable pub judged_rules : Terminal → Plan → List (Rule Outcome)
unfolding base_rules
judged_rules s p = base_rules s (same_config (config_of s.config) p) p.marks.edition p.zones

-- then 27 or 0, as the run of its requests at the terminal's table ended
unfoldable pub judged : Terminal → Plan → Run → Outcome
judged s p r = first_rule (judged_rules s p) (ended r)

-- what a terminal answers, and its state afterwards: a refusal leaves it as it was
pub record AppliedOf (C : Type 0) : Type 0 where
  pub outcome : Outcome
  pub state : TerminalOf C

abbrev pub Applied : Type 0
Applied = AppliedOf StoredConfig

unfoldable pub moved : {C : Type 0} → Limits → TerminalOf C → Run → TerminalOf C
moved l s r = record { config = s.config; table = store l r.table; edition = s.edition + 1 }

unfoldable pub settled : {C : Type 0} → Limits → TerminalOf C → Outcome → Run → AppliedOf C
settled l s o r = cond (eqb o.number 0) (record { outcome = o; state = moved l s r }) (record { outcome = o; state = s })

-- ---- applying a plan, by a step rule
module _ (m : StepRule) where
  abbrev pub Kept : Type 0
  Kept = TerminalOf m.Config

  abbrev pub judged_by : Kept → m.Said → Run → Outcome
  judged_by s p r = first_rule (base_rules s (m.same s.config p) (m.edition p) (m.zones p)) (ended r)

  unfoldable pub apply_read_by : Kept → List ℕ → Out m.Said → AppliedOf m.Config
  apply_read_by s b (bad k left) = record { outcome = plain k (length b - length left); state = s }
  apply_read_by s b (got p left) =
      let r : Run = ran_by m s.config (table_of s.table) (m.asked p) in
      settled m.limits s (judged_by s p r) r

  -- 1 and 2 speak of the terminal's own state, before any byte is read
  unfoldable pub apply_by : Kept → List ℕ → AppliedOf m.Config
  apply_by s b =
      cond (eqb (m.standing s.config s.table) 0) (apply_read_by s b (m.read b))
      (record { outcome = plain (m.standing s.config s.table) 0; state = s })

  -- the plan's own base: a state with its configuration, edition and zones
  abbrev pub base_by : m.Said → Kept
  base_by p = record { config = m.given p; table = store m.limits (m.zones p); edition = m.edition p }

  -- what is answered where there is no terminal: 20, 21 or 22; then the plan applied to its own base
  unfoldable pub answer_read_by : List ℕ → Out m.Said → Outcome
  answer_read_by b (bad k left) = plain k (length b - length left)
  answer_read_by b (got p left) = (apply_by (base_by p) b).outcome

  unfoldable pub answer_alone_by : List ℕ → Outcome
  answer_alone_by b = answer_read_by b (m.read b)

  -- a plan for the terminal's base: it gives that state's configuration, edition and zones, order included, whatever
  -- its requests
  pub record ForBaseBy (s : Kept) (p : m.Said) : Type 0 where
    pub config : m.Gives s.config p
    pub edition : s.edition ≡ m.edition p
    pub zones : table_of s.table ≡ m.zones p

-- ---- document 01's terminals
-- the plan that gives a configuration, an edition and zones and asks for requests; and that it gives the configuration
abbrev pub plan_at : Configuration → ℕ → List Zone → List Asked → Plan
plan_at c e t q = record { marks = record { gic = c.gic; edition = e }; regions = c.regions; zones = t; asked = q }

pub record GivesConfig (c : Configuration) (p : Plan) : Type 0 where
  pub regions : c.regions ≡ p.regions
  pub gic : c.gic ≡ p.marks.gic

-- the configuration of a plan
abbrev pub plan_config : Plan → Configuration
plan_config p = record { regions = p.regions; gic = p.marks.gic }

abbrev pub store_config : Limits → Configuration → StoredConfig
store_config l c = record { count = length c.regions; gic = c.gic; records = room l.regions no_region c.regions }

-- their step rule
abbrev pub plain_steps : Limits → StepRule
plain_steps l = record {
  limits = l;
  Config = StoredConfig;
  Whole = λ c. length c.records ≡ l.regions;
  standing = λ c t. standing l c t;
  refusal = λ c t q. refusal l (config_of c) t q;
  next = λ c t q. next l (config_of c) t q;
  run = λ c t qs. run l (config_of c) t qs;
  Said = Plan;
  read = λ b. read_plan l b;
  write = λ p. encode l p;
  edition = λ p. p.marks.edition;
  zones = λ p. p.zones;
  asked = λ p. p.asked;
  Gives = λ c p. GivesConfig (config_of c) p;
  same = λ c p. same_config (config_of c) p;
  given = λ p. store_config l (plan_config p);
  plan_at = λ c e t q. plan_at (config_of c) e t q;
}

-- applying a plan to one (to unfold a name is to unfold what it is made of)
unfoldable pub apply_read : Limits → Terminal → List ℕ → Out Plan → Applied
unfolding apply_read_by judged judged_rules
apply_read l s b o = apply_read_by (plain_steps l) s b o

unfoldable pub apply : Limits → Terminal → List ℕ → Applied
unfolding apply_by apply_read
apply l s b = apply_by (plain_steps l) s b

abbrev pub base_of : Limits → Plan → Terminal
base_of l p = base_by (plain_steps l) p

unfoldable pub answer_read : Limits → List ℕ → Out Plan → Outcome
unfolding answer_read_by apply
answer_read l b o = answer_read_by (plain_steps l) b o

unfoldable pub answer_alone : Limits → List ℕ → Outcome
unfolding answer_alone_by answer_read
answer_alone l b = answer_alone_by (plain_steps l) b
