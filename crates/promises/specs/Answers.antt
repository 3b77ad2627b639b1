-- "The first number that applies", for every kind of answer: the document's tables, line by line in its order, each a
-- number with its place and the condition under which it is given. An answer is given exactly when its line's condition
-- holds and no earlier line's does.
use Rattle.std.specs.Prelude.{ℕ, ◌+◌, ◌-◌, ◌%◌, ◌≤◌, ◌<◌, true, false, List, [], ◌∷◌, ◌⊎◌, ◌↔◌, ◌≡◌, length, get_or, take, drop}
use Rattle.lists.specs.Lines.{◌given◌, FirstOf, Exactly, Line}
use Rattle.lists.specs.Runs.{runs}
use Rattle.formats.specs.Formats.{got, bad}
use Rattle.rules.specs.Addresses.{Shared}
use Rattle.rules.specs.Applying.{last_edition, plain, apply, base_of, answer_alone, Terminal}
use Rattle.rules.specs.Changes.{region_set}
use Rattle.rules.specs.Configuration.{gic_of, config_of, check, check_number, check_place, check_earlier, Configuration}
use Rattle.rules.specs.Configuration.{StoredConfig}
use Rattle.rules.specs.Limits.{highest_id, page_of, Limits}
use Rattle.rules.specs.Plan.{plan_format, requests_of, Plan}
use Rattle.rules.specs.Requests.{find, refusal, next, standing, answer}
use Rattle.rules.specs.Run.{run, ended, run_answer}
use Rattle.rules.specs.Tables.{no_zone, regions_of, table_of, check_table, Zone, StoredTable}
use Rattle.rules.specs.Translation.{translation, translated}
use Rattle.rules.specs.declared.Checked.TheVariants.{Sound, BadCount, BadGic, NotZero, Malformed, OutOfReach, Overlap}
use Rattle.rules.specs.declared.Guest.{Guest}
use Rattle.rules.specs.declared.Kind.{Kind}
use Rattle.rules.specs.declared.Kind.TheVariants.{AddZone, RemoveZone, Insert, Remove, NoRequest}
use Rattle.rules.specs.declared.Outcome.{Outcome}
use Rattle.rules.specs.declared.Region.{Region}
use Rattle.rules.specs.declared.Request.{Request}
use Rattle.rules.specs.declared.Side.{Side}
use Rattle.rules.specs.declared.Side.TheVariants.{Cpu, Iommu}
use Rattle.rules.specs.declared.Translated.{Translated}
use Rattle.promises.specs.Configuration.{Means}
use Rattle.promises.specs.Tables.{In, MayWrite, MayExecute}
use Rattle.promises.specs.Translation.{CoversGuest}

-- ---- 1 and 2, before all else: the configuration is unsound, the table is
abbrev pub standing_lines : {R : Type 0} → (ℕ → R) → Limits → StoredConfig → StoredTable → List (Line R)
standing_lines say l c t = say 1 given (check l c ≡ Sound → ⊥) ∷ say 2 given (check_table l c t ≡ false) ∷ []

-- neither applies
pub record Stands (l : Limits) (c : StoredConfig) (t : StoredTable) : Type 0 where
  pub config : check l c ≡ Sound
  pub table : check_table l c t ≡ true

-- ---- requests
-- a zone has that id
abbrev pub HasZone : ℕ → List Zone → Type 0
HasZone id t = (z : ℕ) × (z < length t) × ((get_or t z no_zone).id ≡ id)

-- size above 0; v, p and size multiples of a page; rights of read 1, write 2 and execute 4; both ends within their reach
abbrev pub IsWellFormed : ℕ → Region → Type 0
IsWellFormed page r = (0 < r.size) × (r.v.0 % page ≡ 0) × (r.p.0 % page ≡ 0) × (r.size % page ≡ 0) × (0 < r.rights.0) × (r.rights.0 ≤ 7)

abbrev pub IsInReach : Limits → Region → Type 0
IsInReach l r = (r.v.0 + r.size ≤ l.guest_reach) × (r.p.0 + r.size ≤ l.phys_reach)

-- a region with too many rights for its side: the processor may write and execute it, or devices may execute it
abbrev pub HasTooMany : Side → Region → Type 0
HasTooMany Cpu r = MayWrite r × MayExecute r
HasTooMany Iommu r = MayExecute r

-- some one address is covered by both: a physical one; a guest one
abbrev pub MeetsPhys : Region → Region → Type 0
MeetsPhys r x = Shared r.p.0 r.size x.p.0 x.size

abbrev pub MeetsGuest : Region → Region → Type 0
MeetsGuest r x = Shared r.v.0 r.size x.v.0 x.size

-- some region of a set is such a one; some zone is, with its position
abbrev pub SomeIn : List Region → (Region → Type 0) → Type 0
SomeIn xs P = (x : Region) × In x xs × P x

abbrev pub SomeZone : List Zone → (ℕ → Zone → Type 0) → Type 0
SomeZone t P = (z : ℕ) × (z < length t) × P z (get_or t z no_zone)

-- 14, for the zone at k: a CPU region against all CPU sets and the other zones' IOMMU sets; an IOMMU region against the
-- other zones' two sets, unless either region is the GIC
abbrev pub ForbiddenFor : Configuration → ℕ → Side → Region → List Zone → Type 0
ForbiddenFor c k Cpu r t =
    SomeZone t (λ z y. SomeIn y.cpu (MeetsPhys r))
    ⊎ SomeZone t (λ z y. (z ≡ k → ⊥) × SomeIn y.iommu (MeetsPhys r))
ForbiddenFor c k Iommu r t =
    SomeZone t
    (λ z y. (z ≡ k → ⊥) × SomeIn (regions_of y) (λ x. (r ≡ gic_of c → ⊥) × ((x ≡ gic_of c → ⊥) × MeetsPhys r x)))

-- the numbers of each kind, in the document's order
abbrev pub kind_lines : Limits → Configuration → List Zone → ℕ → Kind → List (Line ℕ)
kind_lines l c t id AddZone = 5 given HasZone id t ∷ 7 given (l.zones ≤ length t) ∷ []
kind_lines l c t id RemoveZone =
    6 given (HasZone id t → ⊥) ∷ 8 given ((region_set t (find id t) Cpu ≡ []) × (region_set t (find id t) Iommu ≡ []) → ⊥) ∷ []
kind_lines l c t id (Insert s r) =
    6 given (HasZone id t → ⊥)
    ∷ 9 given (IsWellFormed (page_of l s) r → ⊥)
    ∷ 10 given (IsInReach l r → ⊥)
    ∷ 11 given (In r c.regions → ⊥)
    ∷ 19 given HasTooMany s r
    ∷ 12 given ((s ≡ Cpu) × MeetsPhys r (gic_of c))
    ∷ 13 given In r (region_set t (find id t) s)
    ∷ 14 given ForbiddenFor c (find id t) s r t
    ∷ 15 given SomeIn (region_set t (find id t) s) (MeetsGuest r)
    ∷ 16 given (l.in_set ≤ length (region_set t (find id t) s))
    ∷ []
kind_lines l c t id (Remove s r) = 6 given (HasZone id t → ⊥) ∷ 17 given (In r (region_set t (find id t) s) → ⊥) ∷ []
kind_lines l c t id NoRequest = []

-- 3 and 4 come first for all; 0 where no number applies
abbrev pub RequestSays : Limits → Configuration → List Zone → Request → ℕ → Type 0
RequestSays l c t q =
    FirstOf (3 given (q.kind ≡ NoRequest) ∷ 4 given (highest_id < q.zone) ∷ kind_lines l c t q.zone q.kind)
    (λ n. 0 ≡ n)

-- the number of a request at a table that stands
abbrev pub RefusalIsExact : Limits → Type 0
RefusalIsExact l = (c : Configuration) (t : List Zone) (q : Request) → Exactly (refusal l c t q) (RequestSays l c t q)

-- from outside
abbrev pub AnswerIsExact : Limits → Type 0
AnswerIsExact l =
    (c : StoredConfig) (t : StoredTable) (q : Request)
    → Exactly (answer l c t q) (FirstOf (standing_lines (λ n. n) l c t) (RequestSays l (config_of c) (table_of t) q))

-- ---- translation
-- a number with physical address 0 and 0 bytes that remain
abbrev pub nowhere : ℕ → Translated
nowhere n = record { number = n; phys = record { 0 = 0 }; remaining = 0 }

-- 4, 6 and 18; then 0 with p + (address - v) of a region of that set that covers the address, and what lies between the
-- address and that region's end
abbrev pub translation_lines : List Zone → ℕ → Side → ℕ → List (Line Translated)
translation_lines t id s a =
    nowhere 4 given (highest_id < id) ∷ nowhere 6 given (HasZone id t → ⊥)
    ∷ nowhere 18 given (SomeIn (region_set t (find id t) s) (λ r. CoversGuest r a) → ⊥) ∷ []

-- the region that covers the address puts it there
abbrev pub ComesOut : List Zone → ℕ → Side → ℕ → Translated → Type 0
ComesOut t id s a o =
    (r : Region) × In r (region_set t (find id t) s) × CoversGuest r a
    × (record { number = 0; phys = record { 0 = r.p.0 + (a - r.v.0) }; remaining = r.v.0 + r.size - a } ≡ o)

-- from outside
abbrev pub TranslatedIsExact : Limits → Type 0
TranslatedIsExact l =
    (c : StoredConfig) (t : StoredTable) (id : ℕ) (s : Side) (a : Guest)
    → Exactly (translated l c t id s a)
    (FirstOf (standing_lines nowhere l c t)
    (FirstOf (translation_lines (table_of t) id s a.0) (ComesOut (table_of t) id s a.0)))

-- ---- runs
-- what stands past the end of the requests
abbrev pub no_ask : Request
no_ask = record { zone = 0; kind = NoRequest }

-- the number of request i, at the table that the requests before it leave
abbrev pub number_at : Limits → Configuration → List Zone → List Request → ℕ → ℕ
number_at l c t qs i = refusal l c (runs (next l c) t (take i qs)) (get_or qs i no_ask)

-- all are accepted, and the place is their number; or request i is the first that is refused, and the place is i
pub data Ends (l : Limits) (c : Configuration) (t : List Zone) (qs : List Request) : Outcome → Type 0 where
  all_accepted : ((j : ℕ) → j < length qs → number_at l c t qs j ≡ 0) → Ends l c t qs (plain 0 (length qs))
  twenty_seven : (i : ℕ) → i < length qs → ((j : ℕ) → j < i → number_at l c t qs j ≡ 0) → (number_at l c t qs i ≡ 0 → ⊥)
      → Ends l c t qs (record { number = 27; place = i; inner = number_at l c t qs i })

-- from outside
abbrev pub RunAnswerIsExact : Limits → Type 0
RunAnswerIsExact l =
    (c : StoredConfig) (t : StoredTable) (qs : List Request)
    → Exactly (run_answer l c t qs) (FirstOf (standing_lines (λ n. plain n 0) l c t) (Ends l (config_of c) (table_of t) qs))

-- ---- plans
-- what reading the bytes says: 20 or 21 at the offset of a field; 22 at the first byte after section 4; or a plan, of
-- which Then speaks
pub data Reading (l : Limits) (b : List ℕ) (Then : Plan → Outcome → Type 0) : Outcome → Type 0 where
  twenty : (at : ℕ) → at ≤ length b → (plan_format l).read b ≡ bad 20 (drop at b) → Reading l b Then (plain 20 at)
  twenty_one : (at : ℕ) → at ≤ length b → (plan_format l).read b ≡ bad 21 (drop at b) → Reading l b Then (plain 21 at)
  twenty_two : (p : Plan) (at : ℕ) → at < length b → (plan_format l).read b ≡ got p (drop at b)
      → Reading l b Then (plain 22 at)
  reads : (p : Plan) (o : Outcome) → (plan_format l).read b ≡ got p [] → Then p o → Reading l b Then o

-- 23 to 26 of a plan at a terminal: its regions or its GIC position differ from the terminal's, its edition does, there
-- is no next edition, its zones differ
abbrev pub base_lines : Terminal → Plan → List (Line Outcome)
base_lines s p =
    plain 23 0 given (((config_of s.config).regions ≡ p.regions) × ((config_of s.config).gic ≡ p.marks.gic) → ⊥)
    ∷ plain 24 0 given (s.edition ≡ p.marks.edition → ⊥)
    ∷ plain 25 0 given (s.edition ≡ last_edition)
    ∷ plain 26 0 given (table_of s.table ≡ p.zones → ⊥)
    ∷ []

-- then 27 or 0, as the run of its requests at the terminal's table ends
abbrev pub AtTerminal : Limits → Terminal → Plan → Outcome → Type 0
AtTerminal l s p = FirstOf (base_lines s p) (Ends l (config_of s.config) (table_of s.table) (requests_of p))

-- at a terminal: 1 and 2 of its own state, before any byte is read
abbrev pub ApplyIsExact : Limits → Type 0
ApplyIsExact l =
    (s : Terminal) (b : List ℕ)
    → Exactly (apply l s b).outcome
    (FirstOf (standing_lines (λ n. plain n 0) l s.config s.table) (Reading l b (AtTerminal l s)))

-- a plan alone: 1 and 2 of its own base, 25, and 27 or 0 by its own configuration and zones
abbrev pub Alone : Limits → Plan → Outcome → Type 0
Alone l p =
    FirstOf (standing_lines (λ n. plain n 0) l (base_of l p).config (base_of l p).table)
    (FirstOf (plain 25 0 given (p.marks.edition ≡ last_edition) ∷ [])
    (Ends l (record { regions = p.regions; gic = p.marks.gic }) p.zones (requests_of p)))

-- alone: 20, 21, 22 come first
abbrev pub AloneIsExact : Limits → Type 0
AloneIsExact l = (b : List ℕ) → Exactly (answer_alone l b) (Reading l b (Alone l))

-- so the program never answers 23, 24 or 26
abbrev pub NeverAlone : Limits → Type 0
NeverAlone l =
    (b : List ℕ)
    → ((answer_alone l b).number ≡ 23 → ⊥) × ((answer_alone l b).number ≡ 24 → ⊥) × ((answer_alone l b).number ≡ 26 → ⊥)

-- ---- where neither 1 nor 2 applies, the outside forms are the inner ones
pub record OutsideIsInside (l : Limits) (c : StoredConfig) (t : StoredTable) : Type 0 where
  pub none : standing l c t ≡ 0
  pub request : (q : Request) → answer l c t q ≡ refusal l (config_of c) (table_of t) q
  pub address : (id : ℕ) (s : Side) (a : Guest) → translated l c t id s a ≡ translation (table_of t) id s a.0
  pub requests : (qs : List Request) → run_answer l c t qs ≡ ended (run l (config_of c) (table_of t) qs)

-- for every configuration and table that stand
abbrev pub StandingIsInside : Limits → Type 0
StandingIsInside l = (c : StoredConfig) (t : StoredTable) → Stands l c t → OutsideIsInside l c t

-- ---- the configuration's check, in numbers: 0 or C1 to C6, its place, and for C6 the lowest earlier position
pub data Finds (l : Limits) (s : StoredConfig) : ℕ → ℕ → ℕ → Type 0 where
  nothing : Means l s Sound → Finds l s 0 0 0
  c1 : Means l s BadCount → Finds l s 1 0 0
  c2 : Means l s BadGic → Finds l s 2 0 0
  c3 : (k : ℕ) → Means l s (NotZero k) → Finds l s 3 k 0
  c4 : (i : ℕ) → Means l s (Malformed i) → Finds l s 4 i 0
  c5 : (i : ℕ) → Means l s (OutOfReach i) → Finds l s 5 i 0
  c6 : (i k : ℕ) → Means l s (Overlap i k) → Finds l s 6 i k

-- number, place and earlier place are told exactly when that is found; a stored
-- configuration has a record for each region that there is room for
abbrev pub CheckNumbersAreExact : Limits → Type 0
CheckNumbersAreExact l =
    (s : StoredConfig) → length s.records ≡ l.regions → (n i k : ℕ)
    → ((check_number (check l s) ≡ n) × (check_place (check l s) ≡ i) × (check_earlier (check l s) ≡ k)) ↔ Finds l s n i k
