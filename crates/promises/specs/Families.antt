-- Families of terminals: each has its own limits and a format of plans, and every promise above holds for each. Here is
-- what a terminal does with a plan that was made for other limits, or in another format.
use Rattle.std.specs.Prelude.{ℕ, ◌+◌, ◌*◌, ◌^◌, ◌≤◌, ◌<◌, false, List, [], ◌∷◌, ◌++◌, ◌≡◌, ltb, length, get_or, replicate}
use Rattle.lists.specs.Bytes.{bytes_of, Bytes}
use Rattle.lists.specs.Room.{room}
use Rattle.lists.specs.Rules.{◌when◌, Silent, Rule, Applies}
use Rattle.formats.specs.Formats.{got}
use Rattle.formats.specs.Sizes.{along}
use Rattle.rules.specs.Applying.{store, plain, apply_by, apply, store_config, Applied, Terminal, TerminalOf}
use Rattle.rules.specs.Configuration.{config_of, check, StoredConfig}
use Rattle.rules.specs.Desk.{usual, A, G, whole_plan, desk_terminal}
use Rattle.rules.specs.Limits.{first_format, second_format, mark_count, limits, Limits}
use Rattle.rules.specs.Fields.{short_size, region_size}
use Rattle.rules.specs.OwnedPlan.{owned_steps}
use Rattle.rules.specs.Owners.{owned_standing, StoredOwned}
use Rattle.rules.specs.Plan.{read_plan, Plan}
use Rattle.rules.specs.Regions.{no_region}
use Rattle.rules.specs.Requests.{insert, answers, standing}
use Rattle.rules.specs.Sizes.{marks_size, regions_size, zone_size, zones_at, requests_at}
use Rattle.rules.specs.Tables.{empty_zone, Zone}
use Rattle.rules.specs.declared.Checked.TheVariants.{Sound}
use Rattle.rules.specs.declared.Region.{Region}
use Rattle.rules.specs.declared.Request.{Request}
use Rattle.rules.specs.declared.Side.TheVariants.{Cpu, Iommu}

-- the terminal refuses the bytes with 21 at a place, and stays as it is
abbrev pub Refuses21 : Limits → Terminal → List ℕ → ℕ → Type 0
Refuses21 l s b place = apply l s b ≡ record { outcome = plain 21 place; state = s }

-- a terminal on limits `own`, itself sound under them, and bytes that are a whole plan on limits `wide`, in the
-- terminal's format
pub record Meets (own wide : Limits) (s : Terminal) (b : List ℕ) (p : Plan) : Type 0 where
  pub stands : standing own s.config s.table ≡ 0
  pub bytes : Bytes b
  pub reads : read_plan wide b ≡ got p []
  pub format : wide.last_marks ≡ own.last_marks

-- the counts of a plan that are above a family's limits, each where it stands, in file order: the regions, the zones, the
-- two sets of each zone, the requests
abbrev pub sets_above : Limits → ℕ → Zone → List (Rule ℕ)
sets_above l at z =
    (at + short_size) when ltb l.in_set (length z.cpu)
    ∷ (at + short_size + regions_size (length z.cpu)) when ltb l.in_set (length z.iommu)
    ∷ []

unfoldable pub counts_above : Limits → Plan → List (Rule ℕ)
counts_above l p =
    marks_size l when ltb l.regions (length p.regions)
    ∷ zones_at l p when ltb l.zones (length p.zones)
    ∷ (along zone_size (sets_above l) (zones_at l p + short_size) p.zones
    ++ requests_at l p when ltb l.requests (length p.asked)
    ∷ [])

-- the first count above its own limits is refused, where it stands
abbrev pub AboveIsRefused : Limits → Limits → Type 0
AboveIsRefused own wide = (s : Terminal) (b : List ℕ) (p : Plan) → Meets own wide s b p
    → (k : ℕ) → Applies (counts_above own p) (0 when false) k
    → Refuses21 own s b (get_or (counts_above own p) k (0 when false)).0

-- with no count above its own limits it reads the plan alike
abbrev pub WithinIsRead : Limits → Limits → Type 0
WithinIsRead own wide =
    (s : Terminal) (b : List ℕ) (p : Plan) → Meets own wide s b p → Silent (counts_above own p) (0 when false)
    → read_plan own b ≡ got p []

-- ---- there are such
-- a terminal that holds nothing, with the GIC only, as a family stores it
abbrev pub gic_only : Limits → Terminal
gic_only l = record { config = store_config l (record { regions = G ∷ []; gic = 0 }); table = store l []; edition = 0 }

-- such a terminal meets a plan, and P holds of it
abbrev pub MetWith : Limits → Limits → (Plan → Type 0) → Type 0
MetWith own wide P = (b : List ℕ) × (p : Plan) × Meets own wide (gic_only own) b p × P p

-- limits that allow one more of each
abbrev pub one_more : Limits → Limits
one_more l = record {
  page = l.page;
  iommu_page = l.iommu_page;
  guest_reach = l.guest_reach;
  phys_reach = l.phys_reach;
  regions = l.regions + 1;
  zones = l.zones + 1;
  in_set = l.in_set + 1;
  requests = l.requests + 1;
  last_marks = l.last_marks;
}

-- on the document's limits each kind of count is the first above them in some plan: the regions (0), the zones (1);
-- with one zone, its CPU set (2), its IOMMU set (3), the requests (4)
abbrev pub AboveIsMet : Type 0
AboveIsMet =
    (k : ℕ) → k < 5 → MetWith limits (one_more limits) (λ p. Applies (counts_above limits p) (0 when false) k)

-- and a plan within them
abbrev pub WithinIsMet : Type 0
WithinIsMet = MetWith limits (one_more limits) (λ p. Silent (counts_above limits p) (0 when false))

-- ---- request 4 of document 02: 32 zones over 256 regions, where there were 8 over 64; all else stays
abbrev pub old_limits : Limits
old_limits = record { page = limits.page; iommu_page = limits.iommu_page; guest_reach = limits.guest_reach; phys_reach = limits.phys_reach; regions = 64; zones = 8; in_set = limits.in_set; requests = limits.requests; last_marks = limits.last_marks }

-- a plan with more regions than the old limits allow; with no more of these, but more zones; with neither
abbrev pub ManyRegions : Plan → Type 0
ManyRegions p = old_limits.regions < length p.regions

abbrev pub ManyZones : Plan → Type 0
ManyZones p = (length p.regions ≤ old_limits.regions) × (old_limits.zones < length p.zones)

abbrev pub AsBefore : Plan → Type 0
AsBefore p = (length p.regions ≤ old_limits.regions) × (length p.zones ≤ old_limits.zones)

-- a sound terminal still on the old limits answers a whole plan with such a count with 21, where the count stands, and
-- does not change: at 16, before the regions, or behind them. A plan with neither it reads
abbrev pub OldTerminalsRefuse : Type 0
OldTerminalsRefuse =
    (s : Terminal) (b : List ℕ) (p : Plan) → Meets old_limits limits s b p
    → (ManyRegions p → Refuses21 old_limits s b 16)
    × (ManyZones p → Refuses21 old_limits s b (20 + length p.regions * region_size))
    × (AsBefore p → read_plan old_limits b ≡ got p [])

-- there are such: a sound terminal on the old limits, and whole plans of each of the three
abbrev pub OldTerminalsMeet : Type 0
OldTerminalsMeet = MetWith old_limits limits ManyRegions × MetWith old_limits limits ManyZones × MetWith old_limits limits AsBefore

-- ---- formats
-- bytes that begin with a count of marks that is not the family's, whatever stands behind it
abbrev pub OtherCountRefused : Limits → Type 0
OtherCountRefused l =
    (s : Terminal) (n : ℕ) (b : List ℕ) → standing l s.config s.table ≡ 0 → n < 256 ^ short_size
    → (n ≡ mark_count l → ⊥) → Refuses21 l s (bytes_of short_size n ++ b) 0

-- and at a terminal with owners
abbrev pub OwnedOtherCountRefused : Limits → Type 0
OwnedOtherCountRefused l =
    (s : TerminalOf StoredOwned) (n : ℕ) (b : List ℕ) → owned_standing l s.config s.table ≡ 0
    → n < 256 ^ short_size → (n ≡ mark_count l → ⊥)
    → apply_by (owned_steps l) s (bytes_of short_size n ++ b) ≡ record { outcome = plain 21 0; state = s }

-- so a whole plan in a format with another count of marks
abbrev pub WholeRefused : Limits → Limits → Type 0
WholeRefused own other =
    (s : Terminal) (b : List ℕ) (p : Plan) → standing own s.config s.table ≡ 0 → Bytes b
    → read_plan other b ≡ got p [] → Refuses21 own s b 0

abbrev pub OtherFormatRefused : Limits → Limits → Type 0
OtherFormatRefused own other = (mark_count other ≡ mark_count own → ⊥) → WholeRefused own other

-- request 7 of document 02: a terminal of the second format refuses what begins as a plan of the first, also one whose
-- regions have other numbers than these, and the other way round; and so whole plans, whatever the limits are
pub record FormatsApart (first second : Limits) : Type 0 where
  pub new : (s : Terminal) (b : List ℕ) → standing second s.config s.table ≡ 0
      → Refuses21 second s (bytes_of short_size 2 ++ b) 0
  pub old : (s : Terminal) (b : List ℕ) → standing first s.config s.table ≡ 0
      → Refuses21 first s (bytes_of short_size 3 ++ b) 0
  pub whole_first : WholeRefused second first
  pub whole_second : WholeRefused first second

abbrev pub FormatsAreApart : Type 0
FormatsAreApart = (first second : Limits) → first.last_marks ≡ first_format → second.last_marks ≡ second_format → FormatsApart first second

-- ---- as examples: terminals before request 7, with 1,024 requests and plans of the first format
abbrev pub first_limits : Limits
first_limits = record { page = limits.page; iommu_page = limits.iommu_page; guest_reach = limits.guest_reach; phys_reach = limits.phys_reach; regions = limits.regions; zones = limits.zones; in_set = limits.in_set; requests = 1024; last_marks = first_format }

-- document 01's whole plan as it stood then: 80 bytes, with three numbers a region
abbrev pub first_plan : List ℕ
first_plan =
    2 ∷ 0 ∷ 0 ∷ 0 ∷ replicate 8 0
    ++ 1 ∷ 0 ∷ 0 ∷ 0
    ∷ 0 ∷ 0 ∷ 0 ∷ 8 ∷ 0 ∷ 0 ∷ 0 ∷ 0
    ∷ 0 ∷ 0 ∷ 0 ∷ 8 ∷ 0 ∷ 0 ∷ 0 ∷ 0
    ∷ 0 ∷ 0 ∷ 1 ∷ 0 ∷ 0 ∷ 0 ∷ 0 ∷ 0
    ∷ 0 ∷ 0 ∷ 0 ∷ 0
    ∷ 1 ∷ 0 ∷ 0 ∷ 0 ∷ 1 ∷ 0 ∷ 0 ∷ 0 ∷ 5 ∷ 0 ∷ 0 ∷ 0 ∷ replicate 24 0

-- each is 21 at offset 0 at the other's terminal, which stays; the second is accepted at its own
abbrev pub refused_at_once : Applied
refused_at_once = record { outcome = plain 21 0; state = desk_terminal }

abbrev pub FormatsShown : Type 0
FormatsShown =
    (length first_plan ≡ 80)
    × (length whole_plan ≡ 100)
    × (apply limits desk_terminal first_plan ≡ refused_at_once)
    × (apply first_limits desk_terminal whole_plan ≡ refused_at_once)
    × ((apply limits desk_terminal whole_plan).outcome ≡ plain 0 1)

-- ---- a family whose devices have pages of 64 KiB
abbrev pub wide_pages : Limits
wide_pages = record { page = limits.page; iommu_page = 0x10000; guest_reach = limits.guest_reach; phys_reach = limits.phys_reach; regions = limits.regions; zones = limits.zones; in_set = limits.in_set; requests = limits.requests; last_marks = limits.last_marks }

-- a region of one page of 4 KiB, configured beside the GIC, and asked for on both sides in zone 5; and the desk's
-- region A, which is a multiple of either page
abbrev pub narrow : Region
narrow = usual 0x40000000 0x90001000 0x1000

abbrev pub narrow_config : StoredConfig
narrow_config = record { count = 3; gic = 2; records = room limits.regions no_region (narrow ∷ A ∷ G ∷ []) }

abbrev pub asked_both : List Request
asked_both = insert Cpu narrow 5 ∷ insert Iommu narrow 5 ∷ insert Iommu A 5 ∷ []

-- the configuration is sound for both families; the document's accepts the narrow region for devices and then has no
-- room for A there; the other answers 9, and accepts A
abbrev pub WidePagesShown : Type 0
WidePagesShown =
    (check limits narrow_config ≡ Sound)
    × (check wide_pages narrow_config ≡ Sound)
    × (answers limits (config_of narrow_config) (empty_zone 5 ∷ []) asked_both ≡ 0 ∷ 0 ∷ 15 ∷ [])
    × (answers wide_pages (config_of narrow_config) (empty_zone 5 ∷ []) asked_both ≡ 0 ∷ 9 ∷ 0 ∷ [])
