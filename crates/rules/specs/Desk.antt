-- The desk examples that are to be proved.
use Rattle.std.specs.Prelude.{ℕ, true, List, [], ◌∷◌, map, ◌≡◌, replicate}
use Rattle.lists.specs.Room.{room}
use Rattle.rules.specs.Applying.{store, plain, apply, Terminal, Applied}
use Rattle.rules.specs.Configuration.{config_of, check, StoredConfig}
use Rattle.rules.specs.Limits.{most_regions, limits}
use Rattle.rules.specs.Fields.{region_of, region_size}
use Rattle.rules.specs.Regions.{no_region}
use Rattle.rules.specs.Requests.{add_zone, drop_zone, insert, remove, answers}
use Rattle.rules.specs.Tables.{empty_zone, sound, Zone}
use Rattle.rules.specs.declared.Checked.TheVariants.{Sound}
use Rattle.rules.specs.declared.Region.{Region}
use Rattle.rules.specs.declared.Request.{Request}
use Rattle.rules.specs.declared.Side.TheVariants.{Cpu, Iommu}

-- a region that may be read and written, as all of the document's
abbrev pub usual : ℕ → ℕ → ℕ → Region
usual v p size = region_of v p size 3

abbrev pub A : Region
A = usual 0x40000000 0x80000000 0x200000

abbrev pub B : Region
B = usual 0x40000000 0x80200000 0x200000

abbrev pub C : Region
C = usual 0x40100000 0x90000000 0x200000

abbrev pub G : Region
G = usual 0x08000000 0x08000000 0x10000

-- the configuration, as it is stored; G is the GIC
abbrev pub desk_config : StoredConfig
desk_config = record { count = 4; gic = 3; records = room most_regions no_region (A ∷ B ∷ C ∷ G ∷ []) }

-- zones 5 and 6 exist, empty
abbrev pub desk_zones : List Zone
desk_zones = empty_zone 5 ∷ empty_zone 6 ∷ []

-- requests one after another from the desk's zones, and their numbers
pub record Shown : Type 0 where
  pub requests : List Request
  pub numbers : List ℕ

abbrev pub starred : List Shown
starred =
    record { requests = add_zone 5 ∷ add_zone 256 ∷ []; numbers = 5 ∷ 4 ∷ [] }
    ∷ record { requests = insert Cpu A 5 ∷ insert Cpu A 5 ∷ insert Iommu A 5 ∷ insert Iommu A 6 ∷ []; numbers = 0 ∷ 13 ∷ 0 ∷ 14 ∷ [] }
    ∷ record { requests = insert Cpu G 5 ∷ insert Iommu G 5 ∷ insert Iommu G 6 ∷ insert Iommu G 5 ∷ []; numbers = 12 ∷ 0 ∷ 0 ∷ 13 ∷ [] }
    ∷ record { requests = insert Cpu A 5 ∷ insert Cpu C 5 ∷ []; numbers = 0 ∷ 15 ∷ [] }
    ∷ record { requests = insert Iommu G 5 ∷ drop_zone 5 ∷ remove Iommu G 5 ∷ drop_zone 5 ∷ []; numbers = 0 ∷ 8 ∷ 0 ∷ 0 ∷ [] }
    ∷ []

-- the whole plan: the GIC only, edition 0, add zone 5
abbrev pub whole_plan : List ℕ
whole_plan =
    3 ∷ 0 ∷ 0 ∷ 0 ∷ 0 ∷ 0 ∷ 0 ∷ 0 ∷ 0 ∷ 0 ∷ 0 ∷ 0 ∷ 2 ∷ 0 ∷ 0 ∷ 0
    ∷ 1 ∷ 0 ∷ 0 ∷ 0
    ∷ 0 ∷ 0 ∷ 0 ∷ 8 ∷ 0 ∷ 0 ∷ 0 ∷ 0
    ∷ 0 ∷ 0 ∷ 0 ∷ 8 ∷ 0 ∷ 0 ∷ 0 ∷ 0
    ∷ 0 ∷ 0 ∷ 1 ∷ 0 ∷ 0 ∷ 0 ∷ 0 ∷ 0
    ∷ 3 ∷ 0 ∷ 0 ∷ 0 ∷ 0 ∷ 0 ∷ 0 ∷ 0
    ∷ 0 ∷ 0 ∷ 0 ∷ 0
    ∷ 1 ∷ 0 ∷ 0 ∷ 0 ∷ 1 ∷ 0 ∷ 0 ∷ 0 ∷ 5 ∷ 0 ∷ 0 ∷ 0 ∷ replicate region_size 0

-- a terminal with its configuration, edition 0, no zones
abbrev pub desk_terminal : Terminal
desk_terminal = record { config = record { count = 1; gic = 0; records = room most_regions no_region (G ∷ []) }; table = store limits []; edition = 0 }

-- the plan once, and again at the state that it leaves
abbrev pub once : Applied
once = apply limits desk_terminal whole_plan

abbrev pub twice : Applied
twice = apply limits once.state whole_plan

-- the claim: the configuration passes its check, the zones are sound, and each example gives its numbers; the whole
-- plan is accepted, and refused when it comes again
abbrev pub DeskShown : Type 0
DeskShown =
    (check limits desk_config ≡ Sound)
    × (sound limits (config_of desk_config) desk_zones ≡ true)
    × (map (λ (s : Shown). answers limits (config_of desk_config) desk_zones s.requests) starred
    ≡ map (λ (s : Shown). s.numbers) starred)
    × (once.outcome ≡ plain 0 1)
    × (twice.outcome ≡ plain 24 0)
