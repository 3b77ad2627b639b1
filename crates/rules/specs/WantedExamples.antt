-- Requests worked out from two tables, on the desk's configuration.
use Rattle.std.specs.Prelude.{ℕ, ◌*◌, ◌-◌, List, [], ◌∷◌, ◌++◌, ◌≡◌, replicate}
use Rattle.rules.specs.Applying.{store}
use Rattle.rules.specs.Configuration.{config_of, StoredConfig}
use Rattle.rules.specs.Desk.{A, B, C, G, desk_config}
use Rattle.rules.specs.Limits.{limits, Limits}
use Rattle.rules.specs.Requests.{add_zone, drop_zone, insert, remove}
use Rattle.rules.specs.Run.{request_size, run}
use Rattle.rules.specs.Tables.{empty_zone, Zone, StoredTable}
use Rattle.rules.specs.Wanted.{requests_for, no_list, worked, listed, Listed}
use Rattle.rules.specs.declared.Region.{Region}
use Rattle.rules.specs.declared.Request.{Request}
use Rattle.rules.specs.declared.Side.TheVariants.{Cpu, Iommu}

abbrev pub holder : ℕ → List Region → List Region → Zone
holder id xs ys = record { id = id; cpu = xs; iommu = ys }

-- the table that is there, and the one that is wanted: A goes from 5 to the new zone 9, C from 7, which goes, to 5; and
-- B changes sides in 6
abbrev pub given : List Zone
given = holder 5 (A ∷ []) (A ∷ G ∷ []) ∷ holder 6 (B ∷ []) (G ∷ []) ∷ holder 7 (C ∷ []) [] ∷ []

abbrev pub wanted : List Zone
wanted = holder 9 (A ∷ []) [] ∷ holder 6 [] (B ∷ G ∷ []) ∷ holder 5 (C ∷ []) (G ∷ []) ∷ []

abbrev pub nine : List Request
nine =
    remove Cpu A 5
    ∷ remove Iommu A 5
    ∷ remove Cpu B 6
    ∷ remove Cpu C 7
    ∷ drop_zone 7
    ∷ add_zone 9
    ∷ insert Cpu A 9
    ∷ insert Iommu B 6
    ∷ insert Cpu C 5
    ∷ []

-- where they lead: the wanted zones and sets, in another order
abbrev pub reached : List Zone
reached = holder 5 (C ∷ []) (G ∷ []) ∷ holder 6 [] (G ∷ B ∷ []) ∷ holder 9 (A ∷ []) [] ∷ []

-- limits with room for so many requests; a configuration with a count of 0, and a table in which an id stands twice
abbrev pub up_to : ℕ → Limits
up_to n = record { page = limits.page; iommu_page = limits.iommu_page; guest_reach = limits.guest_reach; phys_reach = limits.phys_reach; regions = limits.regions; zones = limits.zones; in_set = limits.in_set; requests = n; last_marks = limits.last_marks }

abbrev pub no_config : StoredConfig
no_config = record { count = 0; gic = 0; records = desk_config.records }

abbrev pub stored : List Zone → StoredTable
stored t = store limits t

abbrev pub doubled : StoredTable
doubled = stored (empty_zone 5 ∷ empty_zone 5 ∷ [])

-- the list, its run, the refusals, and nothing to do where only the order differs; where two zones go and two come, each
-- in its table's order
pub record WorkedShown : Type 0 where
  pub list : requests_for given wanted ≡ nine
  pub ran : run limits (config_of desk_config) given nine ≡ record { place = 9; inner = 0; table = reached }
  pub fits : worked (up_to 9) desk_config (stored given) (stored wanted) ≡ record { number = 0; requests = nine }
  pub over : worked (up_to 8) desk_config (stored given) (stored wanted) ≡ no_list 29
  pub unsound : worked (up_to 8) no_config doubled (stored wanted) ≡ no_list 1
  pub first : worked (up_to 8) desk_config doubled (stored wanted) ≡ no_list 2
  pub second : worked (up_to 8) desk_config (stored given) doubled ≡ no_list 2
  pub order : requests_for reached wanted ≡ []
  pub two : requests_for (empty_zone 6 ∷ empty_zone 5 ∷ []) (empty_zone 9 ∷ empty_zone 8 ∷ [])
      ≡ drop_zone 6 ∷ drop_zone 5 ∷ add_zone 9 ∷ add_zone 8 ∷ []

-- ---- into a buffer
-- zone 7 holding B and zone 6 are there; zone 6 holding G is wanted: three requests, and their bytes by hand
abbrev pub some : StoredTable
some = stored (holder 7 (B ∷ []) [] ∷ empty_zone 6 ∷ [])

abbrev pub other : StoredTable
other = stored (holder 6 [] (G ∷ []) ∷ [])

abbrev pub three : List ℕ
three =
    4 ∷ 0 ∷ 0 ∷ 0 ∷ 7 ∷ 0 ∷ 0 ∷ 0
    ∷ 0 ∷ 0 ∷ 0 ∷ 0x40 ∷ 0 ∷ 0 ∷ 0 ∷ 0 ∷ 0 ∷ 0 ∷ 0x20 ∷ 0x80 ∷ 0 ∷ 0 ∷ 0 ∷ 0
    ∷ 0 ∷ 0 ∷ 0x20 ∷ 0 ∷ 0 ∷ 0 ∷ 0 ∷ 0 ∷ 3 ∷ 0 ∷ 0 ∷ 0 ∷ 0 ∷ 0 ∷ 0 ∷ 0
    ∷ 2 ∷ 0 ∷ 0 ∷ 0 ∷ 7 ∷ 0 ∷ 0 ∷ 0
    ∷ 0 ∷ 0 ∷ 0 ∷ 0 ∷ 0 ∷ 0 ∷ 0 ∷ 0 ∷ 0 ∷ 0 ∷ 0 ∷ 0 ∷ 0 ∷ 0 ∷ 0 ∷ 0
    ∷ 0 ∷ 0 ∷ 0 ∷ 0 ∷ 0 ∷ 0 ∷ 0 ∷ 0 ∷ 0 ∷ 0 ∷ 0 ∷ 0 ∷ 0 ∷ 0 ∷ 0 ∷ 0
    ∷ 5 ∷ 0 ∷ 0 ∷ 0 ∷ 6 ∷ 0 ∷ 0 ∷ 0
    ∷ 0 ∷ 0 ∷ 0 ∷ 8 ∷ 0 ∷ 0 ∷ 0 ∷ 0 ∷ 0 ∷ 0 ∷ 0 ∷ 8 ∷ 0 ∷ 0 ∷ 0 ∷ 0
    ∷ 0 ∷ 0 ∷ 1 ∷ 0 ∷ 0 ∷ 0 ∷ 0 ∷ 0 ∷ 3 ∷ 0 ∷ 0 ∷ 0 ∷ 0 ∷ 0 ∷ 0 ∷ 0 ∷ []

-- a buffer of so many bytes
abbrev pub lent : ℕ → List ℕ
lent n = replicate n 0xEE

-- a refusal: none are counted, and the buffer is as it was
abbrev pub left : ℕ → List ℕ → Listed
left n b = record { number = n; count = 0; buffer = b }

-- exactly enough; two bytes more; a byte too few, also where there is nothing to write; and the numbers before 28
pub record ListedShown : Type 0 where
  pub enough : listed limits desk_config some other (lent (3 * request_size))
      ≡ record { number = 0; count = 3; buffer = three }
  pub more : listed limits desk_config some other (lent (3 * request_size) ++ 1 ∷ 2 ∷ [])
      ≡ record { number = 0; count = 3; buffer = three ++ 1 ∷ 2 ∷ [] }
  pub short : listed limits desk_config some other (lent (3 * request_size - 1)) ≡ left 28 (lent (3 * request_size - 1))
  pub nothing : listed limits desk_config some some [] ≡ record { number = 0; count = 0; buffer = [] }
  pub over : listed (up_to 2) desk_config some other (lent 3) ≡ left 29 (lent 3)
  pub unsound : listed (up_to 2) desk_config some doubled (lent 3) ≡ left 2 (lent 3)
