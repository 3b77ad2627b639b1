-- The map listing: a line for each region of a table, zones in table order, CPU then IOMMU; and how long it can be.
use Rattle.std.specs.Prelude.{ℕ, ◌+◌, ◌-◌, ◌*◌, ◌/◌, ◌^◌, ◌≤◌, cond, ◌≡◌, eqb, ℤ, pos, negsuc, length}
use mathlib.Core.List.{List, [], ◌∷◌, ◌++◌, flat_map}
use Rattle.std.proofs.Math.IntN.{sub_ℕ}
use Rattle.formats.specs.Formats.{Out, got, bad}
use Rattle.formats.specs.Texts.{ascii, decimal, signed, hex, line_of}
use Rattle.rules.specs.Applying.{plain, apply, base_of, Applied}
use Rattle.rules.specs.Configuration.{StoredConfig}
use Rattle.rules.specs.Filling.{own_rule, filling, Filled}
use Rattle.rules.specs.Limits.{Limits}
use Rattle.rules.specs.Plan.{read_plan, Plan}
use Rattle.rules.specs.Tables.{table_of, Zone, StoredTable}
use Rattle.rules.specs.declared.Region.{Region}
use Rattle.rules.specs.declared.Side.{Side}
use Rattle.rules.specs.declared.Side.TheVariants.{Cpu, Iommu}

-- physical start minus guest start, counted in pages, with its sign
unfoldable pub shift : ℕ → Region → ℤ
shift page r = sub_ℕ (r.p.0 / page) (r.v.0 / page)

-- the word of a side
unfoldable pub side_word : Side → List ℕ
side_word Cpu = ascii "CPU"
side_word Iommu = ascii "IOMMU"

-- ---- a line: zone id, side, guest start, physical start, size, rights, shift
unfoldable pub fields_of : Limits → ℕ → Side → Region → List (List ℕ)
fields_of l id s r =
    decimal id
    ∷ side_word s
    ∷ hex r.v.0
    ∷ hex r.p.0
    ∷ hex r.size
    ∷ decimal r.rights.0
    ∷ signed (shift l.page r)
    ∷ []

abbrev pub line : Limits → ℕ → Side → Region → List ℕ
line l id s r = line_of (fields_of l id s r)

-- ---- the lines of a set, of a zone, of a table
abbrev pub set_lines : Limits → ℕ → Side → List Region → List ℕ
set_lines l id s xs = flat_map (line l id s) xs

unfoldable pub zone_lines : Limits → Zone → List ℕ
zone_lines l z = set_lines l z.id Cpu z.cpu ++ set_lines l z.id Iommu z.iommu

unfoldable pub listing : Limits → List Zone → List ℕ
listing l t = flat_map (zone_lines l) t

-- ---- into a lent buffer
-- the library: 1 or 2; then 28, or the listing of the table
unfoldable pub list : Limits → StoredConfig → StoredTable → List ℕ → Filled
list l c t w = filling (own_rule l c t ∷ []) (listing l (table_of t)) w

-- the program: a plan is applied to its own configuration, edition and zones, and the table that it leaves is listed; a
-- refused plan has its answer, and changes no byte
unfoldable pub list_after : Limits → Applied → List ℕ → Filled
list_after l a w =
    cond (eqb a.outcome.number 0) (list l a.state.config a.state.table w) (record
    { outcome = a.outcome; buffer = w })

unfoldable pub list_read : Limits → List ℕ → List ℕ → Out Plan → Filled
list_read l b w (bad k left) = record { outcome = plain k (length b - length left); buffer = w }
list_read l b w (got p left) = list_after l (apply l (base_of l p) b) w

abbrev pub list_alone : Limits → List ℕ → List ℕ → Filled
list_alone l b w = list_read l b w (read_plan l b)

-- ---- how long it can be
-- `0x` and 16 digits; an id up to 255; rights up to 7; a shift from -(2^28 - 1) to 2^36 - 1
abbrev pub hex_width : ℕ
hex_width = 18

abbrev pub id_width : ℕ
id_width = 3

abbrev pub rights_width : ℕ
rights_width = 1

abbrev pub shift_width : ℕ
shift_width = 11

-- the longest line of a side: each field, and what stands after it
unfoldable pub longest_line : Side → ℕ
longest_line s =
    (id_width + 1) + (length (side_word s) + 1) + 3 * (hex_width + 1) + (rights_width + 1) + (shift_width + 1)

-- both sets of every zone full of them
unfoldable pub longest_listing : Limits → ℕ
longest_listing l = l.zones * (l.in_set * longest_line Cpu + l.in_set * longest_line Iommu)

-- ---- what the shift is, and where it lies
-- p is v and so many pages, or v is p and so many
abbrev pub PagesFrom : ℕ → ℕ → ℕ → ℤ → Type 0
PagesFrom page v p (pos n) = p ≡ v + n * page
PagesFrom page v p (negsuc n) = v ≡ p + (n + 1) * page

-- from -lo to hi
abbrev pub FromTo : ℕ → ℕ → ℤ → Type 0
FromTo lo hi (pos n) = n ≤ hi
FromTo lo hi (negsuc n) = n + 1 ≤ lo

abbrev pub lowest_shift : ℕ
lowest_shift = 2 ^ 28 - 1

abbrev pub highest_shift : ℕ
highest_shift = 2 ^ 36 - 1

-- terminals whose shifts lie so: pages of 4 KiB, guest addresses up to 2^40, physical ones up to 2^48
pub record Reaches (l : Limits) : Type 0 where
  pub page : l.page ≡ 4096
  pub guest : l.guest_reach ≤ 2 ^ 40
  pub phys : l.phys_reach ≤ 2 ^ 48
