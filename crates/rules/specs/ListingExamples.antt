-- The listing by computation: the document's line, both ends of the shift, the order of lines, and what a buffer then
-- is.
use Rattle.std.specs.Prelude.{ℕ, ◌+◌, ◌-◌, ◌^◌, List, [], ◌∷◌, ◌++◌, ◌≡◌, pos, negsuc, length}
use Rattle.formats.specs.Texts.{ascii}
use Rattle.rules.specs.Applying.{store, plain, store_config}
use Rattle.rules.specs.Configuration.{StoredConfig}
use Rattle.rules.specs.Desk.{A, G, whole_plan}
use Rattle.rules.specs.Fields.{region_of}
use Rattle.rules.specs.Limits.{limits, Limits}
use Rattle.rules.specs.Listing.{shift, line, listing, list, list_alone, longest_listing, FromTo, lowest_shift, highest_shift}
use Rattle.rules.specs.Tables.{empty_zone, Zone, StoredTable}
use Rattle.rules.specs.WriterExamples.{sevens}
use Rattle.rules.specs.declared.Outcome.{Outcome}
use Rattle.rules.specs.declared.Region.{Region}
use Rattle.rules.specs.declared.Side.TheVariants.{Cpu}

-- the document's line: region A with rights 3 in zone 5
abbrev pub document_line : List ℕ
document_line = ascii "5 CPU 0x0000000040000000 0x0000000080000000 0x0000000000200000 3 262144\n"

-- a region whose physical start is below its guest start by the most that there can be; and one above it by the most
abbrev pub Low : Region
Low = region_of (2 ^ 40 - 4096) 0 4096 5

abbrev pub High : Region
High = region_of 0 (2 ^ 48 - 4096) 4096 1

-- three zones, the second without a line
abbrev pub three_zones : List Zone
three_zones =
    record { id = 5; cpu = A ∷ []; iommu = G ∷ [] }
    ∷ empty_zone 6
    ∷ record { id = 255; cpu = Low ∷ High ∷ []; iommu = [] }
    ∷ []

abbrev pub three_lines : List ℕ
three_lines =
    document_line
    ++ (ascii "5 IOMMU 0x0000000008000000 0x0000000008000000 0x0000000000010000 3 0\n"
    ++ (ascii "255 CPU 0x000000fffffff000 0x0000000000000000 0x0000000000001000 5 -268435455\n"
    ++ ascii "255 CPU 0x0000000000000000 0x0000fffffffff000 0x0000000000001000 1 68719476735\n"))

-- ---- the library, at zone 5 with A
abbrev pub config : StoredConfig
config = store_config limits (record { regions = A ∷ G ∷ []; gic = 1 })

abbrev pub table : StoredTable
table = store limits (record { id = 5; cpu = A ∷ []; iommu = [] } ∷ [])

-- the same with a region that is not configured
abbrev pub unsound : StoredTable
unsound = store limits (record { id = 5; cpu = Low ∷ []; iommu = [] } ∷ [])

-- what is answered, and the whole buffer afterwards
abbrev pub Fills : StoredConfig → StoredTable → List ℕ → Outcome → List ℕ → Type 0
Fills c t w o v = list limits c t w ≡ record { outcome = o; buffer = v }

-- ---- where the processor's page is of 64 KiB, a shift counts such pages
abbrev pub wider : Limits
wider = record { page = 65536; iommu_page = 65536; guest_reach = limits.guest_reach; phys_reach = limits.phys_reach; regions = limits.regions; zones = limits.zones; in_set = limits.in_set; requests = limits.requests; last_marks = limits.last_marks }

abbrev pub wider_line : List ℕ
wider_line = ascii "5 CPU 0x0000000040000000 0x0000000080000000 0x0000000000200000 3 16384\n"

-- ---- both ends of a range belong to it, and what lies beyond them does not
abbrev pub RangeShown : Type 0
RangeShown =
    FromTo 3 5 (pos 5) × (FromTo 3 5 (pos 6) → ⊥) × FromTo 3 5 (negsuc 2) × (FromTo 3 5 (negsuc 3) → ⊥)

-- the claim: the document's line, and that with pages of 64 KiB; the lowest shift and the highest; zones in table order, CPU then IOMMU, none for a
-- zone without regions; the longest listing. Then into a longer buffer, where what lies behind stays; into one of the
-- line's length; 28 in one of a byte less, and no byte changes; 2 and 1, though there is no room. The program writes
-- nothing for the document's whole plan, whose zone holds nothing; and says 20 of one that is cut
abbrev pub ListingShown : Type 0
ListingShown =
    (line limits 5 Cpu A ≡ document_line)
    × (line wider 5 Cpu A ≡ wider_line)
    × (shift 4096 Low ≡ negsuc (lowest_shift - 1))
    × (shift 4096 High ≡ pos highest_shift)
    × (listing limits three_zones ≡ three_lines)
    × (longest_listing limits ≡ 81920)
    × Fills config table (sevens (length document_line + 2)) (plain 0 (length document_line)) (document_line ++ sevens 2)
    × Fills config table (sevens (length document_line)) (plain 0 (length document_line)) document_line
    × Fills config table (sevens (length document_line - 1)) (plain 28 0) (sevens (length document_line - 1))
    × Fills config unsound [] (plain 2 0) []
    × Fills (record { count = 0; gic = 0; records = [] }) unsound [] (plain 1 0) []
    × (list_alone limits whole_plan (sevens 2) ≡ record { outcome = plain 0 0; buffer = sevens 2 })
    × (list_alone limits (3 ∷ []) (sevens 2) ≡ record { outcome = plain 20 0; buffer = sevens 2 })
