-- Examples of the two checks, and of the answers from outside, where 1 and 2 come first.
use Rattle.std.specs.Prelude.{ℕ, ◌+◌, ◌*◌, ◌-◌, Bool, true, false, List, [], ◌∷◌, ◌++◌, map, ◌≡◌, length}
use Rattle.lists.specs.First.{any, all}
use Rattle.lists.specs.Places.{tab}
use Rattle.lists.specs.Room.{room}
use Rattle.rules.specs.Applying.{store_zone, store, plain, store_config}
use Rattle.rules.specs.Configuration.{check, check_number, check_place, check_earlier, StoredConfig}
use Rattle.rules.specs.Desk.{usual, desk_zones}
use Rattle.rules.specs.Limits.{limits, Limits}
use Rattle.rules.specs.Fields.{region_of}
use Rattle.rules.specs.Regions.{no_region}
use Rattle.rules.specs.RequestExamples.{◌gives◌, block, the_gic, twin, blocks, one_block_more, model, all_zones, crowd_beside, held, cpu_only, iommu_only, sharing, odd_and_far, far, unknown, just_in_reach, out_of_reach, ◌lasts◌, goes_nowhere, Shows}
use Rattle.rules.specs.Requests.{add_zone, drop_zone, insert, answer}
use Rattle.rules.specs.Run.{make_request, run_answer}
use Rattle.rules.specs.Tables.{empty_zone, unused_set, unused_zone, check_table, Zone, StoredSet, StoredZone, StoredTable}
use Rattle.rules.specs.Translation.{translated}
use Rattle.rules.specs.declared.Outcome.{Outcome}
use Rattle.rules.specs.declared.Region.{Region}
use Rattle.rules.specs.declared.Request.{Request}
use Rattle.rules.specs.declared.Side.TheVariants.{Cpu, Iommu}
use Rattle.rules.specs.declared.Translated.{Translated}

-- ---- the configuration check
-- what it finds: the number, the place, and for C6 the earlier position
pub record Found : Type 0 where
  pub number : ℕ
  pub place : ℕ
  pub earlier : ℕ

abbrev pub finding : StoredConfig → Found
finding s = record { number = check_number (check limits s); place = check_place (check limits s); earlier = check_earlier (check limits s) }

abbrev pub found : ℕ → ℕ → ℕ → Found
found n i k = record { number = n; place = i; earlier = k }

-- a count, the GIC's position, and records; the rest is zero
abbrev pub stored : ℕ → ℕ → List Region → StoredConfig
stored n g rs = record { count = n; gic = g; records = room limits.regions no_region rs }

-- a region with the physical addresses of blocks 1 and 2
abbrev pub blocks1_and2 : Region
blocks1_and2 = usual 0 0x80200000 0x400000

-- 0, also where two regions have the same guest addresses
abbrev pub nothing_found : List (StoredConfig × Found)
nothing_found =
    stored 1 0 (the_gic ∷ []) gives found 0 0 0 ∷ stored 3 2 (block 0 ∷ twin ∷ the_gic ∷ []) gives found 0 0 0 ∷ []

-- C1 (count 0, count above the limit), C2 (at the count, above it), C3: each also where the later ones apply, C4 to C6
-- included. With count 0 there is no position for C4 to C6, and with a count above the limit no record past it
abbrev pub counts_found : List (StoredConfig × Found)
counts_found =
    stored 0 0 (odd_and_far ∷ []) gives found 1 0 0
    ∷ stored (limits.regions + 1) (limits.regions + 1) (odd_and_far ∷ odd_and_far ∷ []) gives found 1 0 0
    ∷ stored 2 2 (odd_and_far ∷ odd_and_far ∷ block 0 ∷ []) gives found 2 0 0
    ∷ stored 2 3 (block 0 ∷ the_gic ∷ []) gives found 2 0 0
    ∷ stored 2 0 (odd_and_far ∷ odd_and_far ∷ no_region ∷ block 0 ∷ block 1 ∷ []) gives found 3 3 0
    ∷ []

-- C3: any number of the record, also of the last that there is room for
abbrev pub rest_found : List (StoredConfig × Found)
rest_found =
    stored 1 0 (the_gic ∷ region_of 1 0 0 0 ∷ []) gives found 3 1 0
    ∷ stored 1 0 (the_gic ∷ region_of 0 1 0 0 ∷ []) gives found 3 1 0
    ∷ stored 1 0 (the_gic ∷ region_of 0 0 1 0 ∷ []) gives found 3 1 0
    ∷ stored 1 0 (the_gic ∷ region_of 0 0 0 1 ∷ []) gives found 3 1 0
    ∷ stored 1 0 (room (limits.regions - 1) no_region (the_gic ∷ []) ++ block 0 ∷ [])
    gives found 3 (limits.regions - 1) 0
    ∷ []

-- C4, C5, C6 at one position: C4 where all three apply, C5 where C6 does; C6 names the lowest of the earlier positions
abbrev pub position_found : List (StoredConfig × Found)
position_found =
    stored 2 0 (the_gic ∷ odd_and_far ∷ []) gives found 4 1 0
    ∷ stored 2 0 (the_gic ∷ far ∷ []) gives found 5 1 0
    ∷ stored 2 0 (the_gic ∷ unknown ∷ []) gives found 6 1 0
    ∷ stored 4 0 (the_gic ∷ block 2 ∷ block 1 ∷ blocks1_and2 ∷ []) gives found 6 3 1
    ∷ stored 2 0 (the_gic ∷ the_gic ∷ []) gives found 6 1 0
    ∷ []

-- a lower position comes before a lower number
abbrev pub lowest_found : List (StoredConfig × Found)
lowest_found =
    stored 2 0 (far ∷ odd_and_far ∷ []) gives found 5 0 0
    ∷ stored 3 0 (the_gic ∷ unknown ∷ odd_and_far ∷ []) gives found 6 1 0
    ∷ stored 3 0 (the_gic ∷ unknown ∷ far ∷ []) gives found 6 1 0
    ∷ []

-- the document's limit, a second time: 256 regions. Here the first of them is not well formed
abbrev pub most_found : List (StoredConfig × Found)
most_found = stored 256 0 [] gives found 4 0 0 ∷ stored 257 0 [] gives found 1 0 0 ∷ []

-- the GIC and one region more
abbrev pub beside_the_gic : Region → StoredConfig
beside_the_gic r = stored 2 0 (the_gic ∷ r ∷ [])

-- the two reaches: C5 stands for either end
abbrev pub reach_found : List (StoredConfig × Found)
reach_found = map (λ (r : Region). beside_the_gic r gives found 0 0 0) just_in_reach ++ map (λ (r : Region). beside_the_gic r gives found 5 1 0) out_of_reach

abbrev pub ConfigCheckShown : Type 0
ConfigCheckShown =
    Shows finding nothing_found
    × Shows finding counts_found
    × Shows finding rest_found
    × Shows finding position_found
    × Shows finding lowest_found
    × Shows finding most_found
    × Shows finding reach_found

-- ---- the table check
abbrev pub config : StoredConfig
config = store_config limits model

-- a set with its count and its records, a zone with an id and two sets, and a table of such zones
abbrev pub stored_set : ℕ → List Region → StoredSet
stored_set n rs = record { count = n; records = room limits.in_set no_region rs }

abbrev pub stored_zone : ℕ → List Region → List Region → StoredZone
stored_zone id cpu iommu = record { id = id; cpu = stored_set (length cpu) cpu; iommu = stored_set (length iommu) iommu }

abbrev pub stored_table : ℕ → List StoredZone → StoredTable
stored_table n zs = record { count = n; zones = room limits.zones (unused_zone limits) zs }

abbrev pub one_zone : StoredZone → StoredTable
one_zone z = stored_table 1 (z ∷ [])

-- a set that is full, and one more
abbrev pub one_too_many : StoredSet
one_too_many = record { count = limits.in_set + 1; records = blocks ++ one_block_more ∷ [] }

-- sound: no zone, the most zones, full sets; a region on both sides of one zone; the GIC on the IOMMU side of two
abbrev pub sound_tables : List StoredTable
sound_tables =
    map (store limits) ([] ∷ desk_zones ∷ all_zones ∷ crowd_beside Cpu ∷ crowd_beside Iommu ∷ held ∷ [])
    ++ one_zone (stored_zone 255 (block 0 ∷ []) (block 0 ∷ []))
    ∷ stored_table 2 (stored_zone 5 [] (the_gic ∷ []) ∷ stored_zone 6 [] (the_gic ∷ []) ∷ [])
    ∷ []

-- counts above the limits: zones, CPU set, IOMMU set
abbrev pub too_many : List StoredTable
too_many =
    record { count = limits.zones + 1; zones = map (store_zone limits) (tab (limits.zones + 1) empty_zone) }
    ∷ one_zone (record { id = 5; cpu = one_too_many; iommu = unused_set limits })
    ∷ one_zone (record { id = 5; cpu = unused_set limits; iommu = one_too_many })
    ∷ []

-- ids: above the highest; twice, also with a zone between
abbrev pub bad_ids : List StoredTable
bad_ids =
    map (store limits)
    ((empty_zone 256 ∷ []) ∷ (empty_zone 5 ∷ empty_zone 5 ∷ []) ∷ (empty_zone 5 ∷ empty_zone 6 ∷ empty_zone 5 ∷ []) ∷ [])

-- what is unused is not zero: a record of either set; the id, a count or a record of a zone
abbrev pub not_zero : List StoredTable
not_zero =
    one_zone (record { id = 5; cpu = stored_set 1 (block 0 ∷ region_of 0 0 1 0 ∷ []); iommu = unused_set limits })
    ∷ one_zone (record { id = 5; cpu = unused_set limits; iommu = stored_set 0 (region_of 1 0 0 0 ∷ []) })
    ∷ stored_table 0 (stored_zone 1 [] [] ∷ [])
    ∷ stored_table 1 (stored_zone 5 [] [] ∷ unused_zone limits ∷ stored_zone 6 [] [] ∷ [])
    ∷ stored_table 0 (record { id = 0; cpu = stored_set 1 []; iommu = unused_set limits } ∷ [])
    ∷ stored_table 0 (record { id = 0; cpu = unused_set limits; iommu = stored_set 1 [] } ∷ [])
    ∷ stored_table 0 (record { id = 0; cpu = stored_set 0 (region_of 0 1 0 0 ∷ []); iommu = unused_set limits } ∷ [])
    ∷ stored_table 0 (record { id = 0; cpu = unused_set limits; iommu = stored_set 0 (region_of 0 1 0 0 ∷ []) } ∷ [])
    ∷ []

-- a region that is not configured, in either set: a part of block 0, or block 0 at other guest addresses
abbrev pub not_configured : List StoredTable
not_configured =
    one_zone (stored_zone 5 (usual 0x40000000 0x80000000 0x1000 ∷ []) [])
    ∷ one_zone (stored_zone 5 [] (usual 0x40000000 0x80000000 0x1000 ∷ []))
    ∷ one_zone (stored_zone 5 (usual 0x80000000 0x80000000 0x200000 ∷ []) [])
    ∷ []

-- two regions of a set overlap in guest addresses, the same region twice
-- and the GIC included; a CPU region overlaps the GIC
abbrev pub bad_sets : List StoredTable
bad_sets =
    one_zone (stored_zone 5 (block 0 ∷ block 1 ∷ twin ∷ []) [])
    ∷ one_zone (stored_zone 5 [] (block 0 ∷ block 1 ∷ twin ∷ []))
    ∷ one_zone (stored_zone 5 [] (block 0 ∷ block 0 ∷ []))
    ∷ one_zone (stored_zone 5 [] (the_gic ∷ block 0 ∷ []))
    ∷ one_zone (stored_zone 5 (the_gic ∷ []) [])
    ∷ []

-- two zones hold one region, not the GIC: CPU and CPU, CPU and IOMMU, IOMMU and CPU, IOMMU and IOMMU
abbrev pub two_hold : List StoredTable
two_hold =
    stored_table 2 (stored_zone 5 (block 0 ∷ []) [] ∷ stored_zone 6 (block 0 ∷ []) [] ∷ [])
    ∷ stored_table 2 (stored_zone 5 (block 0 ∷ []) [] ∷ stored_zone 6 [] (block 0 ∷ []) ∷ [])
    ∷ stored_table 2 (stored_zone 5 [] (block 0 ∷ []) ∷ stored_zone 6 (block 0 ∷ []) [] ∷ [])
    ∷ stored_table 2 (stored_zone 5 [] (block 0 ∷ []) ∷ stored_zone 6 [] (block 0 ∷ []) ∷ [])
    ∷ []

-- a region that is configured beside the GIC is held on both sides of a zone
abbrev pub held_alone : Region → Bool
held_alone r = check_table limits (beside_the_gic r) (one_zone (stored_zone 5 (r ∷ []) (r ∷ [])))

-- an unsound configuration of each kind: C1 twice, C2 to C6
abbrev pub bad_config : StoredConfig
bad_config = stored 1 1 (the_gic ∷ [])

abbrev pub bad_configs : List StoredConfig
bad_configs =
    stored 0 0 []
    ∷ stored (limits.regions + 1) 0 (the_gic ∷ [])
    ∷ bad_config
    ∷ stored 1 0 (the_gic ∷ block 0 ∷ [])
    ∷ stored 2 0 (the_gic ∷ region_of 0 0 1 0 ∷ [])
    ∷ stored 2 0 (the_gic ∷ far ∷ [])
    ∷ stored 2 0 (the_gic ∷ unknown ∷ [])
    ∷ []

abbrev pub TableCheckShown : Type 0
TableCheckShown =
    (all (check_table limits config) sound_tables ≡ true)
    × (any (check_table limits config) too_many ≡ false)
    × (any (check_table limits config) bad_ids ≡ false)
    × (any (check_table limits config) not_zero ≡ false)
    × (any (check_table limits config) not_configured ≡ false)
    × (any (check_table limits config) bad_sets ≡ false)
    × (any (check_table limits config) two_hold ≡ false)
    × (all held_alone just_in_reach ≡ true)
    × (any held_alone out_of_reach ≡ false)
    × (any (λ (c : StoredConfig). check_table limits c (store limits [])) bad_configs ≡ false)

-- ---- from outside: 1 where the configuration is unsound, whatever the table is; then 2; then the rest
pub record Base : Type 0 where
  pub config : StoredConfig
  pub table : StoredTable

abbrev pub both_bad : Base
both_bad = record { config = bad_config; table = store limits (empty_zone 5 ∷ empty_zone 5 ∷ []) }

abbrev pub config_bad : Base
config_bad = record { config = bad_config; table = store limits [] }

abbrev pub table_bad : Base
table_bad = record { config = config; table = store limits (empty_zone 5 ∷ empty_zone 5 ∷ []) }

abbrev pub holds : List Zone → Base
holds t = record { config = config; table = store limits t }

-- one request
abbrev pub answer_at : Base × Request → ℕ
answer_at e = answer limits e.0.config e.0.table e.1

abbrev pub requests_outside : List ((Base × Request) × ℕ)
requests_outside =
    (both_bad, make_request 0 256 no_region) gives 1
    ∷ (config_bad, add_zone 5) gives 1
    ∷ (table_bad, make_request 0 256 no_region) gives 2
    ∷ (table_bad, add_zone 7) gives 2
    ∷ (holds held, make_request 0 256 no_region) gives 3
    ∷ (holds held, add_zone 256) gives 4
    ∷ (holds held, add_zone 5) gives 5
    ∷ (holds held, drop_zone 7) gives 6
    ∷ (holds held, insert Cpu the_gic 5) gives 12
    ∷ (holds held, add_zone 7) gives 0
    ∷ (holds cpu_only, insert Iommu (block 0) 6) gives 14
    ∷ (holds iommu_only, insert Cpu (block 0) 5) gives 0
    ∷ []

-- a translation; 1 and 2 also where a region covers the address
abbrev pub translation_at : Base × (ℕ × ℕ) → Translated
translation_at e = translated limits e.0.config e.0.table e.1.0 Cpu (record { 0 = e.1.1 })

abbrev pub translations_outside : List ((Base × (ℕ × ℕ)) × Translated)
translations_outside =
    (both_bad, (256, 0x40212345)) gives goes_nowhere 1
    ∷ (config_bad, (5, 0x40212345)) gives goes_nowhere 1
    ∷ (table_bad, (256, 0x40212345)) gives goes_nowhere 2
    ∷ (table_bad, (5, 0x40212345)) gives goes_nowhere 2
    ∷ (record { config = bad_config; table = store limits held }, (5, 0x40212345)) gives goes_nowhere 1
    ∷ (holds sharing, (5, 0x40212345)) gives goes_nowhere 2
    ∷ (holds held, (256, 0x40212345)) gives goes_nowhere 4
    ∷ (holds held, (7, 0x40212345)) gives goes_nowhere 6
    ∷ (holds held, (5, 0x40012345)) gives goes_nowhere 18
    ∷ (holds held, (5, 0x40212345)) gives 0x80212345 lasts 0x1edcbb
    ∷ (holds held, (6, 0x40012345)) gives 0x60012345 lasts 0x1edcbb
    ∷ []

-- a run: 27 with the place and the number of the first that is refused, or 0 with how many there were
abbrev pub run_at : Base × List Request → Outcome
run_at e = run_answer limits e.0.config e.0.table e.1

abbrev pub runs_outside : List ((Base × List Request) × Outcome)
runs_outside =
    (both_bad, make_request 0 256 no_region ∷ []) gives plain 1 0
    ∷ (config_bad, []) gives plain 1 0
    ∷ (table_bad, make_request 0 256 no_region ∷ []) gives plain 2 0
    ∷ (table_bad, []) gives plain 2 0
    ∷ (holds held, add_zone 5 ∷ []) gives record { number = 27; place = 0; inner = 5 }
    ∷ (holds held, add_zone 7 ∷ add_zone 7 ∷ make_request 0 256 no_region ∷ [])
    gives record { number = 27; place = 1; inner = 5 }
    ∷ (holds held, add_zone 7 ∷ add_zone 8 ∷ make_request 0 256 no_region ∷ [])
    gives record { number = 27; place = 2; inner = 3 }
    ∷ (holds held, add_zone 7 ∷ add_zone 8 ∷ drop_zone 7 ∷ []) gives plain 0 3
    ∷ (holds held, []) gives plain 0 0
    ∷ []

-- 1 for each of the unsound configurations
abbrev pub answers_under : List ℕ
answers_under = map (λ (c : StoredConfig). answer limits c (store limits []) (add_zone 5)) bad_configs

abbrev pub OutsideShown : Type 0
OutsideShown =
    Shows answer_at requests_outside
    × Shows translation_at translations_outside
    × Shows run_at runs_outside
    × (answers_under ≡ 1 ∷ 1 ∷ 1 ∷ 1 ∷ 1 ∷ 1 ∷ 1 ∷ [])

-- ---- a family whose devices have pages twice as large: a region of one page is well formed on the CPU side alone
abbrev pub larger_pages : Limits
larger_pages = record {
  page = limits.page;
  iommu_page = 2 * limits.page;
  guest_reach = limits.guest_reach;
  phys_reach = limits.phys_reach;
  regions = limits.regions;
  zones = limits.zones;
  in_set = limits.in_set;
  requests = limits.requests;
  last_marks = limits.last_marks;
}

abbrev pub one_page : Region
one_page = usual 0 limits.page limits.page

abbrev pub page_config : StoredConfig
page_config = beside_the_gic one_page

abbrev pub LargerPagesShown : Type 0
LargerPagesShown =
    (answer larger_pages page_config (store limits desk_zones) (insert Cpu one_page 5) ≡ 0)
    × (answer larger_pages page_config (store limits desk_zones) (insert Iommu one_page 5) ≡ 9)
    × (check_table larger_pages page_config (one_zone (stored_zone 5 (one_page ∷ []) [])) ≡ true)
    × (check_table larger_pages page_config (one_zone (stored_zone 5 [] (one_page ∷ []))) ≡ false)
