-- Examples of plans: a whole one byte by byte, each kind of fault with its place, and the order of the numbers at a
-- terminal and where there is none.
use Rattle.std.specs.Prelude.{ℕ, ◌+◌, ◌^◌, ◌-◌, List, [], ◌∷◌, ◌++◌, ◌≡◌, take, drop, replicate}
use Rattle.lists.specs.Bytes.{bytes_of}
use Rattle.formats.specs.Formats.{got}
use Rattle.rules.specs.Applying.{store, plain, apply, store_config, answer_alone, Terminal}
use Rattle.rules.specs.Desk.{usual, G}
use Rattle.rules.specs.Limits.{limits}
use Rattle.rules.specs.Fields.{region_of}
use Rattle.rules.specs.Plan.{read_plan, encode, Asked, Plan}
use Rattle.rules.specs.Regions.{no_region}
use Rattle.rules.specs.RequestExamples.{◌gives◌, Shows}
use Rattle.rules.specs.Requests.{add_zone, insert}
use Rattle.rules.specs.Run.{requests_in}
use Rattle.rules.specs.Tables.{empty_zone, Zone}
use Rattle.rules.specs.declared.Outcome.{Outcome}
use Rattle.rules.specs.declared.Region.{Region}
use Rattle.rules.specs.declared.Side.TheVariants.{Cpu, Iommu}

-- ---- a plan with something in every section; what could be exchanged
-- differs: the first two marks, v and p of R, the two sets of zone 5
abbrev pub R : Region
R = usual 0x40100000 0x123456789000 0x203000

abbrev pub zone5 : Zone
zone5 = record { id = 5; cpu = R ∷ []; iommu = G ∷ R ∷ [] }

-- add zone 7; IOMMU G to zone 6
abbrev pub add7 : Asked
add7 = record { kind = 1; zone = 7; region = no_region }

abbrev pub iommu_gto6 : Asked
iommu_gto6 = record { kind = 5; zone = 6; region = G }

abbrev pub planned : Plan
planned = record { marks = record { gic = 1; edition = 0x01020304 }; regions = R ∷ G ∷ []; zones = zone5 ∷ empty_zone 6 ∷ []; asked = add7 ∷ iommu_gto6 ∷ [] }

-- its bytes; beside each field its offset
abbrev pub spelled : List ℕ
spelled =
    -- marks: 0 the count, 4 the GIC's position, 8 the edition, 12 the format's
    3 ∷ 0 ∷ 0 ∷ 0 ∷ 1 ∷ 0 ∷ 0 ∷ 0 ∷ 4 ∷ 3 ∷ 2 ∷ 1 ∷ 2 ∷ 0 ∷ 0 ∷ 0
    -- regions: 16 the count, 20 R, 52 G
    ∷ 2 ∷ 0 ∷ 0 ∷ 0
    ∷ 0x00 ∷ 0x00 ∷ 0x10 ∷ 0x40 ∷ 0 ∷ 0 ∷ 0 ∷ 0
    ∷ 0x00 ∷ 0x90 ∷ 0x78 ∷ 0x56 ∷ 0x34 ∷ 0x12 ∷ 0 ∷ 0
    ∷ 0x00 ∷ 0x30 ∷ 0x20 ∷ 0x00 ∷ 0 ∷ 0 ∷ 0 ∷ 0
    ∷ 3 ∷ 0 ∷ 0 ∷ 0 ∷ 0 ∷ 0 ∷ 0 ∷ 0
    ∷ 0 ∷ 0 ∷ 0 ∷ 8 ∷ 0 ∷ 0 ∷ 0 ∷ 0
    ∷ 0 ∷ 0 ∷ 0 ∷ 8 ∷ 0 ∷ 0 ∷ 0 ∷ 0
    ∷ 0 ∷ 0 ∷ 1 ∷ 0 ∷ 0 ∷ 0 ∷ 0 ∷ 0
    ∷ 3 ∷ 0 ∷ 0 ∷ 0 ∷ 0 ∷ 0 ∷ 0 ∷ 0
    -- zones: 84 the count, 88 the id of zone 5
    ∷ 2 ∷ 0 ∷ 0 ∷ 0 ∷ 5 ∷ 0 ∷ 0 ∷ 0
    -- 92 its CPU count, 96 R
    ∷ 1 ∷ 0 ∷ 0 ∷ 0
    ∷ 0x00 ∷ 0x00 ∷ 0x10 ∷ 0x40 ∷ 0 ∷ 0 ∷ 0 ∷ 0
    ∷ 0x00 ∷ 0x90 ∷ 0x78 ∷ 0x56 ∷ 0x34 ∷ 0x12 ∷ 0 ∷ 0
    ∷ 0x00 ∷ 0x30 ∷ 0x20 ∷ 0x00 ∷ 0 ∷ 0 ∷ 0 ∷ 0
    ∷ 3 ∷ 0 ∷ 0 ∷ 0 ∷ 0 ∷ 0 ∷ 0 ∷ 0
    -- 128 its IOMMU count, 132 G, 164 R
    ∷ 2 ∷ 0 ∷ 0 ∷ 0
    ∷ 0 ∷ 0 ∷ 0 ∷ 8 ∷ 0 ∷ 0 ∷ 0 ∷ 0
    ∷ 0 ∷ 0 ∷ 0 ∷ 8 ∷ 0 ∷ 0 ∷ 0 ∷ 0
    ∷ 0 ∷ 0 ∷ 1 ∷ 0 ∷ 0 ∷ 0 ∷ 0 ∷ 0
    ∷ 3 ∷ 0 ∷ 0 ∷ 0 ∷ 0 ∷ 0 ∷ 0 ∷ 0
    ∷ 0x00 ∷ 0x00 ∷ 0x10 ∷ 0x40 ∷ 0 ∷ 0 ∷ 0 ∷ 0
    ∷ 0x00 ∷ 0x90 ∷ 0x78 ∷ 0x56 ∷ 0x34 ∷ 0x12 ∷ 0 ∷ 0
    ∷ 0x00 ∷ 0x30 ∷ 0x20 ∷ 0x00 ∷ 0 ∷ 0 ∷ 0 ∷ 0
    ∷ 3 ∷ 0 ∷ 0 ∷ 0 ∷ 0 ∷ 0 ∷ 0 ∷ 0
    -- 196 the id of zone 6, 200 and 204 its counts
    ∷ 6 ∷ 0 ∷ 0 ∷ 0 ∷ 0 ∷ 0 ∷ 0 ∷ 0 ∷ 0 ∷ 0 ∷ 0 ∷ 0
    -- requests: 208 the count, 212 and 252 the two: kind, zone, v, p, size, rights
    ∷ 2 ∷ 0 ∷ 0 ∷ 0
    ∷ 1 ∷ 0 ∷ 0 ∷ 0 ∷ 7 ∷ 0 ∷ 0 ∷ 0
    ∷ 0 ∷ 0 ∷ 0 ∷ 0 ∷ 0 ∷ 0 ∷ 0 ∷ 0
    ∷ 0 ∷ 0 ∷ 0 ∷ 0 ∷ 0 ∷ 0 ∷ 0 ∷ 0
    ∷ 0 ∷ 0 ∷ 0 ∷ 0 ∷ 0 ∷ 0 ∷ 0 ∷ 0
    ∷ 0 ∷ 0 ∷ 0 ∷ 0 ∷ 0 ∷ 0 ∷ 0 ∷ 0
    ∷ 5 ∷ 0 ∷ 0 ∷ 0 ∷ 6 ∷ 0 ∷ 0 ∷ 0
    ∷ 0 ∷ 0 ∷ 0 ∷ 8 ∷ 0 ∷ 0 ∷ 0 ∷ 0
    ∷ 0 ∷ 0 ∷ 0 ∷ 8 ∷ 0 ∷ 0 ∷ 0 ∷ 0
    ∷ 0 ∷ 0 ∷ 1 ∷ 0 ∷ 0 ∷ 0 ∷ 0 ∷ 0
    ∷ 3 ∷ 0 ∷ 0 ∷ 0 ∷ 0 ∷ 0 ∷ 0 ∷ 0
    ∷ []

-- the bytes say it, and it is written so; of its requests as bytes, those are read that are wholly there
abbrev pub BytesShown : Type 0
BytesShown =
    (read_plan limits spelled ≡ got planned [])
    × (encode limits planned ≡ spelled)
    × (requests_in (drop 212 spelled) ≡ add_zone 7 ∷ insert Iommu G 6 ∷ [])
    × (requests_in (take 79 (drop 212 spelled)) ≡ add_zone 7 ∷ [])
    × (requests_in (3 ∷ 0 ∷ 0 ∷ 0 ∷ 6 ∷ 0 ∷ 0 ∷ 0 ∷ take 32 (drop 20 spelled)) ≡ insert Cpu R 6 ∷ [])

-- ---- 20 to 22 and their places: where there is no terminal, and at one with the plan's base
abbrev pub terminal : Terminal
terminal = record { config = store_config limits (record { regions = R ∷ G ∷ []; gic = 1 }); table = store limits (zone5 ∷ empty_zone 6 ∷ []); edition = 0x01020304 }

abbrev pub alone : List ℕ → Outcome
alone b = answer_alone limits b

abbrev pub there : List ℕ → Outcome
there b = (apply limits terminal b).outcome

-- 20: the plan cut before a field, and within it at its first and its last
-- byte; a region and a request are one field, wherever they are cut
abbrev pub cut_at : ℕ → List ℕ
cut_at n = take n spelled

abbrev pub cuts : List (List ℕ × Outcome)
cuts =
    -- a count, the GIC's position, the edition, the format's mark
    cut_at 0 gives plain 20 0
    ∷ cut_at 1 gives plain 20 0
    ∷ cut_at 3 gives plain 20 0
    ∷ cut_at 4 gives plain 20 4
    ∷ cut_at 7 gives plain 20 4
    ∷ cut_at 8 gives plain 20 8
    ∷ cut_at 11 gives plain 20 8
    ∷ cut_at 12 gives plain 20 12
    ∷ cut_at 15 gives plain 20 12
    -- the count of the regions; a region: before v, within v, p, size and rights
    ∷ cut_at 16 gives plain 20 16
    ∷ cut_at 19 gives plain 20 16
    ∷ cut_at 20 gives plain 20 20
    ∷ cut_at 21 gives plain 20 20
    ∷ cut_at 28 gives plain 20 20
    ∷ cut_at 35 gives plain 20 20
    ∷ cut_at 43 gives plain 20 20
    ∷ cut_at 51 gives plain 20 20
    ∷ cut_at 52 gives plain 20 52
    -- the count of the zones, an id, the counts of its sets, their regions
    ∷ cut_at 87 gives plain 20 84
    ∷ cut_at 91 gives plain 20 88
    ∷ cut_at 95 gives plain 20 92
    ∷ cut_at 127 gives plain 20 96
    ∷ cut_at 131 gives plain 20 128
    ∷ cut_at 133 gives plain 20 132
    ∷ cut_at 195 gives plain 20 164
    ∷ cut_at 199 gives plain 20 196
    ∷ cut_at 203 gives plain 20 200
    ∷ cut_at 207 gives plain 20 204
    -- the count of the requests; a request: before its kind, within it, its zone, v, p, size and rights
    ∷ cut_at 211 gives plain 20 208
    ∷ cut_at 212 gives plain 20 212
    ∷ cut_at 213 gives plain 20 212
    ∷ cut_at 219 gives plain 20 212
    ∷ cut_at 221 gives plain 20 212
    ∷ cut_at 235 gives plain 20 212
    ∷ cut_at 243 gives plain 20 212
    ∷ cut_at 251 gives plain 20 212
    ∷ cut_at 291 gives plain 20 252
    ∷ []

-- 21: a count out of range, told before its elements are looked for, and another format's mark, told before the count
-- behind it; one that is cut is 20
abbrev pub count_at : ℕ → ℕ → List ℕ
count_at n c = cut_at n ++ bytes_of 4 c

abbrev pub counts : List (List ℕ × Outcome)
counts =
    count_at 0 2 gives plain 21 0
    ∷ count_at 0 4 gives plain 21 0
    ∷ count_at 12 1 gives plain 21 12
    ∷ count_at 12 2 gives plain 20 16
    ∷ count_at 12 3 gives plain 21 12
    ∷ (count_at 12 3 ++ bytes_of 4 0) gives plain 21 12
    ∷ count_at 16 0 gives plain 21 16
    ∷ count_at 16 limits.regions gives plain 20 20
    ∷ count_at 16 (limits.regions + 1) gives plain 21 16
    ∷ count_at 84 limits.zones gives plain 20 88
    ∷ count_at 84 (limits.zones + 1) gives plain 21 84
    ∷ count_at 92 limits.in_set gives plain 20 96
    ∷ count_at 92 (limits.in_set + 1) gives plain 21 92
    ∷ count_at 128 limits.in_set gives plain 20 132
    ∷ count_at 128 (limits.in_set + 1) gives plain 21 128
    ∷ count_at 208 limits.requests gives plain 20 212
    ∷ count_at 208 (limits.requests + 1) gives plain 21 208
    ∷ count_at 208 (2 ^ 32 - 1) gives plain 21 208
    ∷ (cut_at 208 ++ 0 ∷ 0 ∷ 255 ∷ []) gives plain 20 208
    ∷ []

-- the document's limit, a second time: 512 requests
abbrev pub most_counted : List (List ℕ × Outcome)
most_counted = count_at 208 512 gives plain 20 212 ∷ count_at 208 513 gives plain 21 208 ∷ []

-- 22: a byte after the end, whatever it is
abbrev pub rests : List (List ℕ × Outcome)
rests = (spelled ++ 0 ∷ []) gives plain 22 292 ∷ (spelled ++ spelled) gives plain 22 292 ∷ []

abbrev pub ReadingShown : Type 0
ReadingShown =
    (Shows alone cuts × Shows alone counts × Shows alone most_counted × Shows alone rests)
    × (Shows there cuts × Shows there counts × Shows there most_counted × Shows there rests)

-- ---- the order of the numbers
-- plans that differ from the one above; each has a request that is refused with 5, after one that is accepted
abbrev pub regions : List Region
regions = R ∷ G ∷ []

abbrev pub zones : List Zone
zones = zone5 ∷ empty_zone 6 ∷ []

abbrev pub edition : ℕ
edition = 0x01020304

abbrev pub plan_of : ℕ → ℕ → List Region → List Zone → List ℕ
plan_of g k rs zs =
    encode limits
    (record { marks = record { gic = g; edition = k }; regions = rs; zones = zs; asked = add7 ∷ add7 ∷ [] })

-- zones that are unsound, and the last edition
abbrev pub twice5 : List Zone
twice5 = empty_zone 5 ∷ empty_zone 5 ∷ []

abbrev pub last : ℕ
last = 2 ^ 32 - 1

-- where there is no terminal: 22, 1, 2, 25, 27, each at a plan to which the later ones apply too
abbrev pub alone_in_order : List (List ℕ × Outcome)
alone_in_order =
    (plan_of 2 last regions twice5 ++ 0 ∷ []) gives plain 22 196
    ∷ plan_of 2 last regions twice5 gives plain 1 0
    ∷ plan_of 1 last regions twice5 gives plain 2 0
    ∷ plan_of 1 last regions zones gives plain 25 0
    ∷ plan_of 1 (last - 1) regions zones gives record { number = 27; place = 1; inner = 5 }
    ∷ spelled gives plain 0 2
    ∷ []

-- the terminal with another GIC position, other zones, another edition
abbrev pub with_gic : ℕ → Terminal → Terminal
with_gic g s = record { config = store_config limits (record { regions = regions; gic = g }); table = s.table; edition = s.edition }

abbrev pub with_zones : List Zone → Terminal → Terminal
with_zones t s = record { config = s.config; table = store limits t; edition = s.edition }

abbrev pub at_edition : ℕ → Terminal → Terminal
at_edition k s = record { config = s.config; table = s.table; edition = k }

-- what a terminal answers, and its state afterwards
abbrev pub outcome_at : Terminal × List ℕ → Outcome
outcome_at e = (apply limits e.0 e.1).outcome

abbrev pub state_after : Terminal × List ℕ → Terminal
state_after e = (apply limits e.0 e.1).state

-- at a terminal: 1, 2, 20 or 21, 22, 23, 24, 25, 26, 27, each where the later ones apply too. Where nothing can be read
-- whole there is nothing that 22 to 27 could speak of; and 24 and 25 are both earned where only the terminal is at the
-- last edition
abbrev pub there_in_order : List ((Terminal × List ℕ) × Outcome)
there_in_order =
    (with_gic 2 (with_zones twice5 terminal), []) gives plain 1 0
    ∷ (with_gic 2 terminal, spelled) gives plain 1 0
    ∷ (with_zones twice5 terminal, []) gives plain 2 0
    ∷ (with_zones twice5 terminal, spelled) gives plain 2 0
    ∷ (terminal, []) gives plain 20 0
    ∷ (at_edition last terminal, plan_of 0 0 regions [] ++ 0 ∷ []) gives plain 22 172
    ∷ (at_edition last terminal, plan_of 0 0 regions []) gives plain 23 0
    ∷ (at_edition last terminal, plan_of 1 0 regions []) gives plain 24 0
    ∷ (at_edition last terminal, plan_of 1 last regions []) gives plain 25 0
    ∷ (terminal, plan_of 1 edition regions []) gives plain 26 0
    ∷ (terminal, plan_of 1 edition regions zones) gives record { number = 27; place = 1; inner = 5 }
    ∷ []

-- 23: the GIC's position, a region's v, p, size or rights, how many regions there are, their order
abbrev pub other_configs : List (List ℕ × Outcome)
other_configs =
    plan_of 0 edition regions zones gives plain 23 0
    ∷ plan_of 1 edition (usual 0x40101000 0x123456789000 0x203000 ∷ G ∷ []) zones gives plain 23 0
    ∷ plan_of 1 edition (usual 0x40100000 0x123456788000 0x203000 ∷ G ∷ []) zones gives plain 23 0
    ∷ plan_of 1 edition (usual 0x40100000 0x123456789000 0x202000 ∷ G ∷ []) zones gives plain 23 0
    ∷ plan_of 1 edition (region_of 0x40100000 0x123456789000 0x203000 1 ∷ G ∷ []) zones gives plain 23 0
    ∷ plan_of 1 edition (R ∷ []) zones gives plain 23 0
    ∷ plan_of 1 edition (R ∷ G ∷ G ∷ []) zones gives plain 23 0
    ∷ plan_of 1 edition (G ∷ R ∷ []) zones gives plain 23 0
    ∷ []

-- 24: an edition too low, too high
abbrev pub other_editions : List (List ℕ × Outcome)
other_editions =
    plan_of 1 (edition - 1) regions zones gives plain 24 0 ∷ plan_of 1 (edition + 1) regions zones gives plain 24 0 ∷ []

-- 26: how many zones there are, their order, an id, the CPU set, the IOMMU set, the order in a set
abbrev pub other_zones : List (List ℕ × Outcome)
other_zones =
    plan_of 1 edition regions (zone5 ∷ []) gives plain 26 0
    ∷ plan_of 1 edition regions (zone5 ∷ empty_zone 6 ∷ empty_zone 7 ∷ []) gives plain 26 0
    ∷ plan_of 1 edition regions (empty_zone 6 ∷ zone5 ∷ []) gives plain 26 0
    ∷ plan_of 1 edition regions (zone5 ∷ empty_zone 4 ∷ []) gives plain 26 0
    ∷ plan_of 1 edition regions (record { id = 5; cpu = []; iommu = G ∷ R ∷ [] } ∷ empty_zone 6 ∷ []) gives plain 26 0
    ∷ plan_of 1 edition regions (record { id = 5; cpu = R ∷ []; iommu = G ∷ [] } ∷ empty_zone 6 ∷ []) gives plain 26 0
    ∷ plan_of 1 edition regions (record { id = 5; cpu = R ∷ []; iommu = R ∷ G ∷ [] } ∷ empty_zone 6 ∷ []) gives plain 26 0
    ∷ []

-- 0: the plan above; and a plan without requests, by which a terminal comes to the last edition
abbrev pub empty : List ℕ
empty = take 208 (plan_of 1 (last - 1) regions zones) ++ replicate 4 0

abbrev pub accepted : List ((Terminal × List ℕ) × Outcome)
accepted = (terminal, spelled) gives plain 0 2 ∷ (at_edition (last - 1) terminal, empty) gives plain 0 0 ∷ []

-- then the terminal has what the requests made of its table, and the next edition; where it refuses it stays as it was
abbrev pub zone6_then : Zone
zone6_then = record { id = 6; cpu = []; iommu = G ∷ [] }

abbrev pub left : List ((Terminal × List ℕ) × Terminal)
left =
    (terminal, spelled) gives at_edition (edition + 1) (with_zones (zone5 ∷ zone6_then ∷ empty_zone 7 ∷ []) terminal)
    ∷ (at_edition (last - 1) terminal, empty) gives at_edition last terminal
    ∷ (terminal, plan_of 1 edition regions zones) gives terminal
    ∷ (terminal, plan_of 1 edition regions []) gives terminal
    ∷ []

abbrev pub ApplyingShown : Type 0
ApplyingShown =
    Shows alone alone_in_order
    × Shows outcome_at there_in_order
    × Shows there other_configs
    × Shows there other_editions
    × Shows there other_zones
    × Shows outcome_at accepted
    × Shows state_after left
