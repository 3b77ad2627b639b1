-- Examples of requests and of translation: each number of the document is an answer, and where several are earned it is
-- the first of its kind's order. Tables and sets are filled up to the limits, whatever these are; only `LimitsShown`
-- writes the document's limits a second time.
use Rattle.std.specs.Prelude.{ℕ, ◌+◌, ◌*◌, ◌-◌, ◌^◌, Bool, true, false, cond, List, [], ◌∷◌, ◌++◌, map, ◌≡◌, get_or, replicate}
use Rattle.lists.specs.First.{all}
use Rattle.lists.specs.Places.{places, tab}
use Rattle.lists.specs.Rules.{Rule}
use Rattle.rules.specs.Applying.{store_config}
use Rattle.rules.specs.Changes.{with_side}
use Rattle.rules.specs.Configuration.{check, Configuration}
use Rattle.rules.specs.Desk.{usual, desk_zones}
use Rattle.rules.specs.Limits.{limits}
use Rattle.rules.specs.Fields.{region_of}
use Rattle.rules.specs.Regions.{no_region}
use Rattle.rules.specs.Requests.{add_zone, drop_zone, insert, remove, request_rules, refusal, next, answers}
use Rattle.rules.specs.Run.{make_request}
use Rattle.rules.specs.Tables.{empty_zone, sound, Zone}
use Rattle.rules.specs.Translation.{translation}
use Rattle.rules.specs.declared.Checked.TheVariants.{Sound}
use Rattle.rules.specs.declared.Region.{Region}
use Rattle.rules.specs.declared.Request.{Request}
use Rattle.rules.specs.declared.Side.{Side}
use Rattle.rules.specs.declared.Side.TheVariants.{Cpu, Iommu}
use Rattle.rules.specs.declared.Translated.{Translated}

-- ---- what an example is: what is given, and what is answered
infix 70 ◌gives◌
abbrev pub ◌gives◌ : {A B : Type 0} → A → B → A × B
a gives b = (a, b)

-- f answers each with what stands beside it
abbrev pub Shows : {A B : Type 0} → (A → B) → List (A × B) → Type 0
Shows {A} {B} f xs = map (λ (x : A × B). f x.0) xs ≡ map (λ (x : A × B). x.1) xs

-- ---- the configuration: blocks side by side, one more than a set has room for; the GIC, at position 1; and a twin: it
-- has the guest addresses of the first block, of which the GIC has some. In every region v differs from p
abbrev pub block : ℕ → Region
block i = usual (0x40000000 + i * 0x200000) (0x80000000 + i * 0x200000) 0x200000

abbrev pub the_gic : Region
the_gic = usual 0x40000000 0x08000000 0x10000

abbrev pub twin : Region
twin = usual 0x40000000 0x60000000 0x200000

abbrev pub blocks : List Region
blocks = tab limits.in_set block

abbrev pub one_block_more : Region
one_block_more = block limits.in_set

abbrev pub model : Configuration
model = record { regions = twin ∷ the_gic ∷ (blocks ++ one_block_more ∷ []); gic = 1 }

-- ---- tables
-- as many zones as there may be: 0, 1, ..
abbrev pub all_zones : List Zone
all_zones = tab limits.zones empty_zone

-- zone 5 with as many regions on a side as there may be; zone 6 is empty,
-- or has the twin on its CPU side and the GIC on the other
abbrev pub crowd_of : Side → Zone
crowd_of s = with_side s blocks (empty_zone 5)

abbrev pub crowd : Side → List Zone
crowd s = crowd_of s ∷ empty_zone 6 ∷ []

abbrev pub crowd_beside : Side → List Zone
crowd_beside s = crowd_of s ∷ record { id = 6; cpu = twin ∷ []; iommu = the_gic ∷ [] } ∷ []

-- zone 5 with such sets, and zone 6 with the twin on its CPU side
abbrev pub with5_and6 : List Region → List Region → List Zone
with5_and6 cpu iommu = record { id = 5; cpu = cpu; iommu = iommu } ∷ record { id = 6; cpu = twin ∷ []; iommu = [] } ∷ []

abbrev pub held : List Zone
held = with5_and6 (block 2 ∷ block 1 ∷ block 4 ∷ []) (block 1 ∷ block 3 ∷ block 0 ∷ [])

-- zone 5 with a region on one side only
abbrev pub cpu_only : List Zone
cpu_only = record { id = 5; cpu = block 0 ∷ []; iommu = [] } ∷ empty_zone 6 ∷ []

abbrev pub iommu_only : List Zone
iommu_only = record { id = 5; cpu = []; iommu = block 0 ∷ [] } ∷ empty_zone 6 ∷ []

-- zone 5 with a block on its CPU side and, at the same guest addresses, the GIC on the other, which ends earlier
abbrev pub sides_differ : List Zone
sides_differ = record { id = 5; cpu = block 0 ∷ []; iommu = the_gic ∷ [] } ∷ empty_zone 6 ∷ []

-- the configuration passes its check, and these tables are sound under it
abbrev pub tables : List (List Zone)
tables =
    desk_zones ∷ all_zones ∷ crowd Cpu ∷ crowd Iommu ∷ crowd_beside Cpu ∷ crowd_beside Iommu ∷ held ∷ cpu_only ∷ iommu_only
    ∷ sides_differ
    ∷ []

abbrev pub ModelIsSound : Type 0
ModelIsSound = (check limits (store_config limits model) ≡ Sound) × (all (sound limits model) tables ≡ true)

-- ---- regions that are refused wherever they go. Each covers every configured one, so it overlaps the GIC, whatever is
-- held, and itself
-- 9, 10 and 11 apply; 10 and 11; 11 alone
abbrev pub odd_and_far : Region
odd_and_far = usual 0 0 (2 ^ 60 + 1)

abbrev pub far : Region
far = usual 0 0 (2 ^ 60)

abbrev pub unknown : Region
unknown = usual 0 0 (2 ^ 32)

-- ---- requests at a table, and their numbers
infix 80 ◌at◌
abbrev pub ◌at◌ : Request → List Zone → Request × List Zone
q at t = (q, t)

abbrev pub Numbered : Type 0
Numbered = (Request × List Zone) × ℕ

abbrev pub answer_to : Request × List Zone → ℕ
answer_to e = refusal limits model e.1 e.0

-- ---- the order of each kind: for each of its numbers a request that earns it with all later ones that it can be
-- earned with, and the first is the answer
-- the numbers of the rules that apply
unfoldable pub earned : List (Rule ℕ) → List ℕ
earned [] = []
earned (r ∷ rs) = cond r.1 (r.0 ∷ earned rs) (earned rs)

abbrev pub earned_by : Request × List Zone → List ℕ
earned_by e = earned (request_rules limits model e.0.kind e.0.zone e.1)

infix 70 ◌earns◌
abbrev pub ◌earns◌ : Request × List Zone → List ℕ → (Request × List Zone) × List ℕ
e earns ns = (e, ns)

abbrev pub Earning : Type 0
Earning = (Request × List Zone) × List ℕ

-- each request earns the numbers that stand beside it, and is answered with the first of them, or with 0
abbrev pub FirstOf : List Earning → Type 0
FirstOf xs = Shows earned_by xs × Shows answer_to (map (λ (x : Earning). x.0 gives get_or x.1 0 0) xs)

-- add zone: 3, 4, 5, 7. No sound table has a zone above the highest id, so there 4 and 5 are never earned together: the
-- third line shows the rules alone
abbrev pub to_add : List Earning
to_add =
    make_request 1 256 the_gic at all_zones earns (3 ∷ 4 ∷ [])
    ∷ add_zone 256 at all_zones earns (4 ∷ 7 ∷ [])
    ∷ add_zone 256 at (empty_zone 256 ∷ []) earns (4 ∷ 5 ∷ [])
    ∷ add_zone 0 at all_zones earns (5 ∷ 7 ∷ [])
    ∷ add_zone 200 at all_zones earns (7 ∷ [])
    ∷ add_zone 7 at desk_zones earns []
    ∷ []

-- remove zone: 3, 4, 6, 8. A zone that is not there holds nothing, so 6
-- and 8 are never earned together. Either set is enough for 8
abbrev pub to_remove : List Earning
to_remove =
    make_request 2 256 the_gic at held earns (3 ∷ 4 ∷ [])
    ∷ drop_zone 256 at held earns (4 ∷ 6 ∷ [])
    ∷ drop_zone 7 at held earns (6 ∷ [])
    ∷ drop_zone 5 at held earns (8 ∷ [])
    ∷ drop_zone 5 at cpu_only earns (8 ∷ [])
    ∷ drop_zone 5 at iommu_only earns (8 ∷ [])
    ∷ drop_zone 6 at cpu_only earns []
    ∷ []

-- CPU insert: 3, 4, 6, 9, 10, 11, 12, 13, 14, 15, 16. A zone that is not there has no set, so 6 is never earned with
-- 13, 15 or 16. What a sound table holds is well formed, in reach and configured, on the CPU side off the GIC too, so
-- 13 is never earned with 9, 10, 11 or 12
abbrev pub to_insert_cpu : List Earning
to_insert_cpu =
    make_request 0x103 256 odd_and_far at crowd_beside Cpu earns (3 ∷ 4 ∷ [])
    ∷ insert Cpu odd_and_far 256 at crowd_beside Cpu earns (4 ∷ 6 ∷ 9 ∷ 10 ∷ 11 ∷ 12 ∷ 14 ∷ [])
    ∷ insert Cpu odd_and_far 7 at crowd_beside Cpu earns (6 ∷ 9 ∷ 10 ∷ 11 ∷ 12 ∷ 14 ∷ [])
    ∷ insert Cpu odd_and_far 5 at crowd_beside Cpu earns (9 ∷ 10 ∷ 11 ∷ 12 ∷ 14 ∷ 15 ∷ 16 ∷ [])
    ∷ insert Cpu far 5 at crowd_beside Cpu earns (10 ∷ 11 ∷ 12 ∷ 14 ∷ 15 ∷ 16 ∷ [])
    ∷ insert Cpu unknown 5 at crowd_beside Cpu earns (11 ∷ 12 ∷ 14 ∷ 15 ∷ 16 ∷ [])
    ∷ insert Cpu the_gic 5 at crowd_beside Cpu earns (12 ∷ 14 ∷ 15 ∷ 16 ∷ [])
    ∷ insert Cpu (block 0) 5 at crowd_beside Cpu earns (13 ∷ 14 ∷ 15 ∷ 16 ∷ [])
    ∷ insert Cpu twin 5 at crowd_beside Cpu earns (14 ∷ 15 ∷ 16 ∷ [])
    ∷ insert Cpu twin 5 at crowd Cpu earns (15 ∷ 16 ∷ [])
    ∷ insert Cpu one_block_more 5 at crowd Cpu earns (16 ∷ [])
    ∷ insert Cpu one_block_more 6 at crowd Cpu earns []
    ∷ []

-- IOMMU insert: the same without 12. What two zones of a sound table hold does not overlap unless it is the GIC, which
-- is exempt, so here 13 and 14 are never earned together
abbrev pub to_insert_iommu : List Earning
to_insert_iommu =
    make_request 0x105 256 odd_and_far at crowd_beside Iommu earns (3 ∷ 4 ∷ [])
    ∷ insert Iommu odd_and_far 256 at crowd_beside Iommu earns (4 ∷ 6 ∷ 9 ∷ 10 ∷ 11 ∷ 14 ∷ [])
    ∷ insert Iommu odd_and_far 7 at crowd_beside Iommu earns (6 ∷ 9 ∷ 10 ∷ 11 ∷ 14 ∷ [])
    ∷ insert Iommu odd_and_far 5 at crowd_beside Iommu earns (9 ∷ 10 ∷ 11 ∷ 14 ∷ 15 ∷ 16 ∷ [])
    ∷ insert Iommu far 5 at crowd_beside Iommu earns (10 ∷ 11 ∷ 14 ∷ 15 ∷ 16 ∷ [])
    ∷ insert Iommu unknown 5 at crowd_beside Iommu earns (11 ∷ 14 ∷ 15 ∷ 16 ∷ [])
    ∷ insert Iommu (block 0) 5 at crowd_beside Iommu earns (13 ∷ 15 ∷ 16 ∷ [])
    ∷ insert Iommu twin 5 at crowd_beside Iommu earns (14 ∷ 15 ∷ 16 ∷ [])
    ∷ insert Iommu twin 5 at crowd Iommu earns (15 ∷ 16 ∷ [])
    ∷ insert Iommu one_block_more 5 at crowd Iommu earns (16 ∷ [])
    ∷ insert Iommu one_block_more 6 at crowd Iommu earns []
    ∷ []

-- remove region: 3, 4, 6, 17. Nothing is asked of the region but that
-- this set holds it: not the other side's, not another zone's
abbrev pub to_cut : List Earning
to_cut =
    make_request 0x104 256 odd_and_far at held earns (3 ∷ 4 ∷ [])
    ∷ remove Cpu odd_and_far 256 at held earns (4 ∷ 6 ∷ 17 ∷ [])
    ∷ remove Iommu odd_and_far 7 at held earns (6 ∷ 17 ∷ [])
    ∷ remove Cpu odd_and_far 5 at held earns (17 ∷ [])
    ∷ remove Iommu (block 0) 5 at cpu_only earns (17 ∷ [])
    ∷ remove Cpu (block 0) 5 at iommu_only earns (17 ∷ [])
    ∷ remove Cpu (block 0) 6 at cpu_only earns (17 ∷ [])
    ∷ remove Cpu (block 0) 5 at cpu_only earns []
    ∷ []

abbrev pub FirstIsAnswered : Type 0
FirstIsAnswered = FirstOf to_add × FirstOf to_remove × FirstOf to_insert_cpu × FirstOf to_insert_iommu × FirstOf to_cut

-- ---- 14 and 15, set by set
-- a CPU region may not overlap the CPU set of a zone, nor the IOMMU set of another
abbrev pub cpu_overlaps : List Numbered
cpu_overlaps =
    insert Cpu (block 0) 6 at cpu_only gives 14 ∷ insert Cpu (block 0) 6 at iommu_only gives 14
    ∷ insert Cpu (block 0) 5 at iommu_only gives 0 ∷ []

-- an IOMMU region may not overlap a set of another zone
abbrev pub iommu_overlaps : List Numbered
iommu_overlaps =
    insert Iommu (block 0) 6 at cpu_only gives 14 ∷ insert Iommu (block 0) 6 at iommu_only gives 14
    ∷ insert Iommu (block 0) 5 at cpu_only gives 0 ∷ []

-- the GIC may be on the IOMMU side of two zones, but in no set with a region that has its guest addresses
abbrev pub gic_overlaps : List Numbered
gic_overlaps = insert Iommu the_gic 5 at crowd_beside Cpu gives 0 ∷ insert Iommu the_gic 5 at iommu_only gives 15 ∷ []

abbrev pub OverlapsShown : Type 0
OverlapsShown = Shows answer_to cpu_overlaps × Shows answer_to iommu_overlaps × Shows answer_to gic_overlaps

-- ---- the document's limits, a second time: whoever changes one in Limits changes it here
-- each number of a region is a multiple of 4,096, and its size is above 0; a region of one page is merely unknown
abbrev pub of_apage : List (Region × ℕ)
of_apage =
    usual 0x1000 0x1000 0x1000 gives 11
    ∷ usual 0x800 0x1000 0x1000 gives 9
    ∷ usual 0x1000 0x800 0x1000 gives 9
    ∷ usual 0x1000 0x1000 0x800 gives 9
    ∷ usual 0x1000 0x1000 0 gives 9
    ∷ []

-- v + size is at most 2^40 and p + size at most 2^48, as whole numbers: regions that end exactly there, by their start or
-- by their size; and those that end a page above, or past 2^64
abbrev pub just_in_reach : List Region
just_in_reach = usual (2 ^ 40 - 0x1000) 0 0x1000 ∷ usual 0 (2 ^ 40) (2 ^ 40) ∷ usual 0 (2 ^ 48 - 0x1000) 0x1000 ∷ []

abbrev pub out_of_reach : List Region
out_of_reach =
    usual (2 ^ 40) 0 0x1000
    ∷ usual 0 (2 ^ 40) (2 ^ 40 + 0x1000)
    ∷ usual 0 (2 ^ 48) 0x1000
    ∷ usual (2 ^ 64 - 0x1000) 0 0x2000
    ∷ usual 0 (2 ^ 64 - 0x1000) 0x2000
    ∷ []

abbrev pub in_the_reaches : List (Region × ℕ)
in_the_reaches = map (λ (r : Region). r gives 11) just_in_reach ++ map (λ (r : Region). r gives 10) out_of_reach

abbrev pub inserted_in5 : Side → Region → ℕ
inserted_in5 s r = refusal limits model desk_zones (insert s r 5)

-- ids up to 255
abbrev pub of_ids : List Numbered
of_ids =
    add_zone 255 at desk_zones gives 0 ∷ add_zone 256 at desk_zones gives 4 ∷ add_zone (2 ^ 32 - 1) at desk_zones gives 4 ∷ []

-- 32 zones, and 16 regions in a set: how many are accepted one after another, and what the next one gets
abbrev pub blocks_to5 : Side → List Request
blocks_to5 s = map (λ (i : ℕ). insert s (block i) 5) (places 0 17)

abbrev pub LimitsShown : Type 0
LimitsShown =
    Shows (inserted_in5 Cpu) of_apage
    × Shows (inserted_in5 Iommu) of_apage
    × Shows (inserted_in5 Cpu) in_the_reaches
    × Shows (inserted_in5 Iommu) in_the_reaches
    × Shows answer_to of_ids
    × (answers limits model [] (map add_zone (places 0 33)) ≡ replicate 32 0 ++ 7 ∷ [])
    × (answers limits model desk_zones (blocks_to5 Cpu) ≡ replicate 16 0 ++ 16 ∷ [])
    × (answers limits model desk_zones (blocks_to5 Iommu) ≡ replicate 16 0 ++ 16 ∷ [])

-- ---- rights: each alone, and all; none, a bit more beside them, that bit alone, and one past 32 bits
abbrev pub of_rights : List (Region × ℕ)
of_rights =
    region_of 0x1000 0x1000 0x1000 1 gives 11
    ∷ region_of 0x1000 0x1000 0x1000 2 gives 11
    ∷ region_of 0x1000 0x1000 0x1000 4 gives 11
    ∷ region_of 0x1000 0x1000 0x1000 7 gives 11
    ∷ region_of 0x1000 0x1000 0x1000 0 gives 9
    ∷ region_of 0x1000 0x1000 0x1000 (8 + 3) gives 9
    ∷ region_of 0x1000 0x1000 0x1000 8 gives 9
    ∷ region_of 0x1000 0x1000 0x1000 (2 ^ 32 + 3) gives 9
    ∷ []

-- a region that is configured and held, named with other rights
abbrev pub read_only : ℕ → Region
read_only i = record { v = (block i).v; p = (block i).p; size = (block i).size; rights = record { 0 = 1 } }

abbrev pub other_rights : List Numbered
other_rights =
    insert Cpu (read_only 1) 6 at desk_zones gives 11
    ∷ insert Iommu (read_only 1) 6 at desk_zones gives 11
    ∷ remove Cpu (read_only 0) 5 at cpu_only gives 17
    ∷ remove Iommu (read_only 0) 5 at iommu_only gives 17
    ∷ remove Cpu (block 0) 5 at cpu_only gives 0
    ∷ remove Iommu (block 0) 5 at iommu_only gives 0
    ∷ []

-- 19: a region of each rights from 1 to 7, all of them configured, and the GIC with all rights
abbrev pub allowing : ℕ → Region
allowing n = region_of (0x40000000 + n * 0x200000) (0x80000000 + n * 0x200000) 0x200000 n

abbrev pub gic_of_all : Region
gic_of_all = region_of 0x08000000 0x08000000 0x10000 7

abbrev pub of_each_rights : Configuration
of_each_rights = record { regions = gic_of_all ∷ map allowing (places 1 7); gic = 0 }

abbrev pub to_each : Side → List ℕ
to_each s = map (λ (n : ℕ). refusal limits of_each_rights desk_zones (insert s (allowing n) 5)) (places 1 7)

-- it comes after 11 and before 12 and 13
abbrev pub zone5_with : Side → Region → List Zone
zone5_with Cpu r = record { id = 5; cpu = r ∷ []; iommu = [] } ∷ []
zone5_with Iommu r = record { id = 5; cpu = []; iommu = r ∷ [] } ∷ []

abbrev pub in_order : List ℕ
in_order =
    refusal limits of_each_rights desk_zones (insert Cpu (region_of 0 0 0x1000 7) 5)
    ∷ refusal limits of_each_rights desk_zones (insert Cpu gic_of_all 5)
    ∷ refusal limits of_each_rights desk_zones (insert Iommu gic_of_all 5)
    ∷ refusal limits of_each_rights (zone5_with Cpu (allowing 7)) (insert Cpu (allowing 7) 5)
    ∷ refusal limits of_each_rights (zone5_with Iommu (allowing 4)) (insert Iommu (allowing 4) 5)
    ∷ []

-- and a table that holds one is unsound
abbrev pub sound_with : Side → List Bool
sound_with s = map (λ (n : ℕ). sound limits of_each_rights (zone5_with s (allowing n))) (places 1 7)

abbrev pub RightsShown : Type 0
RightsShown =
    Shows (inserted_in5 Cpu) of_rights
    × Shows (inserted_in5 Iommu) of_rights
    × Shows answer_to other_rights
    × (to_each Cpu ≡ 0 ∷ 0 ∷ 0 ∷ 0 ∷ 0 ∷ 19 ∷ 19 ∷ [])
    × (to_each Iommu ≡ 0 ∷ 0 ∷ 0 ∷ 19 ∷ 19 ∷ 19 ∷ 19 ∷ [])
    × (in_order ≡ 11 ∷ 19 ∷ 19 ∷ 19 ∷ 19 ∷ [])
    × (sound_with Cpu ≡ true ∷ true ∷ true ∷ true ∷ true ∷ false ∷ false ∷ [])
    × (sound_with Iommu ≡ true ∷ true ∷ true ∷ false ∷ false ∷ false ∷ false ∷ [])

-- ---- kinds by their numbers, and what an accepted request does
-- 3: a number other than 1 to 6, compared whole; and where a zone is added or removed, a region with any number that is
-- not 0
abbrev pub no_kinds : List Numbered
no_kinds =
    make_request 0 6 no_region at desk_zones gives 3
    ∷ make_request 7 6 no_region at desk_zones gives 3
    ∷ make_request 0x101 7 no_region at desk_zones gives 3
    ∷ make_request 0x102 6 no_region at desk_zones gives 3
    ∷ make_request 0x103 6 (block 0) at desk_zones gives 3
    ∷ make_request 0x104 5 (block 0) at cpu_only gives 3
    ∷ make_request 0x105 6 (block 0) at desk_zones gives 3
    ∷ make_request 0x106 5 (block 0) at iommu_only gives 3
    ∷ make_request 1 7 (region_of 1 0 0 0) at desk_zones gives 3
    ∷ make_request 1 7 (region_of 0 1 0 0) at desk_zones gives 3
    ∷ make_request 1 7 (region_of 0 0 1 0) at desk_zones gives 3
    ∷ make_request 1 7 (region_of 0 0 0 1) at desk_zones gives 3
    ∷ make_request 2 6 (region_of 1 0 0 0) at desk_zones gives 3
    ∷ make_request 2 6 (region_of 0 1 0 0) at desk_zones gives 3
    ∷ make_request 2 6 (region_of 0 0 1 0) at desk_zones gives 3
    ∷ make_request 2 6 (region_of 0 0 0 3) at desk_zones gives 3
    ∷ []

-- 4: the id too is compared whole
abbrev pub no_ids : List Numbered
no_ids =
    make_request 1 0x107 no_region at desk_zones gives 4 ∷ make_request 2 0x106 no_region at desk_zones gives 4
    ∷ make_request 3 0x105 (block 0) at desk_zones gives 4 ∷ []

abbrev pub table_after : Request × List Zone → List Zone
table_after e = next limits model e.1 e.0

-- 1 appends an empty zone; 2 closes the gap and keeps the order
abbrev pub zone_kinds : List ((Request × List Zone) × List Zone)
zone_kinds =
    make_request 1 7 no_region at held gives (held ++ empty_zone 7 ∷ [])
    ∷ make_request 2 3 no_region at (held ++ map empty_zone (3 ∷ 9 ∷ 1 ∷ [])) gives (held ++ map empty_zone (9 ∷ 1 ∷ []))
    ∷ []

-- 3 and 5 append to the set of their side; 4 and 6 close the gap there and keep the order. All else stays
abbrev pub cpu_inserts : List ((Request × List Zone) × List Zone)
cpu_inserts =
    make_request 3 5 (block 5) at held
    gives with5_and6 (block 2 ∷ block 1 ∷ block 4 ∷ block 5 ∷ []) (block 1 ∷ block 3 ∷ block 0 ∷ [])
    ∷ []

abbrev pub cpu_cuts : List ((Request × List Zone) × List Zone)
cpu_cuts =
    make_request 4 5 (block 2) at held gives with5_and6 (block 1 ∷ block 4 ∷ []) (block 1 ∷ block 3 ∷ block 0 ∷ [])
    ∷ make_request 4 5 (block 1) at held gives with5_and6 (block 2 ∷ block 4 ∷ []) (block 1 ∷ block 3 ∷ block 0 ∷ [])
    ∷ []

abbrev pub iommu_inserts : List ((Request × List Zone) × List Zone)
iommu_inserts =
    make_request 5 5 (block 5) at held
    gives with5_and6 (block 2 ∷ block 1 ∷ block 4 ∷ []) (block 1 ∷ block 3 ∷ block 0 ∷ block 5 ∷ [])
    ∷ []

abbrev pub iommu_cuts : List ((Request × List Zone) × List Zone)
iommu_cuts =
    make_request 6 5 (block 1) at held gives with5_and6 (block 2 ∷ block 1 ∷ block 4 ∷ []) (block 3 ∷ block 0 ∷ [])
    ∷ make_request 6 5 (block 3) at held gives with5_and6 (block 2 ∷ block 1 ∷ block 4 ∷ []) (block 1 ∷ block 0 ∷ [])
    ∷ []

-- a refusal returns the table that it was given
abbrev pub refused_kinds : List ((Request × List Zone) × List Zone)
refused_kinds =
    make_request 0 5 no_region at held gives held
    ∷ make_request 1 5 no_region at held gives held
    ∷ make_request 2 5 no_region at held gives held
    ∷ make_request 3 6 (block 1) at held gives held
    ∷ make_request 4 6 (block 1) at held gives held
    ∷ make_request 5 6 (block 1) at held gives held
    ∷ make_request 6 6 (block 1) at held gives held
    ∷ []

abbrev pub KindsShown : Type 0
KindsShown =
    Shows answer_to no_kinds
    × Shows answer_to no_ids
    × Shows table_after zone_kinds
    × Shows table_after cpu_inserts
    × Shows table_after cpu_cuts
    × Shows table_after iommu_inserts
    × Shows table_after iommu_cuts
    × Shows table_after refused_kinds

-- ---- translation of a guest address, in a zone and on a side
pub record Asking : Type 0 where
  pub zone : ℕ
  pub side : Side
  pub address : ℕ

abbrev pub in5 : Side → ℕ → Asking
in5 s a = record { zone = 5; side = s; address = a }

abbrev pub translation_of : List Zone → Asking → Translated
translation_of t e = translation t e.zone e.side e.address

-- the answers: 0 with an address and how many bytes there are from it on, or a number with 0 for both
infix 75 ◌lasts◌
abbrev pub ◌lasts◌ : ℕ → ℕ → Translated
p lasts n = record { number = 0; phys = record { 0 = p }; remaining = n }

abbrev pub goes_nowhere : ℕ → Translated
goes_nowhere n = record { number = n; phys = record { 0 = 0 }; remaining = 0 }

-- the first byte of a region, the next, one in its middle and its last; the byte
-- after that is the first of the region that adjoins it
abbrev pub inside : List (Asking × Translated)
inside =
    in5 Cpu 0x40200000 gives 0x80200000 lasts 0x200000
    ∷ in5 Cpu 0x40200001 gives 0x80200001 lasts 0x1fffff
    ∷ in5 Cpu 0x40212345 gives 0x80212345 lasts 0x1edcbb
    ∷ in5 Cpu 0x403fffff gives 0x803fffff lasts 1
    ∷ in5 Cpu 0x40400000 gives 0x80400000 lasts 0x200000
    ∷ []

-- the byte before a region and its end are not covered; any address may be asked
abbrev pub outside : List (Asking × Translated)
outside =
    in5 Cpu 0x401fffff gives goes_nowhere 18
    ∷ in5 Cpu 0x40600000 gives goes_nowhere 18
    ∷ in5 Cpu 0x407fffff gives goes_nowhere 18
    ∷ in5 Cpu (2 ^ 64 - 1) gives goes_nowhere 18
    ∷ []

-- the other side has another set, and another zone another region at the same guest address
abbrev pub elsewhere_in : List (Asking × Translated)
elsewhere_in =
    in5 Cpu 0x40800000 gives 0x80800000 lasts 0x200000
    ∷ in5 Iommu 0x40800000 gives goes_nowhere 18
    ∷ in5 Cpu 0x40012345 gives goes_nowhere 18
    ∷ in5 Iommu 0x40012345 gives 0x80012345 lasts 0x1edcbb
    ∷ record { zone = 6; side = Cpu; address = 0x40012345 } gives 0x60012345 lasts 0x1edcbb
    ∷ []

-- one address that both sides have: each side goes as far as its own region
abbrev pub on_both_sides : List (Asking × Translated)
on_both_sides =
    in5 Cpu 0x40001234 gives 0x80001234 lasts 0x1fedcc
    ∷ in5 Iommu 0x40001234 gives 0x08001234 lasts 0xedcc
    ∷ in5 Cpu 0x4000ffff gives 0x8000ffff lasts 0x1f0001
    ∷ in5 Iommu 0x4000ffff gives 0x0800ffff lasts 1
    ∷ in5 Cpu 0x40010000 gives 0x80010000 lasts 0x1f0000
    ∷ in5 Iommu 0x40010000 gives goes_nowhere 18
    ∷ []

-- why a table must be sound for a stretch to go on: of two regions that share guest addresses the first in the set
-- answers there, and the stretch that begins in the other comes out elsewhere from then on
abbrev pub sharing : List Zone
sharing = record { id = 5; cpu = block 1 ∷ usual 0x40000000 0x60000000 0x400000 ∷ []; iommu = [] } ∷ []

abbrev pub where_shared : List (Asking × Translated)
where_shared =
    in5 Cpu 0x40000000 gives 0x60000000 lasts 0x400000
    ∷ in5 Cpu 0x401fffff gives 0x601fffff lasts 0x200001
    ∷ in5 Cpu 0x40200000 gives 0x80200000 lasts 0x200000
    ∷ []

-- 4, 6, 18: in a zone that is not there nothing is covered
abbrev pub numbers_of : List (Asking × Translated)
numbers_of =
    record { zone = 256; side = Cpu; address = 0x40012345 } gives goes_nowhere 4
    ∷ record { zone = 7; side = Cpu; address = 0x40012345 } gives goes_nowhere 6
    ∷ record { zone = 6; side = Iommu; address = 0x40012345 } gives goes_nowhere 18
    ∷ []

abbrev pub TranslationShown : Type 0
TranslationShown =
    Shows (translation_of held) inside
    × Shows (translation_of held) outside
    × Shows (translation_of held) elsewhere_in
    × Shows (translation_of sides_differ) on_both_sides
    × Shows (translation_of sharing) where_shared
    × Shows (translation_of held) numbers_of
