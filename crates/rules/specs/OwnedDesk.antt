-- The desk's regions with owners: what no law tells from another rule. The number of the GIC's owner, where the owners
-- stand in a plan, and that 23 asks for them.
use Rattle.std.specs.Prelude.{ℕ, ◌+◌, List, [], ◌∷◌, ◌++◌, ◌≡◌, take, drop}
use Rattle.lists.specs.Room.{room}
use Rattle.rules.specs.Applying.{store, plain, apply_by, answer_alone_by, TerminalOf}
use Rattle.rules.specs.Desk.{usual, A, B, C, G, desk_config, desk_zones, whole_plan, desk_terminal}
use Rattle.rules.specs.Fields.{short_size}
use Rattle.rules.specs.Limits.{most_regions, limits}
use Rattle.rules.specs.OwnedPlan.{owned_steps}
use Rattle.rules.specs.Owners.{gic_owner, owned_of, owned_check, owned_check_number, owned_check_place, owned_check_earlier}
use Rattle.rules.specs.Owners.{owned_refusal, owned_next, owned_answer, owned_run_answer, owned_translated, Owned}
use Rattle.rules.specs.Owners.{StoredOwned}
use Rattle.rules.specs.Regions.{no_region}
use Rattle.rules.specs.Requests.{add_zone, drop_zone, insert, remove}
use Rattle.rules.specs.Sizes.{marks_size, regions_size}
use Rattle.rules.specs.Tables.{Zone, StoredTable}
use Rattle.rules.specs.declared.Checked.TheVariants.{Sound, NotZero, Overlap}
use Rattle.rules.specs.declared.Guest.{Guest}
use Rattle.rules.specs.declared.OwnedChecked.{OwnedChecked}
use Rattle.rules.specs.declared.OwnedChecked.TheVariants.{Plain, WrongOwner}
use Rattle.rules.specs.declared.Outcome.{Outcome}
use Rattle.rules.specs.declared.Request.{Request}
use Rattle.rules.specs.declared.Side.TheVariants.{Cpu, Iommu}
use Rattle.rules.specs.declared.Translated.{Translated}

-- the desk's configuration with owners
abbrev pub owned_by : List ℕ → StoredOwned
owned_by ns = record { config = desk_config; owners = room most_regions 0 ns }

-- A and C are zone 5's, B is zone 6's
abbrev pub bank : StoredOwned
bank = owned_by (5 ∷ 6 ∷ 5 ∷ 4294967295 ∷ [])

-- what the check says of other owners
abbrev pub Finds : List ℕ → OwnedChecked → Type 0
Finds ns f = owned_check limits (owned_by ns) ≡ f

-- region 0 malformed, owner 1 wrong
abbrev pub two_faults : StoredOwned
two_faults = record {
  config = record { count = 4; gic = 3; records = room most_regions no_region (usual 1 0 0x1000 ∷ B ∷ C ∷ G ∷ []) };
  owners = room most_regions 0 (5 ∷ 256 ∷ 5 ∷ gic_owner ∷ []);
}

-- the numbers of requests one after another
unfoldable pub owned_answers : Owned → List Zone → List Request → List ℕ
owned_answers o t [] = []
owned_answers o t (q ∷ qs) = owned_refusal limits o t q ∷ owned_answers o (owned_next limits o t q) qs

abbrev pub Says : List Request → List ℕ → Type 0
Says qs ns = owned_answers (owned_of bank) desk_zones qs ≡ ns

-- ---- a terminal whose only region is the GIC, and the document's whole plan with an owners section behind its regions
abbrev pub bank_terminal : TerminalOf StoredOwned
bank_terminal = record {
  config = record { config = desk_terminal.config; owners = room most_regions 0 (4294967295 ∷ []) };
  table = desk_terminal.table;
  edition = 0;
}

abbrev pub owners_at : ℕ
owners_at = marks_size limits + regions_size 1

abbrev pub with_owners : List ℕ → List ℕ
with_owners b = take owners_at whole_plan ++ (b ++ drop owners_at whole_plan)

-- cut behind these bytes
abbrev pub cut_after : List ℕ → List ℕ
cut_after b = take owners_at whole_plan ++ b

abbrev pub Answers : List ℕ → Outcome → Type 0
Answers b o = (apply_by (owned_steps limits) bank_terminal b).outcome ≡ o

-- ---- from outside
-- the owner of C is no id; zone 5 with A, which is its own; and with B, which is zone 6's
abbrev pub wrong_owners : StoredOwned
wrong_owners = owned_by (5 ∷ 6 ∷ 256 ∷ 4294967295 ∷ [])

abbrev pub own_table : StoredTable
own_table = store limits (record { id = 5; cpu = A ∷ []; iommu = [] } ∷ [])

abbrev pub strange_table : StoredTable
strange_table = store limits (record { id = 5; cpu = B ∷ []; iommu = [] } ∷ [])

-- where A and B begin for the guest
abbrev pub start : Guest
start = record { 0 = 0x40000000 }

abbrev pub translates_to : ℕ → ℕ → ℕ → Translated
translates_to number phys remaining = record { number = number; phys = record { 0 = phys }; remaining = remaining }

-- whatever is asked, that number comes first: of a request, of an address, of no requests at all and of no bytes
abbrev pub Refuses : StoredOwned → StoredTable → ℕ → Type 0
Refuses c t n =
    (owned_answer limits c t (add_zone 6) ≡ n)
    × (owned_translated limits c t 5 Cpu start ≡ translates_to n 0 0)
    × (owned_run_answer limits c t [] ≡ plain n 0)
    × ((apply_by (owned_steps limits) (record { config = c; table = t; edition = 0 }) []).outcome ≡ plain n 0)

-- a plan alone is judged by the owners that it gives
abbrev pub AnswersAlone : List ℕ → Outcome → Type 0
AnswersAlone b o = answer_alone_by (owned_steps limits) b ≡ o

-- the numbers of an answer of the check
abbrev pub Tells : OwnedChecked → ℕ → ℕ → ℕ → Type 0
Tells f number place earlier =
    (owned_check_number f ≡ number) × (owned_check_place f ≡ place) × (owned_check_earlier f ≡ earlier)

-- the claim: 1 comes before 2, and both before all else; where neither applies, the rules answer; a plan alone whose
-- GIC has its owner is accepted, and one whose GIC has another is 1; C7 and C6 in numbers
abbrev pub OwnedOutsideShown : Type 0
OwnedOutsideShown =
    Refuses wrong_owners own_table 1
    × Refuses wrong_owners strange_table 1
    × Refuses bank strange_table 2
    × (owned_answer limits bank own_table (add_zone 6) ≡ 0)
    × (owned_translated limits bank own_table 5 Cpu start ≡ translates_to 0 0x80000000 0x200000)
    × (owned_run_answer limits bank own_table (add_zone 6 ∷ add_zone 6 ∷ []) ≡ record { number = 27; place = 1; inner = 5 })
    × AnswersAlone (with_owners (1 ∷ 0 ∷ 0 ∷ 0 ∷ 255 ∷ 255 ∷ 255 ∷ 255 ∷ [])) (plain 0 1)
    × AnswersAlone (with_owners (1 ∷ 0 ∷ 0 ∷ 0 ∷ 5 ∷ 0 ∷ 0 ∷ 0 ∷ [])) (plain 1 0)
    × Tells (WrongOwner 2) 7 2 0
    × Tells (Plain (Overlap 3 1)) 6 3 1

-- the claim
abbrev pub OwnedDeskShown : Type 0
OwnedDeskShown =
    (owned_check limits bank ≡ Plain Sound)
    × Finds (255 ∷ 6 ∷ 5 ∷ gic_owner ∷ []) (Plain Sound)
    × Finds (5 ∷ 6 ∷ 256 ∷ gic_owner ∷ []) (WrongOwner 2)
    × Finds (5 ∷ 6 ∷ gic_owner ∷ gic_owner ∷ []) (WrongOwner 2)
    × Finds (5 ∷ 6 ∷ 5 ∷ 5 ∷ []) (WrongOwner 3)
    × Finds (256 ∷ 6 ∷ 5 ∷ gic_owner ∷ 0 ∷ gic_owner ∷ []) (Plain (NotZero 5))
    × (owned_check limits two_faults ≡ WrongOwner 1)
    × Says (insert Cpu A 5 ∷ insert Cpu A 6 ∷ insert Iommu B 5 ∷ insert Cpu G 5 ∷ []) (0 ∷ 11 ∷ 11 ∷ 11 ∷ [])
    × Says (insert Iommu G 5 ∷ insert Iommu G 6 ∷ drop_zone 5 ∷ remove Iommu A 5 ∷ []) (0 ∷ 0 ∷ 8 ∷ 17 ∷ [])
    × Answers (with_owners (1 ∷ 0 ∷ 0 ∷ 0 ∷ 255 ∷ 255 ∷ 255 ∷ 255 ∷ [])) (plain 0 1)
    × Answers (with_owners (1 ∷ 0 ∷ 0 ∷ 0 ∷ 5 ∷ 0 ∷ 0 ∷ 0 ∷ [])) (plain 23 0)
    × Answers (with_owners (2 ∷ 0 ∷ 0 ∷ 0 ∷ 255 ∷ 255 ∷ 255 ∷ 255 ∷ [])) (plain 21 owners_at)
    × Answers whole_plan (plain 21 owners_at)
    × Answers (cut_after (2 ∷ 0 ∷ 0 ∷ [])) (plain 20 owners_at)
    × Answers (cut_after (1 ∷ 0 ∷ 0 ∷ 0 ∷ 255 ∷ 255 ∷ 255 ∷ [])) (plain 20 (owners_at + short_size))
