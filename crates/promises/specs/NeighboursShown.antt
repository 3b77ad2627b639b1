-- There are such runs and such plans, under the desk's configuration: neighbours that change nothing for zone 5, and
-- those that show as 14 and 7; with owners only as 7.
use Rattle.std.specs.Prelude.{ℕ, ◌-◌, List, [], ◌∷◌, map, ◌≡◌}
use Rattle.lists.specs.Orders.{keep}
use Rattle.lists.specs.Places.{places}
use Rattle.rules.specs.Applying.{store, plain, Kept, apply_by, plain_steps, apply, Terminal}
use Rattle.rules.specs.Desk.{A, B, G, desk_config, desk_zones, desk_terminal}
use Rattle.rules.specs.Limits.{limits}
use Rattle.rules.specs.OwnedDesk.{bank}
use Rattle.rules.specs.OwnedPlan.{owned_steps}
use Rattle.rules.specs.Plan.{Asked}
use Rattle.rules.specs.Planner.{plan_bytes_by}
use Rattle.rules.specs.Regions.{no_region}
use Rattle.rules.specs.Requests.{add_zone, drop_zone, insert}
use Rattle.rules.specs.Steps.{StepRule}
use Rattle.rules.specs.Story.{there, both}
use Rattle.rules.specs.Tables.{empty_zone, Zone}
use Rattle.rules.specs.Translation.{translation}
use Rattle.rules.specs.declared.Outcome.{Outcome}
use Rattle.rules.specs.declared.Request.{Request}
use Rattle.rules.specs.declared.Side.TheVariants.{Cpu, Iommu}
use Rattle.rules.specs.declared.Translated.{Translated}
use Rattle.promises.specs.Neighbours.{Alike, names, end_of, accepted_for, bare, zones_after, taken, NextPlan}
use Rattle.promises.specs.Steps.{Deliveries}

-- ---- requests
-- zone 5 has region A: beside a neighbour that came after it and is refused A; and beside one that came before it and
-- has B, for which zone 5 asks in vain
abbrev pub quiet : List Request
quiet = add_zone 5 ∷ insert Cpu A 5 ∷ add_zone 6 ∷ insert Cpu A 6 ∷ insert Iommu G 6 ∷ []

abbrev pub crowded : List Request
crowded =
    add_zone 6
    ∷ insert Cpu B 6
    ∷ insert Cpu A 5
    ∷ add_zone 5
    ∷ insert Iommu B 5
    ∷ add_zone 5
    ∷ insert Cpu A 5
    ∷ drop_zone 7
    ∷ []

-- as many zones as there may be, none of them zone 40
abbrev pub full : List Request
full = map add_zone (places 0 limits.zones)

-- zone 5's own accepted requests
abbrev pub own5 : List Request
own5 = add_zone 5 ∷ insert Cpu A 5 ∷ []

-- zone 5 as it then is, and zone 6 with G, or with B
abbrev pub zone5 : Zone
zone5 = record { id = 5; cpu = A ∷ []; iommu = [] }

abbrev pub quiet_end : List Zone
quiet_end = zone5 ∷ record { id = 6; cpu = []; iommu = G ∷ [] } ∷ []

abbrev pub crowded_end : List Zone
crowded_end = record { id = 6; cpu = B ∷ []; iommu = [] } ∷ zone5 ∷ []

-- an address of zone 5 comes out in A, and so much of A is left
abbrev pub in_a : Translated
in_a = record { number = 0; phys = record { 0 = 0x80001234 }; remaining = 0x200000 - 0x1234 }

-- the answer to a request at the end of a run
abbrev pub asked : (m : StepRule) → m.Config → List Request → Request → ℕ
asked m c qs q = m.refusal c (end_of m c qs) q

-- its own accepted requests are the same two; it stands first in one end and second in the other; and an address of it
-- comes out at one place
abbrev pub OwnShown : (m : StepRule) → m.Config → Type 0
OwnShown m c =
    (accepted_for m c 5 quiet ≡ own5)
    × (accepted_for m c 5 crowded ≡ own5)
    × (end_of m c quiet ≡ quiet_end)
    × (end_of m c crowded ≡ crowded_end)
    × (translation quiet_end 5 Cpu 0x40001234 ≡ in_a)
    × (translation crowded_end 5 Cpu 0x40001234 ≡ in_a)

-- the zone's next request, at two ends that stand alike for it, gets these two answers
abbrev pub Answered : (m : StepRule) → m.Config → List Request → List Request → Request → ℕ → ℕ → Type 0
Answered m c qs us q a b =
    Alike q.zone (end_of m c qs) (end_of m c us) × (asked m c qs q ≡ a) × (asked m c us q ≡ b)

-- region B for zone 5's devices: 0 and 14. Zone 40, absent from both: 0 and 7
abbrev pub NeighboursShown : Type 0
NeighboursShown =
    OwnShown (plain_steps limits) desk_config
    × Answered (plain_steps limits) desk_config quiet crowded (insert Iommu B 5) 0 14
    × Answered (plain_steps limits) desk_config quiet full (add_zone 40) 0 7

-- with owners, where A is zone 5's and B is zone 6's: 11 both times, whoever holds B; and 0 and 7
abbrev pub OwnedNeighboursShown : Type 0
OwnedNeighboursShown =
    OwnShown (owned_steps limits) bank
    × Answered (owned_steps limits) bank quiet crowded (insert Iommu B 5) 11 11
    × Answered (owned_steps limits) bank quiet full (add_zone 40) 0 7

-- ---- plans
-- one terminal gets the plan that adds zone 5; the other noise, the plan that adds zones 5 and 6, and the first one's
-- plan, which it refuses
abbrev pub one_zone : List (List ℕ)
one_zone = there ∷ []

abbrev pub two_zones : List (List ℕ)
two_zones = (1 ∷ 2 ∷ 3 ∷ []) ∷ both ∷ there ∷ []

abbrev pub start : Terminal
start = bare (plain_steps limits) desk_terminal.config 0

-- the requests that name zone 5 in what it accepted, and the zones that it then has
abbrev pub Delivered : List (List ℕ) → List Request → List Zone → Type 0
Delivered bs qs t =
    (keep (names 5) (taken (plain_steps limits) (apply limits) start bs) ≡ qs)
    × (zones_after (plain_steps limits) (apply limits) start bs ≡ t)

-- a terminal with those zones, and the plan for its base that asks for requests: what it is answered
abbrev pub holds : (m : StepRule) → m.Config → List Zone → Kept m
holds m c t = record { config = c; table = store m.limits t; edition = 1 }

abbrev pub Replies : (m : StepRule) → m.Config → List Zone → List Asked → Outcome → Type 0
Replies m c t q o = (apply_by m (holds m c t) (plan_bytes_by m (holds m c t) q)).outcome ≡ o

-- region B for zone 5's devices; zone 40
abbrev pub wants_b : List Asked
wants_b = record { kind = 5; zone = 5; region = B } ∷ []

abbrev pub wants40 : List Asked
wants40 = record { kind = 1; zone = 40; region = no_region } ∷ []

abbrev pub refused_with : ℕ → Outcome
refused_with n = record { number = 27; place = 0; inner = n }

-- the same pairs of answers, from plans
abbrev pub NeighbourPlansShown : Type 0
NeighbourPlansShown =
    Delivered one_zone (add_zone 5 ∷ []) (empty_zone 5 ∷ [])
    × Delivered two_zones (add_zone 5 ∷ []) desk_zones
    × Replies (plain_steps limits) desk_config quiet_end wants_b (plain 0 1)
    × Replies (plain_steps limits) desk_config crowded_end wants_b (refused_with 14)
    × Replies (plain_steps limits) desk_config quiet_end wants40 (plain 0 1)
    × Replies (plain_steps limits) desk_config (end_of (plain_steps limits) desk_config full) wants40 (refused_with 7)

abbrev pub OwnedNeighbourPlansShown : Type 0
OwnedNeighbourPlansShown =
    Replies (owned_steps limits) bank quiet_end wants40 (plain 0 1)
    × Replies (owned_steps limits) bank (end_of (owned_steps limits) bank full) wants40 (refused_with 7)

-- two terminals that stand alike for zone 5, each with its own plan that asks for region B: what `PlansTell` speaks of
abbrev pub AsksB : (m : StepRule) → Deliveries m → m.Config → Type 0
AsksB m deliver c =
    NextPlan m deliver 5 (holds m c quiet_end) (holds m c crowded_end) (plan_bytes_by m (holds m c quiet_end) wants_b)
    (plan_bytes_by m (holds m c crowded_end) wants_b)

pub record NextPlansShown : Type 0 where
  pub plain : AsksB (plain_steps limits) (apply limits) desk_config
  pub owned : AsksB (owned_steps limits) (apply_by (owned_steps limits)) bank
