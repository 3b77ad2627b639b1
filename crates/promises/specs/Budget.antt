-- Upstream's BudgetSpec and terminals with owners: its four axioms hold of every configuration that passed, its
-- inductive steps are proved, and an accepted request is its transition, with the documents' corrections, and the other
-- way round.
use Rattle.std.specs.Prelude.{ℕ, true, false, List, ◌⊎◌, ◌≡◌}
use Rattle.std.proofs.Math.Option.{some}
use Rattle.rules.specs.Budget.{zone_regions, Transition, Invariants}
use Rattle.rules.specs.Closure.{contains_region, gic_region, initialize, state_of, State, GhostZone}
use Rattle.rules.specs.Limits.{Limits}
use Rattle.rules.specs.Owners.{owned_of, owned_sound, owned_refusal, owned_next, Owned, StoredOwned}
use Rattle.rules.specs.Regions.{well_formed, in_reach, phys_overlap}
use Rattle.rules.specs.Tables.{Zone}
use Rattle.rules.specs.declared.Kind.{Kind}
use Rattle.rules.specs.declared.Kind.TheVariants.{AddZone, RemoveZone, Insert, Remove, NoRequest}
use Rattle.rules.specs.declared.Region.{Region}
use Rattle.rules.specs.declared.Request.{Request}
use Rattle.rules.specs.declared.Side.TheVariants.{Cpu, Iommu}
use Rattle.promises.specs.Closure.{Corrections}
use Rattle.promises.specs.OwnedConfiguration.{OwnedPassed}

-- ---- upstream's four axioms, of every configuration that the check finds sound
-- all configured regions of zones, and the GIC, are valid
abbrev pub ConfiguredRegionsValid : Limits → Type 0
ConfiguredRegionsValid l =
    (s : StoredOwned) → OwnedPassed l s → (zid : ℕ) (r : Region)
    → (zone_regions (owned_of s) zid r ≡ true) ⊎ (r ≡ gic_region (owned_of s).config)
    → (well_formed l.page r ≡ true) × (in_reach l r ≡ true)

-- those of one zone are physically disjoint, and those of two zones; and the GIC is disjoint from them
abbrev pub ZoneRegionsInternalDisjoint : Limits → Type 0
ZoneRegionsInternalDisjoint l =
    (s : StoredOwned) → OwnedPassed l s → (zid : ℕ) (r1 r2 : Region) → zone_regions (owned_of s) zid r1 ≡ true
    → zone_regions (owned_of s) zid r2 ≡ true → (r1 ≡ r2 → ⊥) → phys_overlap r1 r2 ≡ false

abbrev pub ZoneRegionsPairwiseDisjoint : Limits → Type 0
ZoneRegionsPairwiseDisjoint l =
    (s : StoredOwned) → OwnedPassed l s → (zid1 zid2 : ℕ) (r1 r2 : Region) → (zid1 ≡ zid2 → ⊥)
    → zone_regions (owned_of s) zid1 r1 ≡ true → zone_regions (owned_of s) zid2 r2 ≡ true → phys_overlap r1 r2 ≡ false

abbrev pub GicRegionDisjointFromZones : Limits → Type 0
GicRegionDisjointFromZones l =
    (s : StoredOwned) → OwnedPassed l s → (zid : ℕ) (r : Region) → zone_regions (owned_of s) zid r ≡ true
    → phys_overlap (gic_region (owned_of s).config) r ≡ false

-- ---- its inductive steps
abbrev pub BudgetInitializeInductive : Limits → Type 0
BudgetInitializeInductive l = (o : Owned) → Invariants l o initialize

-- what is asked of an insert beside its guard: a region for devices is well formed by their page. Upstream has one page,
-- and where both pages are one this follows from the check
abbrev pub FormedFor : Limits → Kind → Type 0
FormedFor l AddZone = Unit {0}
FormedFor l RemoveZone = Unit {0}
FormedFor l (Insert Cpu r) = Unit {0}
FormedFor l (Insert Iommu r) = well_formed l.iommu_page r ≡ true
FormedFor l (Remove s r) = Unit {0}
FormedFor l NoRequest = Unit {0}

-- so there nothing is asked beside the guard
abbrev pub FormedByGuard : Limits → Type 0
FormedByGuard l =
    l.page ≡ l.iommu_page → (s : StoredOwned) → OwnedPassed l s → (k : Kind) (zid : ℕ) (pre post : State)
    → Transition (owned_of s) k zid pre post → FormedFor l k

-- each of the six transitions keeps the invariants
abbrev pub BudgetTransitionInductive : Limits → Type 0
BudgetTransitionInductive l =
    (s : StoredOwned) → OwnedPassed l s → (k : Kind) (zid : ℕ) (pre post : State) → Invariants l (owned_of s) pre
    → FormedFor l k → Transition (owned_of s) k zid pre post → Invariants l (owned_of s) post

-- the state of a sound table has them
abbrev pub OwnedSoundIsInvariant : Limits → Type 0
OwnedSoundIsInvariant l =
    (s : StoredOwned) (t : List Zone) → OwnedPassed l s → owned_sound l (owned_of s) t ≡ true
    → Invariants l (owned_of s) (state_of t)

-- its property: regions of two zones do not overlap physically, unless either is the GIC
abbrev pub CrossZoneDisjoint : Limits → Type 0
CrossZoneDisjoint l =
    (s : StoredOwned) → OwnedPassed l s → (zones : State) → Invariants l (owned_of s) zones
    → (zid1 zid2 : ℕ) (zone1 zone2 : GhostZone) → zones zid1 ≡ some zone1 → zones zid2 ≡ some zone2 → (zid1 ≡ zid2 → ⊥)
    → (r1 r2 : Region) → contains_region zone1 r1 ≡ true → contains_region zone2 r2 ≡ true
    → (r1 ≡ gic_region (owned_of s).config) ⊎ ((r2 ≡ gic_region (owned_of s).config) ⊎ (phys_overlap r1 r2 ≡ false))

-- ---- requests and transitions
-- an accepted request is upstream's transition, from the table's state to that of the next table
abbrev pub AcceptedIsBudget : Limits → Type 0
AcceptedIsBudget l =
    (s : StoredOwned) (t : List Zone) (q : Request) → OwnedPassed l s → owned_sound l (owned_of s) t ≡ true
    → owned_refusal l (owned_of s) t q ≡ 0
    → Transition (owned_of s) q.kind q.zone (state_of t) (state_of (owned_next l (owned_of s) t q))
    × Corrections l q.kind q.zone t × FormedFor l q.kind

-- where upstream has a transition and the corrections hold, the request is accepted and leads to upstream's next state
abbrev pub BudgetIsAccepted : Limits → Type 0
BudgetIsAccepted l =
    (s : StoredOwned) (t : List Zone) (q : Request) (u : State) → OwnedPassed l s
    → owned_sound l (owned_of s) t ≡ true → Transition (owned_of s) q.kind q.zone (state_of t) u
    → Corrections l q.kind q.zone t → FormedFor l q.kind
    → (owned_refusal l (owned_of s) t q ≡ 0) × (state_of (owned_next l (owned_of s) t q) ≡ u)

-- where both pages are one, both hold of upstream's transitions as they are
pub record BudgetOnePage (l : Limits) : Type 0 where
  pub inductive : l.page ≡ l.iommu_page → (s : StoredOwned) → OwnedPassed l s → (k : Kind) (zid : ℕ) (pre post : State)
      → Invariants l (owned_of s) pre → Transition (owned_of s) k zid pre post → Invariants l (owned_of s) post
  pub accepted : l.page ≡ l.iommu_page → (s : StoredOwned) (t : List Zone) (q : Request) (u : State) → OwnedPassed l s
      → owned_sound l (owned_of s) t ≡ true → Transition (owned_of s) q.kind q.zone (state_of t) u
      → Corrections l q.kind q.zone t
      → (owned_refusal l (owned_of s) t q ≡ 0) × (state_of (owned_next l (owned_of s) t q) ≡ u)
