-- Upstream's ClosureSpec: its inductive steps; and requests, of which an accepted one is upstream's transition, with
-- the document's corrections, and the other way round.
use Rattle.std.specs.Prelude.{ℕ, ◌≤◌, ◌<◌, true, false, List, [], ◌⊎◌, ◌≡◌, length}
use Rattle.std.proofs.Math.Option.{some}
use Rattle.rules.specs.Changes.{region_set}
use Rattle.rules.specs.Closure.{contains_region, State, all_regions, gic_region, initialize, state_of, Transition}
use Rattle.rules.specs.Closure.{GhostZone, Invariants}
use Rattle.rules.specs.Configuration.{config_of, Configuration, StoredConfig}
use Rattle.rules.specs.Limits.{highest_id, Limits}
use Rattle.rules.specs.Regions.{phys_overlap}
use Rattle.rules.specs.Requests.{find, refusal, next}
use Rattle.rules.specs.Tables.{excessive, Zone}
use Rattle.rules.specs.declared.Kind.{Kind}
use Rattle.rules.specs.declared.Kind.TheVariants.{AddZone, RemoveZone, Insert, Remove, NoRequest}
use Rattle.rules.specs.declared.Region.{Region}
use Rattle.rules.specs.declared.Request.{Request}
use Rattle.rules.specs.declared.Side.TheVariants.{Cpu, Iommu}
use Rattle.promises.specs.Tables.{SoundUnder}

-- ---- upstream's seven inductive steps, which it admits: of any state, under any configuration, and with no correction
-- the first state has the invariants
abbrev pub InitializeInductive : Limits → Type 0
InitializeInductive l = (c : Configuration) → Invariants l c initialize

-- each of the six transitions keeps them
abbrev pub TransitionInductive : Limits → Type 0
TransitionInductive l =
    (c : Configuration) (k : Kind) (zid : ℕ) (pre post : State) → Invariants l c pre → Transition l c k zid pre post
    → Invariants l c post

-- the state of a table that is sound under a configuration that passed its check has them; only here the check is
-- needed, for the form and reach of regions
abbrev pub SoundIsInvariant : Limits → Type 0
SoundIsInvariant l = (s : StoredConfig) (t : List Zone) → SoundUnder l s t → Invariants l (config_of s) (state_of t)

-- ---- requests and transitions
-- what the documents ask beyond upstream's guards: ids that a table can hold, room, rights, and that only an empty zone
-- is removed
abbrev pub Corrections : Limits → Kind → ℕ → List Zone → Type 0
Corrections l AddZone id t = (id ≤ highest_id) × (length t < l.zones)
Corrections l RemoveZone id t = (region_set t (find id t) Cpu ≡ []) × (region_set t (find id t) Iommu ≡ [])
Corrections l (Insert s r) id t = (excessive s r ≡ false) × (length (region_set t (find id t) s) < l.in_set)
Corrections l (Remove s r) id t = Unit {0}
Corrections l NoRequest id t = Unit {0}

-- an accepted request is upstream's transition, from the table's state to that of the next table
abbrev pub AcceptedIsUpstream : Limits → Type 0
AcceptedIsUpstream l =
    (s : StoredConfig) (t : List Zone) (q : Request) → SoundUnder l s t → refusal l (config_of s) t q ≡ 0
    → Transition l (config_of s) q.kind q.zone (state_of t) (state_of (next l (config_of s) t q))
    × Corrections l q.kind q.zone t

-- where upstream has a transition and the corrections hold, the request is accepted and leads to upstream's next state
abbrev pub UpstreamIsAccepted : Limits → Type 0
UpstreamIsAccepted l =
    (s : StoredConfig) (t : List Zone) (q : Request) (u : State) → SoundUnder l s t
    → Transition l (config_of s) q.kind q.zone (state_of t) u → Corrections l q.kind q.zone t
    → (refusal l (config_of s) t q ≡ 0) × (state_of (next l (config_of s) t q) ≡ u)

-- the empty table is upstream's first state
abbrev pub InitializeIsEmpty : Type 0
InitializeIsEmpty = state_of [] ≡ initialize

-- ---- upstream's properties, with their conclusions
abbrev pub ZoneCpuRegionInAllRegions : Limits → Type 0
ZoneCpuRegionInAllRegions l =
    (s : StoredConfig) (t : List Zone) → SoundUnder l s t → (zid : ℕ) (zone : GhostZone) → state_of t zid ≡ some zone
    → (r : Region) → zone.cpu_mem_set r ≡ true → all_regions (config_of s) r ≡ true

abbrev pub ZoneIommuRegionInAllRegions : Limits → Type 0
ZoneIommuRegionInAllRegions l =
    (s : StoredConfig) (t : List Zone) → SoundUnder l s t → (zid : ℕ) (zone : GhostZone) → state_of t zid ≡ some zone
    → (r : Region) → zone.iommu_mem_set r ≡ true → all_regions (config_of s) r ≡ true

abbrev pub CrossZoneDisjointExceptGic : Limits → Type 0
CrossZoneDisjointExceptGic l =
    (s : StoredConfig) (t : List Zone) → SoundUnder l s t
    → (zid1 : ℕ) (zone1 : GhostZone) (zid2 : ℕ) (zone2 : GhostZone) → state_of t zid1 ≡ some zone1
    → state_of t zid2 ≡ some zone2 → (zid1 ≡ zid2 → ⊥)
    → (r1 r2 : Region) → contains_region zone1 r1 ≡ true → contains_region zone2 r2 ≡ true
    → (r1 ≡ gic_region (config_of s)) ⊎ ((r2 ≡ gic_region (config_of s)) ⊎ (phys_overlap r1 r2 ≡ false))

-- ---- and of any state that has upstream's invariants, whatever table it is of
abbrev pub RegionsInAll : Limits → Type 0
RegionsInAll l =
    (c : Configuration) (zones : State) → Invariants l c zones → (zid : ℕ) (zone : GhostZone) → zones zid ≡ some zone
    → (r : Region) → contains_region zone r ≡ true → all_regions c r ≡ true

abbrev pub CrossAnyState : Limits → Type 0
CrossAnyState l =
    (c : Configuration) (zones : State) → Invariants l c zones
    → (zid1 zid2 : ℕ) (zone1 zone2 : GhostZone) → zones zid1 ≡ some zone1 → zones zid2 ≡ some zone2 → (zid1 ≡ zid2 → ⊥)
    → (r1 r2 : Region) → contains_region zone1 r1 ≡ true → contains_region zone2 r2 ≡ true
    → (r1 ≡ gic_region c) ⊎ ((r2 ≡ gic_region c) ⊎ (phys_overlap r1 r2 ≡ false))
