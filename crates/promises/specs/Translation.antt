-- Translation: one region covers an address, what comes out lies in its
-- physical range, and two zones meet only in the GIC region.
use Rattle.std.specs.Prelude.{ℕ, ◌+◌, ◌-◌, ◌<◌, true, List, ◌↔◌, ◌≡◌, length, get_or}
use Rattle.std.proofs.Math.Option.{some}
use Rattle.rules.specs.Limits.{Limits}
use Rattle.rules.specs.Addresses.{Covers}
use Rattle.rules.specs.Changes.{region_set}
use Rattle.rules.specs.Closure.{contains_vaddr, state_of, RegionSet, GhostZone}
use Rattle.rules.specs.Configuration.{gic_of, config_of, StoredConfig}
use Rattle.rules.specs.Regions.{no_region}
use Rattle.rules.specs.Requests.{find}
use Rattle.rules.specs.Tables.{Zone}
use Rattle.rules.specs.Translation.{covers_guest, translation}
use Rattle.rules.specs.declared.Region.{Region}
use Rattle.rules.specs.declared.Side.{Side}
use Rattle.rules.specs.declared.Side.TheVariants.{Cpu, Iommu}
use Rattle.promises.specs.Tables.{In, CoversPhys, SoundUnder}

-- the guest address of that zone and side translates to the physical one
abbrev pub TranslatesTo : List Zone → ℕ → Side → ℕ → ℕ → Type 0
TranslatesTo t id side a x = ((translation t id side a).number ≡ 0) × ((translation t id side a).phys.0 ≡ x)

-- the covering region is the only one
abbrev pub OnlyOneCovers : Limits → Type 0
OnlyOneCovers l =
    (s : StoredConfig) (t : List Zone) → SoundUnder l s t → (z : ℕ) (side : Side) (a i j : ℕ) → z < length t
    → i < length (region_set t z side) → j < length (region_set t z side)
    → covers_guest a (get_or (region_set t z side) i no_region) ≡ true → covers_guest a (get_or (region_set t z side) j no_region) ≡ true
    → i ≡ j

-- what comes out lies in the physical range of a region of that set that covers the address
abbrev pub StaysInside : Type 0
StaysInside =
    (t : List Zone) (id : ℕ) (side : Side) (a x : ℕ) → TranslatesTo t id side a x
    → (r : Region) × In r (region_set t (find id t) side) × (covers_guest a r ≡ true) × CoversPhys r x

-- the region covers a guest address
abbrev pub CoversGuest : Region → ℕ → Type 0
CoversGuest r a = Covers r.v.0 r.size a

-- x is p + (address - v) of a region of that zone and side that covers the address
abbrev pub PutBy : List Zone → ℕ → Side → ℕ → ℕ → Type 0
PutBy t id side a x = (r : Region) × In r (region_set t (find id t) side) × CoversGuest r a × (r.p.0 + (a - r.v.0) ≡ x)

-- in any table, what comes out is where a region of that set that covers the address puts it
abbrev pub TranslationIs : Type 0
TranslationIs = (t : List Zone) (id : ℕ) (side : Side) (a x : ℕ) → TranslatesTo t id side a x → PutBy t id side a x

-- in a sound table the other way round too: whichever region of that set
-- covers the address, that is where the address comes out
abbrev pub TranslationIsExact : Limits → Type 0
TranslationIsExact l =
    (s : StoredConfig) (t : List Zone) → SoundUnder l s t → (id : ℕ) (side : Side) (a x : ℕ)
    → TranslatesTo t id side a x ↔ PutBy t id side a x

-- no two addresses of one set come out at one place
abbrev pub OneToOne : Limits → Type 0
OneToOne l =
    (s : StoredConfig) (t : List Zone) → SoundUnder l s t → (id : ℕ) (side : Side) (a b x : ℕ)
    → TranslatesTo t id side a x → TranslatesTo t id side b x → a ≡ b

-- two different zones, on whichever sides, come out at one byte only inside the GIC region
abbrev pub ZonesMeetOnGic : Limits → Type 0
ZonesMeetOnGic l =
    (s : StoredConfig) (t : List Zone) → SoundUnder l s t → (y z : ℕ) (one other : Side) (a b x : ℕ) → (y ≡ z → ⊥)
    → TranslatesTo t y one a x → TranslatesTo t z other b x → CoversPhys (gic_of (config_of s)) x

-- ---- upstream's two properties, with their conclusions
-- an address that the set contains translates, into the physical range of a region of the set that covers it
abbrev pub Isolated : List Zone → ℕ → Side → RegionSet → ℕ → Type 0
Isolated t zid side set v =
    (x : ℕ) × TranslatesTo t zid side v x × ((r : Region) × (set r ≡ true) × (covers_guest v r ≡ true) × CoversPhys r x)

abbrev pub ZoneIsolated : Limits → Type 0
ZoneIsolated l =
    (s : StoredConfig) (t : List Zone) → SoundUnder l s t → (zid : ℕ) (zone : GhostZone) (v : ℕ)
    → state_of t zid ≡ some zone → contains_vaddr zone.cpu_mem_set v → Isolated t zid Cpu zone.cpu_mem_set v

abbrev pub IommuZoneIsolated : Limits → Type 0
IommuZoneIsolated l =
    (s : StoredConfig) (t : List Zone) → SoundUnder l s t → (zid : ℕ) (zone : GhostZone) (v : ℕ)
    → state_of t zid ≡ some zone → contains_vaddr zone.iommu_mem_set v → Isolated t zid Iommu zone.iommu_mem_set v
