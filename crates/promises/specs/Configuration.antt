-- The configuration's check: what each answer means.
use Rattle.std.specs.Prelude.{ℕ, ◌≤◌, ◌<◌, true, false, ◌⊎◌, ◌↔◌, ◌≡◌, length, get_or}
use Rattle.rules.specs.declared.Region.{Region}
use Rattle.rules.specs.declared.Checked.{Checked}
use Rattle.rules.specs.declared.Checked.TheVariants.{Sound, BadCount, BadGic, NotZero, Malformed, OutOfReach, Overlap}
use Rattle.rules.specs.Limits.{Limits}
use Rattle.rules.specs.Regions.{well_formed, in_reach, phys_overlap, no_region}
use Rattle.rules.specs.Configuration.{StoredConfig, config_of, check}

-- the region at a position
abbrev pub at : StoredConfig → ℕ → Region
at s i = get_or s.records i no_region

-- at least one region, and no more than the limit
abbrev pub RightCount : Limits → StoredConfig → Type 0
RightCount l s = (1 ≤ s.count) × (s.count ≤ l.regions)

-- every record from the count up to k is zero
abbrev pub ZeroUpTo : StoredConfig → ℕ → Type 0
ZeroUpTo s k = (j : ℕ) → s.count ≤ j → j < k → at s j ≡ no_region

-- neither C1 nor C2 nor C3 applies
pub record Opening (l : Limits) (s : StoredConfig) : Type 0 where
  pub count : RightCount l s
  pub gic : s.gic < s.count
  pub rest : ZeroUpTo s l.regions

-- position i is without fault: well formed, in reach, and clear of every earlier position
pub record Fit (l : Limits) (s : StoredConfig) (i : ℕ) : Type 0 where
  pub formed : well_formed l.page (at s i) ≡ true
  pub near : in_reach l (at s i) ≡ true
  pub clear : (j : ℕ) → j < i → phys_overlap (at s i) (at s j) ≡ false

-- the positions are reached, and i is the first of them that can have a fault
pub record Reached (l : Limits) (s : StoredConfig) (i : ℕ) : Type 0 where
  pub opening : Opening l s
  pub there : i < s.count
  pub earlier : (j : ℕ) → j < i → Fit l s j

-- what each answer says
abbrev pub Means : Limits → StoredConfig → Checked → Type 0
Means l s Sound = Opening l s × ((i : ℕ) → i < s.count → Fit l s i)
Means l s BadCount = (s.count ≡ 0) ⊎ (l.regions < s.count)
Means l s BadGic = RightCount l s × (s.count ≤ s.gic)
Means l s (NotZero k) =
    RightCount l s × (s.gic < s.count) × (s.count ≤ k) × (k < l.regions) × (at s k ≡ no_region → ⊥) × ZeroUpTo s k
Means l s (Malformed i) = Reached l s i × (well_formed l.page (at s i) ≡ false)
Means l s (OutOfReach i) = Reached l s i × (well_formed l.page (at s i) ≡ true) × (in_reach l (at s i) ≡ false)
Means l s (Overlap i k) =
    Reached l s i × (well_formed l.page (at s i) ≡ true) × (in_reach l (at s i) ≡ true) × (k < i)
    × (phys_overlap (at s i) (at s k) ≡ true) × ((j : ℕ) → j < k → phys_overlap (at s i) (at s j) ≡ false)

-- the check gives an answer exactly when it is so; a stored
-- configuration has a record for each region that there is room for
abbrev pub CheckIsExact : Limits → Type 0
CheckIsExact l = (s : StoredConfig) → length s.records ≡ l.regions → (f : Checked) → (check l s ≡ f) ↔ Means l s f

-- ---- upstream's three axioms, of every configuration that the check finds sound
abbrev pub Passed : Limits → StoredConfig → Type 0
Passed l s = (length s.records ≡ l.regions) × (check l s ≡ Sound)

-- all its regions are valid
abbrev pub AllRegionsValid : Limits → Type 0
AllRegionsValid l =
    (s : StoredConfig) → Passed l s → (i : ℕ) → i < length (config_of s).regions
    → (well_formed l.page (get_or (config_of s).regions i no_region) ≡ true)
    × (in_reach l (get_or (config_of s).regions i no_region) ≡ true)

-- no two of its positions overlap physically
abbrev pub AllRegionsDisjoint : Limits → Type 0
AllRegionsDisjoint l =
    (s : StoredConfig) → Passed l s → (i j : ℕ) → i < length (config_of s).regions → j < length (config_of s).regions
    → (i ≡ j → ⊥) → phys_overlap (get_or (config_of s).regions i no_region) (get_or (config_of s).regions j no_region) ≡ false

-- the GIC is one of them
abbrev pub GicRegionInAllRegions : Limits → Type 0
GicRegionInAllRegions l = (s : StoredConfig) → Passed l s → (config_of s).gic < length (config_of s).regions
