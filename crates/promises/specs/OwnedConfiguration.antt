-- The check of a configuration with owners: what each answer means.
use Rattle.std.specs.Prelude.{ℕ, ◌≤◌, ◌<◌, ◌↔◌, ◌≡◌, length, get_or}
use Rattle.lists.specs.Lines.{Exactly}
use Rattle.rules.specs.Limits.{highest_id, Limits}
use Rattle.rules.specs.Owners.{gic_owner, owned_of, owned_check, owned_check_number, owned_check_place, owned_check_earlier}
use Rattle.rules.specs.Owners.{owner_of, StoredOwned}
use Rattle.rules.specs.Regions.{no_region}
use Rattle.rules.specs.declared.Checked.TheVariants.{Sound, BadCount, BadGic, NotZero, Malformed, OutOfReach, Overlap}
use Rattle.rules.specs.declared.OwnedChecked.{OwnedChecked}
use Rattle.rules.specs.declared.OwnedChecked.TheVariants.{Plain, WrongOwner}
use Rattle.promises.specs.Configuration.{at, RightCount, Means, Passed}

-- the owner at a position
abbrev pub owner : StoredOwned → ℕ → ℕ
owner s i = get_or s.owners i 0

-- nothing stands there: neither a record nor an owner; and so from the count up to k
abbrev pub Free : StoredOwned → ℕ → Type 0
Free s j = (at s.config j ≡ no_region) × (owner s j ≡ 0)

abbrev pub FreeUpTo : StoredOwned → ℕ → Type 0
FreeUpTo s k = (j : ℕ) → s.config.count ≤ j → j < k → Free s j

-- the GIC's owner is 2^32 - 1, and every other's is an id
pub record Right (s : StoredOwned) (i : ℕ) : Type 0 where
  pub gic : i ≡ s.config.gic → owner s i ≡ gic_owner
  pub id : (i ≡ s.config.gic → ⊥) → owner s i ≤ highest_id

-- neither C1 nor C2 nor C3 applies
pub record OwnedOpening (l : Limits) (s : StoredOwned) : Type 0 where
  pub count : RightCount l s.config
  pub gic : s.config.gic < s.config.count
  pub rest : FreeUpTo s l.regions

-- nor C7
pub record AllRight (l : Limits) (s : StoredOwned) : Type 0 where
  pub opening : OwnedOpening l s
  pub owners : (i : ℕ) → i < s.config.count → Right s i

-- what each answer says: C3 speaks of owners too, C7 comes next, and the rest is the plain check's where all owners are
-- right
abbrev pub OwnedMeans : Limits → StoredOwned → OwnedChecked → Type 0
OwnedMeans l s (Plain Sound) = AllRight l s × Means l s.config Sound
OwnedMeans l s (Plain BadCount) = Means l s.config BadCount
OwnedMeans l s (Plain BadGic) = Means l s.config BadGic
OwnedMeans l s (Plain (NotZero k)) =
    RightCount l s.config × (s.config.gic < s.config.count) × (s.config.count ≤ k) × (k < l.regions)
    × (Free s k → ⊥) × FreeUpTo s k
OwnedMeans l s (Plain (Malformed i)) = AllRight l s × Means l s.config (Malformed i)
OwnedMeans l s (Plain (OutOfReach i)) = AllRight l s × Means l s.config (OutOfReach i)
OwnedMeans l s (Plain (Overlap i k)) = AllRight l s × Means l s.config (Overlap i k)
OwnedMeans l s (WrongOwner i) =
    OwnedOpening l s × (i < s.config.count) × (Right s i → ⊥) × ((j : ℕ) → j < i → Right s j)

-- the check gives an answer exactly when it is so; a stored
-- configuration has a record for each region that there is room for
abbrev pub OwnedCheckIsExact : Limits → Type 0
OwnedCheckIsExact l =
    (s : StoredOwned) → length s.config.records ≡ l.regions → Exactly (owned_check l s) (OwnedMeans l s)

-- the same in numbers: 0 or C1 to C7, its place, and for C6 the lowest earlier position
pub data OwnedFinds (l : Limits) (s : StoredOwned) : ℕ → ℕ → ℕ → Type 0 where
  nothing : OwnedMeans l s (Plain Sound) → OwnedFinds l s 0 0 0
  c1 : OwnedMeans l s (Plain BadCount) → OwnedFinds l s 1 0 0
  c2 : OwnedMeans l s (Plain BadGic) → OwnedFinds l s 2 0 0
  c3 : (k : ℕ) → OwnedMeans l s (Plain (NotZero k)) → OwnedFinds l s 3 k 0
  c4 : (i : ℕ) → OwnedMeans l s (Plain (Malformed i)) → OwnedFinds l s 4 i 0
  c5 : (i : ℕ) → OwnedMeans l s (Plain (OutOfReach i)) → OwnedFinds l s 5 i 0
  c6 : (i k : ℕ) → OwnedMeans l s (Plain (Overlap i k)) → OwnedFinds l s 6 i k
  c7 : (i : ℕ) → OwnedMeans l s (WrongOwner i) → OwnedFinds l s 7 i 0

-- number, place and earlier place are told exactly when that is found
abbrev pub OwnedCheckNumbersAreExact : Limits → Type 0
OwnedCheckNumbersAreExact l =
    (s : StoredOwned) → length s.config.records ≡ l.regions → (n i k : ℕ)
    → ((owned_check_number (owned_check l s) ≡ n) × (owned_check_place (owned_check l s) ≡ i)
    × (owned_check_earlier (owned_check l s) ≡ k))
    ↔ OwnedFinds l s n i k

-- a configuration with owners that passed its check passes the plain one
abbrev pub OwnedPassed : Limits → StoredOwned → Type 0
OwnedPassed l s =
    (length s.config.records ≡ l.regions) × (length s.owners ≡ l.regions) × (owned_check l s ≡ Plain Sound)

abbrev pub PassesThere : Limits → Type 0
PassesThere l = (s : StoredOwned) → OwnedPassed l s → Passed l s.config

-- and the owner of a region is the one at its position
abbrev pub OwnerIsAtPosition : Limits → Type 0
OwnerIsAtPosition l =
    (s : StoredOwned) → OwnedPassed l s → (i : ℕ) → i < s.config.count
    → owner_of (owned_of s) (at s.config i) ≡ owner s i
