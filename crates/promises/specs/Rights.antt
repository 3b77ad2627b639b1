-- Rights: what a processor and a device may do with what a zone holds. In a sound table no region of a processor is
-- both writable and executable, and no device can execute; every request keeps it so, and every plan.
use Rattle.std.specs.Prelude.{ℕ, ◌<◌, true, List, ◌≡◌, length, get_or}
use Rattle.rules.specs.Applying.{apply, Terminal}
use Rattle.rules.specs.Configuration.{Configuration}
use Rattle.rules.specs.Limits.{Limits}
use Rattle.rules.specs.Requests.{next, standing}
use Rattle.rules.specs.Tables.{no_zone, table_of, sound, Zone}
use Rattle.rules.specs.declared.Region.{Region}
use Rattle.rules.specs.declared.Request.{Request}
use Rattle.promises.specs.Tables.{In, MayWrite, MayExecute}

abbrev pub RightsHold : List Zone → Type 0
RightsHold t =
    (z : ℕ) (r : Region) → z < length t
    → (In r (get_or t z no_zone).cpu → MayWrite r → MayExecute r → ⊥) × (In r (get_or t z no_zone).iommu → MayExecute r → ⊥)

pub record RightsAreKept (l : Limits) : Type 0 where
  -- in every sound table
  pub tables : (c : Configuration) (t : List Zone) → sound l c t ≡ true → RightsHold t
  -- after every request from one, whatever it asks and whether it is accepted or not
  pub requests : (c : Configuration) (t : List Zone) (q : Request) → sound l c t ≡ true → RightsHold (next l c t q)
  -- and after every plan, whatever its bytes are
  pub plans : (s : Terminal) (b : List ℕ) → standing l s.config s.table ≡ 0
      → RightsHold (table_of (apply l s b).state.table)
