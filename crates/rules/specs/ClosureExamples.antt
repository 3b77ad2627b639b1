-- Upstream's two machines by example: states that must not have the invariants, and transitions that must be there.
-- What is promised of them would hold as well of weaker invariants, and of guards that upstream has not.
use Rattle.std.specs.Prelude.{ℕ, ◌+◌, ◌^◌, true, false, List, [], ◌∷◌, ◌≡◌}
use Rattle.rules.specs.Budget as budget
use Rattle.rules.specs.Closure.{contains_vaddr, map_remove, state_of, Transition, Invariants}
use Rattle.rules.specs.Configuration.{config_of, Configuration}
use Rattle.rules.specs.Desk.{usual, A, C, G, desk_config}
use Rattle.rules.specs.Limits.{limits}
use Rattle.rules.specs.OwnedDesk.{bank}
use Rattle.rules.specs.Owners.{owned_of}
use Rattle.rules.specs.Requests.{held_in}
use Rattle.rules.specs.Tables.{clash, Zone}
use Rattle.rules.specs.WantedExamples.{holder}
use Rattle.rules.specs.declared.Kind.TheVariants.{RemoveZone}
use Rattle.rules.specs.declared.Region.{Region}

abbrev pub desk : Configuration
desk = config_of desk_config

-- a region that ends beyond what a physical address can say, and a configuration that has it
abbrev pub Far : Region
Far = usual 0 (2 ^ 48) 0x1000

abbrev pub far_desk : Configuration
far_desk = record { regions = Far ∷ G ∷ []; gic = 1 }

-- ---- ClosureSpec
pub record ClosureShown : Type 0 where
  -- two regions of one set that overlap in guest addresses; one out of reach; one that is not configured, on the IOMMU
  -- side; a CPU region on the GIC; and a region of two zones, on either two sides
  pub overlap : Invariants limits desk (state_of (holder 5 (A ∷ C ∷ []) [] ∷ [])) → ⊥
  pub devices_overlap : Invariants limits desk (state_of (holder 5 [] (A ∷ C ∷ []) ∷ [])) → ⊥
  pub far : Invariants limits far_desk (state_of (holder 5 (Far ∷ []) [] ∷ [])) → ⊥
  pub strange : Invariants limits desk (state_of (holder 5 [] (Far ∷ []) ∷ [])) → ⊥
  pub on_gic_law : Invariants limits desk (state_of (holder 5 (G ∷ []) [] ∷ [])) → ⊥
  pub shared : Invariants limits desk (state_of (holder 5 (A ∷ []) [] ∷ holder 6 [] (A ∷ []) ∷ [])) → ⊥
  pub devices_share : Invariants limits desk (state_of (holder 5 [] (A ∷ []) ∷ holder 6 [] (A ∷ []) ∷ [])) → ⊥
  -- upstream removes a zone with what it holds
  pub removes : Transition limits desk RemoveZone 5 (state_of (holder 5 (A ∷ []) [] ∷ []))
      (map_remove (state_of (holder 5 (A ∷ []) [] ∷ [])) 5)
  -- a set contains every address of its regions
  pub inside : contains_vaddr (λ r. held_in r (A ∷ [])) (0x40000000 + 1)

-- ---- BudgetSpec: the same sets, and no CPU region may be the GIC
pub record BudgetShown : Type 0 where
  pub overlap : budget.Invariants limits (owned_of bank) (state_of (holder 5 (A ∷ C ∷ []) [] ∷ [])) → ⊥
  pub on_gic_law : budget.Invariants limits (owned_of bank) (state_of (holder 5 (G ∷ []) [] ∷ [])) → ⊥
  pub strange : budget.Invariants limits (owned_of bank) (state_of (holder 6 [] (A ∷ []) ∷ [])) → ⊥

-- ---- 14's exemption is for the GIC alone: not for a region of its size, nor for one that begins where it does, for the
-- guest or in memory
abbrev pub Beside : Region
Beside = usual 0x08010000 0x08010000 0x10000

abbrev pub SameGuest : Region
SameGuest = usual 0x08000000 0x09000000 0x20000

abbrev pub SamePhys : Region
SamePhys = usual 0x0A000000 0x08000000 0x1000

pub record ClashShown : Type 0 where
  pub size : clash desk Beside Beside ≡ true
  pub guest : clash desk SameGuest SameGuest ≡ true
  pub phys : clash desk SamePhys SamePhys ≡ true
  pub first : clash desk G SamePhys ≡ false
  pub second : clash desk SamePhys G ≡ false
  pub apart : clash desk A Beside ≡ false
