-- What the owners add to the first machine's check, asked of any words: whether each owner is one that its position can
-- have, and whether each zone holds what it may hold.
use Rattle.std.specs.Prelude.{ℕ, ◌≤◌, ◌<◌, Bool, cond, not, List, [], ◌∷◌, ◌≡◌, ltb, leb, eqb, length, get_or, Option, Some, None}
use Rattle.lists.specs.First.{first_from, all}
use Rattle.lists.specs.Places.{places}
use Rattle.lists.specs.Tests.{all_of}
use Rattle.rules.specs.Configuration.{check_number, check_place}
use Rattle.rules.specs.Limits.{most_regions, most_zones, most_in_set, limits}
use Rattle.rules.specs.Owners.{right_owner, may_hold, owned_standing_rules, owned_standing, Owned, StoredOwned}
use Rattle.rules.specs.Requests.{standing_rules}
use Rattle.rules.specs.Tables.{Zone}
use Rattle.rules.specs.declared.Checked.{Checked}
use Rattle.rules.specs.declared.Region.{Region}
use Rattle.rules.specs.declared.Side.{Side}
use Rattle.rules.specs.declared.Side.TheVariants.{Cpu, Iommu}
use Rattle.zones.specs.Layout.{config_count, config_gic}
use Rattle.zones.specs.View.{stored_config, stored_table}
use Rattle.owners.specs.View.{stored_owned}

-- ---- the owners
-- neither C1 nor C2 applies
unfoldable pub in_range : List ℕ → Bool
in_range c = all_of (leb (get_or c config_count 0) most_regions ∷ ltb (get_or c config_gic 0) (get_or c config_count 0) ∷ [])

pub record Ranged (c : List ℕ) : Type 0 where
  pub count : get_or c config_count 0 ≤ most_regions
  pub gic : get_or c config_gic 0 < get_or c config_count 0

-- the owner at the position is right, or 0 past the count
unfoldable pub fits_at : StoredOwned → ℕ → Bool
fits_at s i = cond (ltb i s.config.count) (right_owner s i) (eqb (get_or s.owners i 0) 0)

abbrev pub unfit_at : StoredOwned → ℕ → Bool
unfit_at s i = not (fits_at s i)

-- neither C1 nor C2 applies, and no owner is a reason for C3 or C7
unfoldable pub owners_fit : List ℕ → List ℕ → Bool
owners_fit c o = all_of (in_range c ∷ all (fits_at (stored_owned c o)) (places 0 most_regions) ∷ [])

-- i, where it is below n
abbrev pub below : ℕ → ℕ → Option ℕ
below n i = cond (ltb i n) (Some i) None

-- the first position from k on whose owner does not fit
unfoldable pub first_unfit : List ℕ → List ℕ → ℕ → Option ℕ
first_unfit c o k = below most_regions (first_from (unfit_at (stored_owned c o)) (places 0 most_regions) k)

-- the first configured position whose owner does not fit
unfoldable pub first_wrong : List ℕ → List ℕ → Option ℕ
first_wrong c o =
    below (get_or c config_count 0) (first_from (unfit_at (stored_owned c o)) (places 0 most_regions) 0)

-- the place of C3, where that is found
unfoldable pub used_record : Checked → Option ℕ
used_record f = cond (eqb (check_number f) 3) (Some (check_place f)) None

-- ---- what zones hold
-- the set is within limits, and the zone may hold each of its regions; both sets of a zone; every zone of a table
unfoldable pub own_set : Owned → ℕ → Side → List Region → Bool
own_set o id s xs = all_of (leb (length xs) most_in_set ∷ all (may_hold o id s) xs ∷ [])

unfoldable pub own_zone : Owned → Zone → Bool
own_zone o z = all_of (own_set o z.id Cpu z.cpu ∷ own_set o z.id Iommu z.iommu ∷ [])

unfoldable pub own_table : Owned → List Zone → Bool
own_table o t = all_of (leb (length t) most_zones ∷ all (own_zone o) t ∷ [])

-- ---- both
-- n is 1 or 2 where that is for the owners, and else 0, with which it is for the first machine's check
pub record Told (c o t : List ℕ) (n : ℕ) : Type 0 where
  pub number : (n ≡ 0 → ⊥) → n ≡ owned_standing limits (stored_owned c o) (stored_table t)
  pub range : n ≡ 0 → Ranged c
  pub rules : n ≡ 0
      → owned_standing_rules limits (stored_owned c o) (stored_table t)
      ≡ standing_rules limits (stored_config c) (stored_table t)
