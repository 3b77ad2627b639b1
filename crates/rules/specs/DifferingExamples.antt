-- Zones sections by computation: a plan's own, which bytes that are no plan have not; and where the sections of two
-- tables part.
use Rattle.std.specs.Prelude.{ℕ, ◌-◌, List, [], ◌∷◌, ◌++◌, ◌≡◌, length, take}
use Rattle.rules.specs.Applying.{store}
use Rattle.rules.specs.Desk.{whole_plan}
use Rattle.rules.specs.Differing.{zones_bytes, zones_of, lacking_part}
use Rattle.rules.specs.Limits.{limits}
use Rattle.rules.specs.Tables.{empty_zone}

-- the sections of two tables, which part at the id of their second zone: 6 in one, 7 in the other
abbrev pub five : ℕ → List ℕ
five id = zones_bytes limits (store limits (empty_zone 5 ∷ empty_zone id ∷ []))

pub record DifferingShown : Type 0 where
  -- the whole plan has no zones: a count of 0; cut, or with a byte behind it, it is no plan
  pub own : zones_of limits whole_plan ≡ 0 ∷ 0 ∷ 0 ∷ 0 ∷ []
  pub cut : zones_of limits (take (length whole_plan - 1) whole_plan) ≡ []
  pub more : zones_of limits (whole_plan ++ 0 ∷ []) ≡ []
  -- from the first place where the other lacks the same byte
  pub part : lacking_part (five 6) (five 7) ≡ 6 ∷ 0 ∷ 0 ∷ 0 ∷ 0 ∷ 0 ∷ 0 ∷ 0 ∷ 0 ∷ 0 ∷ 0 ∷ 0 ∷ []
  pub other : lacking_part (five 7) (five 6) ≡ 7 ∷ 0 ∷ 0 ∷ 0 ∷ 0 ∷ 0 ∷ 0 ∷ 0 ∷ 0 ∷ 0 ∷ 0 ∷ 0 ∷ []
