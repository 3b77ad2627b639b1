-- Regions: when one is well formed and in reach, when two are equal, and when two overlap.
use Rattle.std.specs.Prelude.{ℕ, ◌+◌, ◌/◌, ◌%◌, Bool, not, [], ◌∷◌, ltb, leb, eqb}
use Rattle.lists.specs.Tests.{all_of, each_two}
use Rattle.rules.specs.declared.Region.{Region}
use Rattle.rules.specs.Limits.{Limits}
use Rattle.rules.specs.Addresses.{overlaps}
use Rattle.rules.specs.Fields.{numbers_of, region_by}

-- read, write and execute together: no other bit is a right
abbrev pub all_rights : ℕ
all_rights = 1 + 2 + 4

-- size above 0; v, p and size multiples of a page; rights not 0, and no other bit
unfoldable pub well_formed : ℕ → Region → Bool
well_formed page r =
    all_of (ltb 0 r.size ∷ eqb (r.v.0 % page) 0 ∷ eqb (r.p.0 % page) 0 ∷ eqb (r.size % page) 0
    ∷ ltb 0 r.rights.0 ∷ leb r.rights.0 all_rights ∷ [])

-- it may be written; it may be executed
abbrev pub may_write : Region → Bool
may_write r = eqb (r.rights.0 / 2 % 2) 1

abbrev pub may_execute : Region → Bool
may_execute r = eqb (r.rights.0 / 4 % 2) 1

-- v + size and p + size, as whole numbers, are at most their reach
unfoldable pub in_reach : Limits → Region → Bool
in_reach l r = all_of (leb (r.v.0 + r.size) l.guest_reach ∷ leb (r.p.0 + r.size) l.phys_reach ∷ [])

-- all their numbers are equal
unfoldable pub region_eq : Region → Region → Bool
region_eq a b = all_of (each_two eqb (numbers_of a) (numbers_of b))

-- some one physical address is covered by both; some one guest address
abbrev pub phys_overlap : Region → Region → Bool
phys_overlap a b = overlaps a.p.0 a.size b.p.0 b.size

abbrev pub guest_overlap : Region → Region → Bool
guest_overlap a b = overlaps a.v.0 a.size b.v.0 b.size

-- the region whose numbers are all zero, which stands in every unused record
abbrev pub no_region : Region
no_region = region_by (λ i. 0)

-- not all zero
abbrev pub used : Region → Bool
used r = not (region_eq r no_region)
