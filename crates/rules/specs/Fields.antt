-- A region's numbers, and nothing of what they mean: how many there are, in which order they stand among words and bytes,
-- and how a region is made of them. Whatever reads, writes or compares whole regions goes by these.
use Rattle.std.specs.Prelude.{ℕ, ◌*◌, List, [], ◌∷◌, get_or}
use Rattle.rules.specs.declared.Region.{Region}

-- v, p, size, rights
abbrev pub region_numbers : ℕ
region_numbers = 4

unfoldable pub numbers_of : Region → List ℕ
numbers_of r = r.v.0 ∷ r.p.0 ∷ r.size ∷ r.rights.0 ∷ []

abbrev pub region_of : ℕ → ℕ → ℕ → ℕ → Region
region_of v p size rights = record { v = record { 0 = v }; p = record { 0 = p }; size = size; rights = record { 0 = rights } }

-- the region with f 0 as its first number, and so on
abbrev pub region_by : (ℕ → ℕ) → Region
region_by f = region_of (f 0) (f 1) (f 2) (f 3)

-- the region with the numbers of a list
abbrev pub region_to : List ℕ → Region
region_to l = region_by (λ i. get_or l i 0)

-- ---- bytes of a count, a mark, an id or a kind; of a number of a region; of a region
abbrev pub short_size : ℕ
short_size = 4

abbrev pub long_size : ℕ
long_size = 8

abbrev pub region_size : ℕ
region_size = region_numbers * long_size
