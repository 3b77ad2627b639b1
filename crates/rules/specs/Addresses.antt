-- Addresses, guest or physical: what a start and a size cover, and when two of them overlap. Addresses are whole
-- numbers with no upper end, so no sum wraps.
use Rattle.std.specs.Prelude.{ℕ, ◌+◌, ◌≤◌, ◌<◌, min, max, Bool, ltb}

-- a start and a size cover the addresses from the start up to, not including, start + size
abbrev pub Covers : ℕ → ℕ → ℕ → Type 0
Covers start size x = (start ≤ x) × (x < start + size)

-- some one address is covered by both
abbrev pub Shared : ℕ → ℕ → ℕ → ℕ → Type 0
Shared a m b n = (x : ℕ) × (Covers a m x × Covers b n x)

-- the test for it: the later start lies below the earlier end
unfoldable pub overlaps : ℕ → ℕ → ℕ → ℕ → Bool
overlaps a m b n = ltb (max a b) (min (a + m) (b + n))
