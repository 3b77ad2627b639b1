-- Overlap: one fact for guest and for physical addresses.
use Rattle.std.specs.Prelude.{ℕ, true, ◌↔◌, ◌≡◌}
use Rattle.rules.specs.Addresses.{Covers, Shared, overlaps}

-- the test holds exactly when some one address is covered by both
abbrev pub OverlapIsShared : Type 0
OverlapIsShared = (a m b n : ℕ) → (overlaps a m b n ≡ true) ↔ Shared a m b n

-- it does not matter which of the two is named first
abbrev pub OverlapIsSymmetric : Type 0
OverlapIsSymmetric = (a m b n : ℕ) → overlaps a m b n ≡ overlaps b n a m

-- a region of size 0 covers nothing
abbrev pub EmptyCoversNothing : Type 0
EmptyCoversNothing = (a x : ℕ) → Covers a 0 x → ⊥
