-- Overlap: what its test says, for guest and physical addresses alike.
use Prim.Native.Nat.{ℕ, max}
use native.Mathlib.Omega.{arith}
use mathlib.Core.Bool.{true}
use mathlib.Core.Logic.{◌↔◌}
use mathlib.Core.Path.{◌≡◌}
use borrow.Author.Tests.{ltb-true, lt-ltb}
use Rattle.lists.proofs.Tests.{same_test}
use Rattle.rules.specs.Addresses.{Covers, Shared, overlaps}

-- the test holds exactly when some one address is covered by both
pub overlap_shared : (a m b n : ℕ) → (overlaps a m b n ≡ true) ↔ Shared a m b n
unfolding overlaps
overlap_shared a m b n = (shared, tested)
  where
    shared : overlaps a m b n ≡ true → Shared a m b n
    shared e = (max a b, omega (arith, ltb-true))

    tested : Shared a m b n → overlaps a m b n ≡ true
    tested (x, (p, q)) = omega (arith, lt-ltb)

pub overlap_symmetric : (a m b n : ℕ) → overlaps a m b n ≡ overlaps b n a m
unfolding overlaps
overlap_symmetric a m b n = same_test _ _ (λ e. omega (arith, ltb-true, lt-ltb)) (λ e. omega (arith, ltb-true, lt-ltb))

pub none_covered : (a x : ℕ) → Covers a 0 x → ⊥
none_covered a x h = omega arith
