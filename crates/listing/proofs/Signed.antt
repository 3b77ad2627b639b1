-- Differences of page numbers and their magnitudes: none is out of an i64's range, so its bits read back to it.
use Prim.Native.Nat.{ℕ, zero, suc, ◌+◌, ◌/◌, ◌^◌, ◌<◌}
use native.Mathlib.Decide.{dec_lt}
use native.Mathlib.Omega.{arith}
use mathlib.Core.Bool.{true, false, true≢false}
use mathlib.Core.List.{◌∷◌}
use mathlib.Core.Path.{◌≡◌, refl, sym, ap, ap₂, subst, ◌∙◌}
use borrow.Author.Tests.{ltb-true, lt-ltb, le-ltb}
use lib.Dec.{T}
use lib.IntN.{ℤ, pos, negsuc, nat_abs, sub_ℕ, ◌-ℤ◌}
use lib.Signed.{lt_z, non_neg}
use mir.Syntax.{w64}
use mir.Val.{Fits, SFits, to_z, of_z}
use mir.ValLaws.{to_z-of_z}
use Rattle.formats.specs.Texts.{minus, decimal, signed}
use Rattle.listing.specs.Lines.{Near}

-- ---- the difference of two page numbers
module _ (a b : ℕ) (la : a < 2 ^ 64) (lb : b < 2 ^ 64) where
  page_read : (x : ℕ) → x < 2 ^ 64 → to_z w64 (x / 4096) ≡ pos (x / 4096)
  page_read x l = rw (lt-ltb (x / 4096) (2 ^ 63) (omega arith))

  difference : (x y : ℕ) → pos x -ℤ pos y ≡ sub_ℕ x y
  difference x zero = rw (le-ltb x 0 (omega arith)) (ap pos (omega arith))
  difference x (suc y) = refl

  pages_same : to_z w64 (a / 4096) -ℤ to_z w64 (b / 4096) ≡ sub_ℕ (a / 4096) (b / 4096)
  pages_same = ap₂ (λ (x y : ℤ). x -ℤ y) (page_read a la) (page_read b lb) ∙ difference (a / 4096) (b / 4096)

  pages_near : Near (sub_ℕ (a / 4096) (b / 4096))
  pages_near =
      elim (dec_lt (a / 4096) (b / 4096)) [
        | yes h ↦ rw (lt-ltb (a / 4096) (b / 4096) h) (omega arith)
        | no h ↦ rw (le-ltb (a / 4096) (b / 4096) (omega arith)) (omega arith)
      ]

near_fits : (z : ℤ) → Near z → SFits w64 z
near_fits (pos n) h = record { sfits = omega arith }
near_fits (negsuc n) h = record { sfits = omega arith }

module _ (a b : ℕ) (la : a < 2 ^ 64) (lb : b < 2 ^ 64) where
  pub pages_fit : SFits w64 (to_z w64 (a / 4096) -ℤ to_z w64 (b / 4096))
  pages_fit = subst (SFits w64) (sym (pages_same a b la lb)) (near_fits _ (pages_near a b la lb))

  pages_read : to_z w64 (of_z w64 (to_z w64 (a / 4096) -ℤ to_z w64 (b / 4096))) ≡ sub_ℕ (a / 4096) (b / 4096)
  pages_read = to_z-of_z w64 _ pages_fit ∙ pages_same a b la lb

  pub pages_told : (to_z w64 (of_z w64 (to_z w64 (a / 4096) -ℤ to_z w64 (b / 4096))) ≡ sub_ℕ (a / 4096) (b / 4096))
      × Near (to_z w64 (of_z w64 (to_z w64 (a / 4096) -ℤ to_z w64 (b / 4096))))
  pages_told = (pages_read, subst Near (sym pages_read) (pages_near a b la lb))

-- ---- a number that is near, below 0 or not
small : (z : ℤ) → Near z → Fits w64 (nat_abs z)
small (pos k) h = record { fits = omega arith }
small (negsuc k) h = record { fits = omega arith }

module _ (n : ℤ) (near : Near n) where
  same : to_z w64 (of_z w64 n) ≡ n
  same = to_z-of_z w64 n (near_fits n near)

  -- the test is of the number
  module _ (below : lt_z (to_z w64 (of_z w64 n)) (pos 0) ≡ true) where
    is_below_law : lt_z n (pos 0) ≡ true
    is_below_law = sym (ap (λ (z : ℤ). lt_z z (pos 0)) same) ∙ below

    opposite : (z : ℤ) → Near z → lt_z z (pos 0) ≡ true → (Near (pos 0 -ℤ z)) × (pos 0 -ℤ z ≡ pos (nat_abs z))
    opposite (pos k) h t = absurd (omega (arith, ltb-true k 0 t))
    opposite (negsuc k) h t = let e : 0 + suc k ≡ suc k = omega arith in (omega arith, ap pos e)

    pub opposite_fits : SFits w64 (pos 0 -ℤ to_z w64 (of_z w64 n))
    opposite_fits = subst (λ (z : ℤ). SFits w64 (pos 0 -ℤ z)) (sym same) (near_fits _ (opposite n near is_below_law).0)

    -- what is printed after the minus
    opposite_is : to_z w64 (of_z w64 (pos 0 -ℤ to_z w64 (of_z w64 n))) ≡ pos (nat_abs n)
    opposite_is =
        to_z-of_z w64 _ opposite_fits ∙ ap (λ (z : ℤ). pos 0 -ℤ z) same ∙ (opposite n near is_below_law).1

    pub opposite_sign : T (non_neg (to_z w64 (of_z w64 (pos 0 -ℤ to_z w64 (of_z w64 n)))))
    opposite_sign = subst (λ (z : ℤ). T (non_neg z)) (sym opposite_is) tt

    pub opposite_small : Fits w64 (nat_abs (to_z w64 (of_z w64 (pos 0 -ℤ to_z w64 (of_z w64 n)))))
    opposite_small = subst (λ (z : ℤ). Fits w64 (nat_abs z)) (sym opposite_is) (small n near)

    pub below_zero : signed n ≡ minus ∷ decimal (nat_abs (to_z w64 (of_z w64 (pos 0 -ℤ to_z w64 (of_z w64 n)))))
    unfolding signed
    below_zero = by n is_below_law ∙ ap (λ (z : ℤ). minus ∷ decimal (nat_abs z)) (sym opposite_is)
      where
        by : (z : ℤ) → lt_z z (pos 0) ≡ true → signed z ≡ minus ∷ decimal (nat_abs z)
        by (pos k) t = absurd (omega (arith, ltb-true k 0 t))
        by (negsuc k) t = refl

  -- not below 0: the number itself
  module _ (above : lt_z (to_z w64 (of_z w64 n)) (pos 0) ≡ false) where
    is_above : lt_z n (pos 0) ≡ false
    is_above = sym (ap (λ (z : ℤ). lt_z z (pos 0)) same) ∙ above

    pub above_sign : T (non_neg (to_z w64 (of_z w64 n)))
    above_sign = subst (λ (z : ℤ). T (non_neg z)) (sym same) (by n is_above)
      where
        by : (z : ℤ) → lt_z z (pos 0) ≡ false → T (non_neg z)
        by (pos k) t = tt
        by (negsuc k) t = absurd (true≢false t)

    pub above_small : Fits w64 (nat_abs (to_z w64 (of_z w64 n)))
    above_small = subst (λ (z : ℤ). Fits w64 (nat_abs z)) (sym same) (small n near)

    pub at_least : signed n ≡ decimal (nat_abs (to_z w64 (of_z w64 n)))
    unfolding signed
    at_least = by n is_above ∙ ap (λ (z : ℤ). decimal (nat_abs z)) (sym same)
      where
        by : (z : ℤ) → lt_z z (pos 0) ≡ false → signed z ≡ decimal (nat_abs z)
        by (pos k) t = refl
        by (negsuc k) t = absurd (true≢false t)
