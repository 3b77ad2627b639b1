-- Fields of a line: digits are put from the last on, and a field is put with what stands after it.
use Prim.Native.Nat.{ℕ, zero, suc, ◌+◌, ◌-◌, ◌/◌, ◌%◌, ◌^◌, ◌≤◌, ◌<◌}
use native.Mathlib.Decide.{dec_lt}
use native.Mathlib.Omega.{arith}
use mathlib.Core.Bool.{true, false}
use mathlib.Core.List.{List, [], ◌∷◌, ◌++◌}
use mathlib.Core.Path.{◌≡◌, refl, sym, ap, ap₂, subst, ◌∙◌}
use borrow.Author.Tests.{lt-ltb, le-ltb}
use lib.IntN.{ℤ, pos, nat_abs, ◌-ℤ◌}
use lib.ListN.{length, set}
use lib.Seq.{sets}
use lib.Signed.{lt_z}
use mir.Syntax.{w64}
use mir.Val.{to_z, of_z}
use Rattle.lists.specs.Bytes.{bytes_of}
use Rattle.formats.specs.Texts.{ascii, glyph, digits, width, decimal, signed, hex}
use Rattle.formats.proofs.Texts.{length_digits, width_fits, width_only, decimal_width, decimal_length}
use Rattle.puts.specs.Pens.{Wrote}
use Rattle.puts.specs.Puts.{put_at}
use Rattle.puts.specs.declared.pen.Pen.{Pen}
use Rattle.puts.proofs.Pens.{wrote_as, wrote_both}
use Rattle.puts.proofs.Puts.{put_both}
use Rattle.rules.specs.Listing.{side_word}
use Rattle.rules.specs.declared.Side.{Side}
use Rattle.rules.specs.declared.Side.TheVariants.{Cpu, Iommu}
use Rattle.listing.specs.Lines.{Near}
use Rattle.listing.proofs.Signed.{at_least, below_zero}

-- ---- digits, the last first
set_later : (s : List ℕ) (i j x y : ℕ) → i < j → set (set s j y) i x ≡ set (set s i x) j y
set_later [] i j x y h = refl
set_later (c ∷ s) zero zero x y h = absurd (omega arith)
set_later (c ∷ s) zero (suc j) x y h = refl
set_later (c ∷ s) (suc i) zero x y h = absurd (omega arith)
set_later (c ∷ s) (suc i) (suc j) x y h = ap (λ (l : List ℕ). c ∷ l) (set_later s i j x y (omega arith))

-- a byte behind a stretch may be put before it
put_later : (b s : List ℕ) (at j y : ℕ) → at + length b ≤ j → put_at at b (set s j y) ≡ set (put_at at b s) j y
unfolding put_at
put_later [] s at j y h = refl
put_later (x ∷ b) s at j y h =
    ap (λ (l : List ℕ). sets l (suc at) b) (set_later s at j x y (omega arith))
    ∙ put_later b (set s at x) (suc at) j y (omega arith)

-- the loop: r is what all digits leave; d is the last, and u the bytes with d
digit_on : (β at left rest : ℕ) (s r : List ℕ) → put_at at (digits β left rest) s ≡ r → 0 < left
    → (d : ℕ) (u : List ℕ) → d ≡ glyph (rest % β) → u ≡ put_at (at + (left - 1)) (d ∷ []) s
    → put_at at (digits β (left - 1) (rest / β)) u ≡ r
unfolding digits put_at
digit_on β at zero rest s r inv h d u ed eu = absurd (omega arith)
digit_on β at (suc k) rest s r inv h d u ed eu =
    let e : suc k - 1 ≡ k = omega arith in
    let n : length (digits β k (rest / β)) ≡ k = length_digits β k (rest / β) in
    let p : at + (suc k - 1) ≡ at + length (digits β k (rest / β)) = omega arith in
    ap (λ (l : List ℕ). sets l at (digits β (suc k - 1) (rest / β))) eu
    ∙ ap (λ (x : ℕ). sets (set s (at + (suc k - 1)) x) at (digits β (suc k - 1) (rest / β))) ed
    ∙ ap₂ (λ (i j : ℕ). sets (set s j (glyph (rest % β))) at (digits β i (rest / β))) e p
    ∙ put_later (digits β k (rest / β)) s at (at + length (digits β k (rest / β))) (glyph (rest % β)) (omega arith)
    ∙ put_both at (digits β k (rest / β)) (glyph (rest % β) ∷ []) s
    ∙ inv

pub digits_on : (β at k i rest : ℕ) (s r : List ℕ) → put_at at (digits β (k - i) rest) s ≡ r → i < k
    → (d : ℕ) (u : List ℕ) → d ≡ glyph (rest % β) → u ≡ put_at (at + (k - i - 1)) (d ∷ []) s
    → put_at at (digits β (k - (i + 1)) (rest / β)) u ≡ r
digits_on β at k i rest s r inv h d u ed eu =
    let e : k - (i + 1) ≡ k - i - 1 = omega arith in
    ap (λ (j : ℕ). put_at at (digits β j (rest / β)) u) e
    ∙ digit_on β at (k - i) rest s r inv (omega arith) d u ed eu

pub digits_end : (β at k i rest : ℕ) (s r : List ℕ) → put_at at (digits β (k - i) rest) s ≡ r → k ≤ i → s ≡ r
unfolding digits put_at
digits_end β at k i rest s r inv h =
    let e : k - i ≡ 0 = omega arith in sym (ap (λ (j : ℕ). put_at at (digits β j rest) s) e) ∙ inv

pub low_glyph : (d : ℕ) → d < 10 → 48 + d ≡ glyph d
unfolding glyph
low_glyph d h = rw (lt-ltb d 10 h)

pub high_glyph : (d : ℕ) → 10 ≤ d → 87 + d ≡ glyph d
unfolding glyph
high_glyph d h = rw (le-ltb d 10 h)

-- ---- how many decimal digits
low_width : (n : ℕ) → n < 10 → 1 ≡ width n
low_width n h = width_only n 1 (omega arith) (omega arith) (λ l. absurd (omega arith))

some_width : (n : ℕ) → 1 ≤ width n
some_width n =
    elim (dec_lt (width n) 1) [
      | yes h ↦
          absurd (let z : width n ≡ 0 = omega arith in
          let f : n < 10 ^ 0 = subst (λ (k : ℕ). n < 10 ^ k) z (width_fits n) in
          omega (arith, low_width n (omega arith)))
      | no h ↦ omega arith
    ]

-- fewer digits would not hold it
full_width : (n k : ℕ) → 1 ≤ k → suc k ≡ width n → 10 ^ k ≤ n
full_width n k h e =
    elim (dec_lt n (10 ^ k)) [
      | yes l ↦ absurd (omega (arith, decimal_length n k h l, decimal_width n))
      | no l ↦ omega arith
    ]

more_width : (n : ℕ) → 10 ≤ n → suc (width (n / 10)) ≡ width n
more_width n h =
    width_only n (suc (width (n / 10))) (omega arith) (omega (arith, width_fits (n / 10)))
    (λ l. by (width (n / 10)) refl)
  where
    by : (w : ℕ) → w ≡ width (n / 10) → 10 ^ (suc w - 1) ≤ n
    by zero e = absurd (omega (arith, some_width (n / 10)))
    by (suc zero) e = omega arith
    by (suc (suc k)) e =
        let f : 10 ^ suc k ≤ n / 10 = full_width (n / 10) (suc k) (omega arith) e in
        let d : suc (suc (suc k)) - 1 ≡ suc (suc k) = omega arith in
        rw d (omega arith)

-- the loop: what is counted, and what is left to count
pub width_on : (n k rest : ℕ) → k + width rest ≡ suc (width n) → 10 ≤ rest → k + 1 + width (rest / 10) ≡ suc (width n)
width_on n k rest inv h = omega (arith, more_width rest h)

pub width_end : (n k rest : ℕ) → k + width rest ≡ suc (width n) → rest < 10 → k ≡ width n
width_end n k rest inv h = omega (arith, low_width rest h)

width_few : (n : ℕ) → n < 2 ^ 64 → width n ≤ 20
width_few n h = omega (arith, decimal_width n, decimal_length n 20 (omega arith) (omega arith))

pub counted_few : (n k rest : ℕ) → n < 2 ^ 64 → k + width rest ≡ suc (width n) → 10 ≤ rest → k + 1 ≤ 20
counted_few n k rest h inv l = omega (arith, width_few n h, more_width rest l, some_width (rest / 10))

-- ---- a number, and what stands after it: the pen stands behind the digits when that is put
pub number_put : (β k n end : ℕ) (p m q : Pen) → m.bytes.ghost_name ≡ p.bytes.ghost_name
    → m.bytes.now ≡ put_at p.at (digits β k n) p.bytes.now → m.at ≡ p.at + k → Wrote m q (end ∷ [])
    → Wrote p q (digits β k n ++ (end ∷ []))
number_put β k n end p m q same eu em w =
    wrote_both p m q _ _
    (record { same = same; put = record { bytes = eu; end = em ∙ ap (λ (j : ℕ). p.at + j) (sym (length_digits β k n)) } }) w

pub decimal_put : (n k end : ℕ) (p q : Pen) → k ≡ width n → Wrote p q (digits 10 k n ++ (end ∷ []))
    → Wrote p q (decimal n ++ (end ∷ []))
unfolding decimal
decimal_put n k end p q e w = wrote_as p q _ _ (ap (λ (j : ℕ). digits 10 j n ++ (end ∷ [])) e) w

pub hex_put : (n : ℕ) (p q r : Pen) → Wrote p q (48 ∷ 120 ∷ []) → Wrote q r (digits 16 16 n ++ (32 ∷ []))
    → Wrote p r (hex n ++ (32 ∷ []))
unfolding hex
hex_put n p q r a b = wrote_both p q r (48 ∷ 120 ∷ []) (digits 16 16 n ++ (32 ∷ [])) a b

-- ---- the word of a side, four bytes of it as a number
module _ (p q : Pen) (side : Side) where
  pub cpu_put : side ≡ Cpu → Wrote p q (bytes_of 4 0x20555043) → Wrote p q (side_word side ++ (32 ∷ []))
  unfolding side_word ascii bytes_of
  cpu_put e w = subst (λ (x : Side). Wrote p q (side_word x ++ (32 ∷ []))) (sym e) w

  pub iommu_put : side ≡ Iommu → (m : Pen) → Wrote p m (bytes_of 4 0x4d4d4f49) → Wrote m q (85 ∷ 32 ∷ [])
      → Wrote p q (side_word side ++ (32 ∷ []))
  unfolding side_word ascii bytes_of
  iommu_put e m a b =
      subst (λ (x : Side). Wrote p q (side_word x ++ (32 ∷ []))) (sym e)
      (wrote_both p m q (bytes_of 4 0x4d4d4f49) (85 ∷ 32 ∷ []) a b)

-- ---- a number with its sign
module _ (n : ℤ) (near : Near n) (p q : Pen) where
  pub below_put : lt_z (to_z w64 (of_z w64 n)) (pos 0) ≡ true → (m : Pen) → Wrote p m (45 ∷ [])
      → Wrote m q (decimal (nat_abs (to_z w64 (of_z w64 (pos 0 -ℤ to_z w64 (of_z w64 n))))) ++ (10 ∷ []))
      → Wrote p q (signed n ++ (10 ∷ []))
  below_put t m a b =
      wrote_as p q _ _ (ap (λ (l : List ℕ). l ++ (10 ∷ [])) (sym (below_zero n near t))) (wrote_both p m q (45 ∷ []) _ a b)

  pub above_put : lt_z (to_z w64 (of_z w64 n)) (pos 0) ≡ false
      → Wrote p q (decimal (nat_abs (to_z w64 (of_z w64 n))) ++ (10 ∷ [])) → Wrote p q (signed n ++ (10 ∷ []))
  above_put t a = wrote_as p q _ _ (ap (λ (l : List ℕ). l ++ (10 ∷ [])) (sym (at_least n near t))) a
