-- Numbers as text: what is printed reads back, so no two numbers print alike; how long it is; and a line gives its
-- fields back.
use Prim.Native.Nat.{ℕ, zero, suc, ◌+◌, ◌-◌, ◌*◌, ◌/◌, ◌%◌, ◌^◌, ◌≤◌, ◌<◌}
use native.Mathlib.Decide.{dec_lt}
use native.Mathlib.Nat.{div-lt_iff_lt-mul, div-add-mod', mod-lt, pow-zero, pow-suc, pow-le-pow_right}
use native.Mathlib.Omega.{arith}
use mathlib.Core.List.{List, [], ◌∷◌, ◌++◌, append_assoc}
use mathlib.Core.Path.{◌≡◌, refl, sym, ap, ap₂, ◌∙◌}
use borrow.Author.Tests.{lt-ltb, le-ltb, ne_eqb}
use lib.IntN.{ℤ, pos, negsuc, neg_ℤ}
use lib.ListN.{length, length-append}
use Rattle.formats.specs.Formats.{All}
use Rattle.formats.specs.Sizes.{total}
use Rattle.formats.specs.Texts.{glyph, digits, width_within, width, decimal, minus, signed, hex, digit_of}
use Rattle.formats.specs.Texts.{number_after, read_decimal, read_signed, read_hex, space, line_feed, line_of}
use Rattle.formats.specs.Texts.{leading_word, past_word, leading_words, past_words}
use Rattle.formats.proofs.Bounds.{all_joined}

-- every code is above that of a space
abbrev pub Printed : List ℕ → Type 0
Printed cs = All (λ (c : ℕ). 32 < c) cs

-- ---- digits
glyph_low : (d : ℕ) → d < 10 → glyph d ≡ 48 + d
unfolding glyph
glyph_low d h = rw (lt-ltb d 10 h)

glyph_high : (d : ℕ) → 10 ≤ d → glyph d ≡ 87 + d
unfolding glyph
glyph_high d h = rw (le-ltb d 10 h)

pub glyph_least : (d : ℕ) → 48 + d ≤ glyph d
glyph_least d =
    elim (dec_lt d 10) [
      | yes h ↦ omega (arith, glyph_low d h)
      | no h ↦ omega (arith, glyph_high d (omega arith))
    ]

pub glyph_back : (d : ℕ) → d < 16 → digit_of (glyph d) ≡ d
unfolding digit_of
glyph_back d h =
    elim (dec_lt d 10) [
      | yes a ↦ rw (glyph_low d a, lt-ltb (48 + d) 58 (omega arith)) (omega arith)
      | no a ↦ rw (glyph_high d (omega arith), le-ltb (87 + d) 58 (omega arith)) (omega arith)
    ]

pub length_digits : (b k n : ℕ) → length (digits b k n) ≡ k
unfolding digits
length_digits b zero n = refl
length_digits b (suc k) n =
    omega (arith, length-append (digits b k (n / b)) (glyph (n % b) ∷ []), length_digits b k (n / b))

pub digits_printed : (b k n : ℕ) → Printed (digits b k n)
unfolding digits
digits_printed b zero n = tt
digits_printed b (suc k) n =
    all_joined (λ (c : ℕ). 32 < c) (digits b k (n / b)) (glyph (n % b) ∷ []) (digits_printed b k (n / b))
    (omega (arith, glyph_least (n % b)), tt)

number_append : (b n : ℕ) (xs ys : List ℕ) → number_after b n (xs ++ ys) ≡ number_after b (number_after b n xs) ys
unfolding number_after
number_append b n [] ys = refl
number_append b n (x ∷ xs) ys = number_append b (n * b + digit_of x) xs ys

-- the digits of a number that fits spell it
module _ (b : ℕ) (some : 0 < b) (most : b ≤ 16) where
  pub digits_back : (k n : ℕ) → n < b ^ k → number_after b 0 (digits b k n) ≡ n
  unfolding digits number_after
  digits_back zero n h = omega (arith, pow-zero b)
  digits_back (suc k) n h =
      let fits : n < b ^ k * b = rw (pow-suc b k) at h in
      let e : number_after b 0 (digits b k (n / b)) ≡ n / b = digits_back k (n / b) ((div-lt_iff_lt-mul some).1 fits) in
      let g : digit_of (glyph (n % b)) ≡ n % b = glyph_back (n % b) (omega (arith, mod-lt n some)) in
      number_append b 0 (digits b k (n / b)) (glyph (n % b) ∷ []) ∙ ap₂ (λ (x y : ℕ). x * b + y) e g
      ∙ div-add-mod' n b

-- ---- decimal
width_none : (n : ℕ) → width_within 0 n ≡ 1
unfolding width_within
width_none n = refl

width_one : (m n : ℕ) → n < 10 → width_within (suc m) n ≡ 1
unfolding width_within
width_one m n h = rw (lt-ltb n 10 h, width_within)

width_more : (m n : ℕ) → 10 ≤ n → width_within (suc m) n ≡ suc (width_within m (n / 10))
unfolding width_within
width_more m n h = rw (le-ltb n 10 h, width_within)

width_some : (m n : ℕ) → 1 ≤ width_within m n
width_some zero n = omega (arith, width_none n)
width_some (suc m) n =
    elim (dec_lt n 10) [
      | yes h ↦ omega (arith, width_one m n h)
      | no h ↦ omega (arith, width_more m n (omega arith))
    ]

width_holds : (m n : ℕ) → n ≤ m → n < 10 ^ width_within m n
width_holds zero n h = rw (width_none n) (omega arith)
width_holds (suc m) n h =
    elim (dec_lt n 10) [
      | yes a ↦ rw (width_one m n a) (omega arith)
      | no a ↦ rw (width_more m n (omega arith)) (omega (arith, width_holds m (n / 10) (omega arith)))
    ]

width_most : (m n k : ℕ) → 1 ≤ k → n < 10 ^ k → width_within m n ≤ k
width_most zero n k s h = omega (arith, width_none n)
width_most (suc m) n zero s h = absurd (omega arith)
width_most (suc m) n (suc k) s h =
    elim (dec_lt n 10) [
      | yes a ↦ omega (arith, width_one m n a)
      | no a ↦
          omega (
            arith,
            width_more m n (omega arith),
            width_most m (n / 10) k (positive k h (omega arith)) (omega arith),
          )
    ]
  where
    positive : (j : ℕ) → n < 10 ^ suc j → 10 ≤ n → 1 ≤ j
    positive zero h a = absurd (omega arith)
    positive (suc j) h a = omega arith

-- the width is the fewest digits that hold the number, and the only such
pub width_fits : (n : ℕ) → n < 10 ^ width n
unfolding width
width_fits n = width_holds n n (omega arith)

pub width_only : (n k : ℕ) → 1 ≤ k → n < 10 ^ k → (1 < k → 10 ^ (k - 1) ≤ n) → k ≡ width n
unfolding width
width_only n k s h f =
    elim (dec_lt (width n) k) [
      | yes a ↦
          absurd
          (let p : 10 ^ width_within n n ≤ 10 ^ (k - 1) = pow-le-pow_right {n = 10} (omega arith) (omega arith) in
          let g : 10 ^ (k - 1) ≤ n = f (omega (arith, width_some n n)) in
          omega (arith, width_fits n))
      | no a ↦ omega (arith, width_most n n k s h)
    ]

pub decimal_back : (n : ℕ) → read_decimal (decimal n) ≡ n
unfolding decimal
decimal_back n = digits_back 10 (omega arith) (omega arith) (width n) n (width_fits n)

pub decimal_alike : (m n : ℕ) → decimal m ≡ decimal n → m ≡ n
decimal_alike m n e = sym (decimal_back m) ∙ ap read_decimal e ∙ decimal_back n

pub decimal_width : (n : ℕ) → length (decimal n) ≡ width n
unfolding decimal
decimal_width n = length_digits 10 (width n) n

-- a number below 10 ^ k has at most k digits
pub decimal_length : (n k : ℕ) → 1 ≤ k → n < 10 ^ k → length (decimal n) ≤ k
unfolding decimal width
decimal_length n k s h = omega (arith, length_digits 10 (width_within n n) n, width_most n n k s h)

pub decimal_printed : (n : ℕ) → Printed (decimal n)
unfolding decimal
decimal_printed n = digits_printed 10 (width n) n

-- ---- with a sign
-- the first code is at least c
abbrev pub Front : ℕ → List ℕ → Type 0
Front c [] = ⊥
Front c (x ∷ xs) = c ≤ x

front_join : (c : ℕ) (xs ys : List ℕ) → Front c xs → Front c (xs ++ ys)
front_join c [] ys h = absurd h
front_join c (x ∷ xs) ys h = h

digits_front : (b k n : ℕ) → Front 48 (digits b (suc k) n)
unfolding digits
digits_front b zero n = omega (arith, glyph_least (n % b))
digits_front b (suc k) n = front_join 48 (digits b (suc k) (n / b)) (glyph (n % b) ∷ []) (digits_front b k (n / b))

-- it begins with a digit
pub decimal_front : (n : ℕ) → Front 48 (decimal n)
unfolding decimal width
decimal_front n = at (width_within n n) (width_some n n)
  where
    at : (w : ℕ) → 1 ≤ w → Front 48 (digits 10 w n)
    at zero h = absurd (omega arith)
    at (suc w) h = digits_front 10 w n

read_positive : (cs : List ℕ) → Front 48 cs → read_signed cs ≡ pos (read_decimal cs)
unfolding read_signed
read_positive [] h = absurd h
read_positive (c ∷ cs) h = rw (ne_eqb c minus (λ e. omega arith))

read_negative : (cs : List ℕ) (n : ℕ) → read_decimal cs ≡ suc n → read_signed (minus ∷ cs) ≡ negsuc n
unfolding read_signed
read_negative cs n e = ap (λ (m : ℕ). neg_ℤ (pos m)) e

pub signed_back : (z : ℤ) → read_signed (signed z) ≡ z
unfolding signed
signed_back (pos n) = read_positive (decimal n) (decimal_front n) ∙ ap pos (decimal_back n)
signed_back (negsuc n) = read_negative (decimal (suc n)) n (decimal_back (suc n))

pub signed_alike : (y z : ℤ) → signed y ≡ signed z → y ≡ z
signed_alike y z e = sym (signed_back y) ∙ ap read_signed e ∙ signed_back z

pub signed_printed : (z : ℤ) → Printed (signed z)
unfolding signed
signed_printed (pos n) = decimal_printed n
signed_printed (negsuc n) = (omega arith, decimal_printed (suc n))

-- ---- hexadecimal
pub hex_back : (n : ℕ) → n < 2 ^ 64 → read_hex (hex n) ≡ n
unfolding hex
hex_back n h = digits_back 16 (omega arith) (omega arith) 16 n h

pub hex_alike : (m n : ℕ) → m < 2 ^ 64 → n < 2 ^ 64 → hex m ≡ hex n → m ≡ n
hex_alike m n h k e = sym (hex_back m h) ∙ ap read_hex e ∙ hex_back n k

pub hex_length : (n : ℕ) → length (hex n) ≡ 18
unfolding hex
hex_length n = omega (arith, length_digits 16 16 n)

pub hex_printed : (n : ℕ) → Printed (hex n)
unfolding hex
hex_printed n = (omega arith, (omega arith, digits_printed 16 16 n))

-- ---- a line
-- a line has a code for each of its fields' and one after each
pub line_length : (x : List ℕ) (xs : List (List ℕ))
    → length (line_of (x ∷ xs)) ≡ total (λ (y : List ℕ). length y + 1) (x ∷ xs)
unfolding line_of total
line_length x [] = omega (arith, length-append x (line_feed ∷ []))
line_length x (y ∷ ys) = omega (arith, length-append x (space ∷ line_of (y ∷ ys)), line_length y ys)

-- ---- a line read back
word_back : (c : ℕ) → c ≤ 32 → (xs s : List ℕ) → Printed xs
    → (leading_word (xs ++ (c ∷ s)) ≡ xs) × (past_word (xs ++ (c ∷ s)) ≡ s)
unfolding leading_word past_word
word_back c h [] s p = rw (le-ltb space c h) (refl, refl)
word_back c h (x ∷ xs) s p =
    let (f, g) = word_back c h xs s p.1 in
    rw (lt-ltb space x p.0) (ap (λ (l : List ℕ). x ∷ l) f, g)

pub line_back : (x : List ℕ) (xs : List (List ℕ)) (s : List ℕ) → All Printed (x ∷ xs)
    → (leading_words (length (x ∷ xs)) (line_of (x ∷ xs) ++ s) ≡ x ∷ xs)
    × (past_words (length (x ∷ xs)) (line_of (x ∷ xs) ++ s) ≡ s)
unfolding line_of leading_words past_words
line_back x [] s p =
    let (f, g) = word_back line_feed (omega arith) x s p.0 in
    let e : (x ++ (line_feed ∷ [])) ++ s ≡ x ++ (line_feed ∷ s) = append_assoc x (line_feed ∷ []) s in
    (ap (λ (l : List ℕ). l ∷ []) (ap leading_word e ∙ f), ap past_word e ∙ g)
line_back x (y ∷ ys) s p =
    let rest : List ℕ = line_of (y ∷ ys) ++ s in
    let (f, g) = word_back space (omega arith) x rest p.0 in
    let e : (x ++ (space ∷ line_of (y ∷ ys))) ++ s ≡ x ++ (space ∷ rest) =
    append_assoc x (space ∷ line_of (y ∷ ys)) s in
    let (k, r) = line_back y ys s p.1 in
    let q : past_word ((x ++ (space ∷ line_of (y ∷ ys))) ++ s) ≡ rest = ap past_word e ∙ g in (
      ap₂ (λ (a : List ℕ) (l : List (List ℕ)). a ∷ l) (ap leading_word e ∙ f)
          (ap (leading_words (length (y ∷ ys))) q ∙ k),
      ap (past_words (length (y ∷ ys))) q ∙ r,
    )
