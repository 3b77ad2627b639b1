-- Numbers as text, in ASCII: decimal, decimal with a sign, hexadecimal; what reads each back; and fields in a line.
use Prim.Native.Char.{code}
use Rattle.std.specs.Prelude.{ℕ, zero, suc, ◌+◌, ◌-◌, ◌*◌, ◌/◌, ◌%◌, true, false, cond, List, [], ◌∷◌, ◌++◌, ltb, eqb, ℤ, pos, negsuc, neg_ℤ, drop}
use Prim.Native.String as Native
use Prim.Native.String.{String}

-- the codes of a quoted text
unfoldable pub ascii : String → List ℕ
ascii Native.[] = []
ascii (Native.◌∷◌ c s) = code c ∷ ascii s

-- ---- printing
-- the code of a digit below 16: `0` to `9`, then `a` to `f`
unfoldable pub glyph : ℕ → ℕ
glyph d = cond (ltb d 10) (48 + d) (87 + d)

-- the last k digits of n in base b, the highest first
unfoldable pub digits : ℕ → ℕ → ℕ → List ℕ
digits b zero n = []
digits b (suc k) n = digits b k (n / b) ++ (glyph (n % b) ∷ [])

-- how many decimal digits n has: one below ten, else one more than a tenth of it has. (`elim` and not `cond`: what is
-- not taken is not computed)
unfoldable pub width_within : ℕ → ℕ → ℕ
width_within zero n = 1
width_within (suc k) n = elim (ltb n 10) [ true ↦ 1 | false ↦ suc (width_within k (n / 10)) ]

unfoldable pub width : ℕ → ℕ
width n = width_within n n

-- decimal, with no zeros in front
unfoldable pub decimal : ℕ → List ℕ
decimal n = digits 10 (width n) n

-- decimal, minus below 0
abbrev pub minus : ℕ
minus = 45

unfoldable pub signed : ℤ → List ℕ
signed (pos n) = decimal n
signed (negsuc n) = minus ∷ decimal (suc n)

-- `0x` and 16 lower-case digits
unfoldable pub hex : ℕ → List ℕ
hex n = 48 ∷ 120 ∷ digits 16 16 n

-- ---- reading
unfoldable pub digit_of : ℕ → ℕ
digit_of c = cond (ltb c 58) (c - 48) (c - 87)

-- the number that digits in base b spell after n
unfoldable pub number_after : ℕ → ℕ → List ℕ → ℕ
number_after b n [] = n
number_after b n (c ∷ cs) = number_after b (n * b + digit_of c) cs

abbrev pub read_decimal : List ℕ → ℕ
read_decimal cs = number_after 10 0 cs

unfoldable pub read_signed : List ℕ → ℤ
read_signed [] = pos 0
read_signed (c ∷ cs) = cond (eqb c minus) (neg_ℤ (pos (read_decimal cs))) (pos (read_decimal (c ∷ cs)))

abbrev pub read_hex : List ℕ → ℕ
read_hex cs = number_after 16 0 (drop 2 cs)

-- ---- a line: one space between its fields, line feed last
abbrev pub space : ℕ
space = 32

abbrev pub line_feed : ℕ
line_feed = 10

unfoldable pub line_of : List (List ℕ) → List ℕ
line_of [] = line_feed ∷ []
line_of (x ∷ []) = x ++ (line_feed ∷ [])
line_of (x ∷ y ∷ ys) = x ++ (space ∷ line_of (y ∷ ys))

-- ---- a line read back: a word ends at the first code that is not above a space
unfoldable pub leading_word : List ℕ → List ℕ
leading_word [] = []
leading_word (c ∷ cs) = cond (ltb space c) (c ∷ leading_word cs) []

unfoldable pub past_word : List ℕ → List ℕ
past_word [] = []
past_word (c ∷ cs) = cond (ltb space c) (past_word cs) cs

-- n words, and what follows them
unfoldable pub leading_words : ℕ → List ℕ → List (List ℕ)
leading_words zero b = []
leading_words (suc n) b = leading_word b ∷ leading_words n (past_word b)

unfoldable pub past_words : ℕ → List ℕ → List ℕ
past_words zero b = b
past_words (suc n) b = past_words n (past_word b)
