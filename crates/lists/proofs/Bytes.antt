-- Numbers as bytes: both round trips, by induction on the width, one byte taken off at a time.
use Prim.Native.Nat.{ℕ, zero, suc, ◌+◌, ◌*◌, ◌/◌, ◌%◌, ◌^◌, ◌<◌}
use native.Mathlib.Decide.{dec_lt}
use native.Mathlib.Omega.{arith}
use mathlib.Core.List.{List, [], ◌∷◌}
use mathlib.Core.Path.{◌≡◌, refl, sym, ap, ap₂, ◌∙◌}
use lib.ListN.{length, get_or, take, get_or-eq_default}
use Rattle.lists.specs.Bytes.{little, bytes_of, Bytes}
use Rattle.lists.specs.Words.{part}
use Rattle.lists.proofs.Words.{part_cons, part_none, part_past}

-- (omega reads `256 ^ suc k`, and not `256 ^ length (x ∷ xs)`)
one_more_law : (k : ℕ) → 256 ^ suc k ≡ 256 * 256 ^ k
one_more_law k = omega arith

pub bytes_take : (k : ℕ) (b : List ℕ) → Bytes b → Bytes (take k b)
bytes_take zero b h i = omega arith
bytes_take (suc k) [] h i = h i
bytes_take (suc k) (x ∷ b) h zero = h 0
bytes_take (suc k) (x ∷ b) h (suc i) = bytes_take k b (λ j. h (suc j)) i

pub length_bytes : (k n : ℕ) → length (bytes_of k n) ≡ k
unfolding bytes_of
length_bytes zero n = refl
length_bytes (suc k) n = ap suc (length_bytes k (n / 256))

-- what is written is read back
pub little_bytes : (k n : ℕ) → n < 256 ^ k → little (bytes_of k n) ≡ n
unfolding little bytes_of
little_bytes zero n h = omega arith
little_bytes (suc k) n h =
    let e : little (bytes_of k (n / 256)) ≡ n / 256 = little_bytes k (n / 256) (omega arith) in
    omega arith

-- what is read is what stands there
pub bytes_little : (b : List ℕ) → Bytes b → bytes_of (length b) (little b) ≡ b
unfolding little bytes_of
bytes_little [] h = refl
bytes_little (x ∷ xs) h =
    let b : x < 256 = h 0 in
    let r : (x + 256 * little xs) % 256 ≡ x = omega arith in
    let q : (x + 256 * little xs) / 256 ≡ little xs = omega arith in
    ap₂ (λ (y : ℕ) (ys : List ℕ). y ∷ ys) r (ap (bytes_of (length xs)) q ∙ bytes_little xs (λ i. h (suc i)))

pub little_below : (b : List ℕ) → Bytes b → little b < 256 ^ length b
unfolding little
little_below [] h = omega arith
little_below (x ∷ xs) h =
    let b : x < 256 = h 0 in
    let r : little xs < 256 ^ length xs = little_below xs (λ i. h (suc i)) in
    omega (arith, one_more_law (length xs))

-- the number that stands among bytes, its lowest byte first; past the end bytes count as 0
pub little_part : (k n : ℕ) (b : List ℕ) → little (part k (suc n) b) ≡ get_or b k 0 + 256 * little (part (k + 1) n b)
unfolding little
little_part k n b =
    elim (dec_lt k (length b)) [
      | yes h ↦ ap little (part_cons k n b 0 h)
      | no h ↦
          ap little (part_past k (suc n) b (omega arith))
          ∙ sym (ap₂ (λ (x y : ℕ). x + 256 * y) (get_or-eq_default b 0 (omega arith))
          (ap little (part_past (k + 1) n b (omega arith))))
    ]

pub little_none : (k : ℕ) (b : List ℕ) → little (part k 0 b) ≡ 0
unfolding little
little_none k b = ap little (part_none k b)
