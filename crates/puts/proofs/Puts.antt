-- Stores one behind the other: what is left to put gives the whole, and past the end nothing is left.
use Prim.Native.Nat.{ℕ, zero, suc, ◌+◌, ◌-◌, ◌/◌, ◌%◌, ◌^◌, ◌≤◌, ◌<◌, min}
use native.Mathlib.Decide.{dec_lt}
use native.Mathlib.Nat.{pow-suc, div-div-eq-div-mul}
use native.Mathlib.Omega.{arith}
use mathlib.Core.List.{List, [], ◌∷◌, ◌++◌, append_assoc}
use mathlib.Core.Path.{◌≡◌, refl, sym, ap, ap₂, ◌∙◌}
use lib.ListN.{length, get_or, take, drop, set, length-append, length-set, drop_of_length-le}
use borrow.Rule.Slice.PartMut.{put_mid}
use lib.Seq.{drop-drop, set_out, sets, length-sets, sets-eq, drop-cons}
use mir.Syntax.{w32, w64}
use Rattle.std.specs.Int.{byte_at, bytes_low_first, to_le_bytes}
use Rattle.std.specs.List.{zip, range_with_len}
use Rattle.std.proofs.lemmas.List.FromFn.{get_or-range_with_len, length-range_with_len}
use Rattle.std.proofs.lemmas.List.{get_or_default}
use Rattle.std.proofs.lemmas.Slice.Zip.{length-zip, get_or-zip}
use Rattle.lists.specs.Bytes.{bytes_of}
use Rattle.lists.proofs.Bytes.{length_bytes}
use Rattle.puts.specs.Puts.{put_at, Put}

-- past the end nothing is put
pub put_past : (at : ℕ) (b s : List ℕ) → length s ≤ at → put_at at b s ≡ s
unfolding put_at
put_past at [] s h = refl
put_past at (x ∷ b) s h =
    put_past (suc at) b (set s at x) (omega (arith, length-set s at x)) ∙ set_out s at x h

-- as many bytes as before
pub put_long : (at : ℕ) (b s : List ℕ) → length (put_at at b s) ≡ length s
unfolding put_at
put_long at b s = length-sets s at b

-- where they fit: what stands before, the bytes, what stands behind
pub put_fits : (at : ℕ) (b s : List ℕ) → at + length b ≤ length s
    → put_at at b s ≡ take at s ++ (b ++ drop (at + length b) s)
unfolding put_at
put_fits at b s h = sets-eq b s at h ∙ append_assoc (take at s) b (drop (at + length b) s)

-- the part of s from `at` on that is as long as b became b
pub put_whole : (at n : ℕ) (b s x : List ℕ) → x ≡ b → length b ≡ n → at + n ≤ length s → put_mid at (at + n - at) s x ≡ put_at at b s
put_whole at n b s x e l h =
    let k : at + n - at ≡ n = omega arith in
    ap₂ (λ (m : ℕ) (y : List ℕ). take at s ++ (y ++ drop m (drop at s))) k e
    ∙ ap (λ (m : List ℕ). take at s ++ (b ++ m)) (drop-drop n at s ∙ ap (λ (m : ℕ). drop (at + m) s) (sym l))
    ∙ sym (put_fits at b s (omega arith))

-- ---- one behind the other
pub put_both : (at : ℕ) (a b s : List ℕ) → put_at (at + length a) b (put_at at a s) ≡ put_at at (a ++ b) s
unfolding put_at
put_both at [] b s = let e : at + 0 ≡ at = omega arith in ap (λ (k : ℕ). sets s k b) e
put_both at (x ∷ a) b s =
    let e : at + suc (length a) ≡ suc at + length a = omega arith in
    ap (λ (k : ℕ). sets (sets (set s at x) (suc at) a) k b) e ∙ put_both (suc at) a b (set s at x)

pub puts_both : (s u v : List ℕ) (at m e : ℕ) (a b : List ℕ) → Put s at a u m → Put u m b v e → Put s at (a ++ b) v e
puts_both s u v at m e a b p q = record {
  bytes = q.bytes ∙ ap₂ (λ (k : ℕ) (l : List ℕ). put_at k b l) p.end p.bytes ∙ put_both at a b s;
  end = omega (arith, p.end, q.end, length-append a b);
}

pub puts_none : (s : List ℕ) (at : ℕ) → Put s at [] s at
unfolding put_at
puts_none s at = record { bytes = refl; end = omega arith }

-- a number is put
pub put_number : (s u : List ℕ) (at k x : ℕ) → u ≡ put_at at (bytes_of k x) s → Put s at (bytes_of k x) u (at + k)
put_number s u at k x e = record { bytes = e; end = ap (λ (n : ℕ). at + n) (sym (length_bytes k x)) }

-- the library's bytes of a number are these
low_first : (i k n m : ℕ) → n / 256 ^ i ≡ m → bytes_low_first i k n ≡ bytes_of k m
unfolding bytes_of
low_first i zero n m e = refl
low_first i (suc k) n m e =
    ap₂ (λ (x : ℕ) (b : List ℕ). x ∷ b) (first i n ∙ ap (λ (x : ℕ). x % 256) e)
    (low_first (suc i) k n (m / 256) (next i ∙ ap (λ (x : ℕ). x / 256) e))
  where
    first : (i n : ℕ) → byte_at i n ≡ n / 256 ^ i % 256
    first zero n = omega arith
    first (suc i) n = refl

    next : (i : ℕ) → n / 256 ^ suc i ≡ n / 256 ^ i / 256
    next i = ap (λ (d : ℕ). n / d) (pow-suc 256 i) ∙ sym (div-div-eq-div-mul n (256 ^ i) 256)

pub bytes_32 : (n : ℕ) → to_le_bytes w32 n ≡ bytes_of 4 n
bytes_32 n = low_first 0 4 n n (omega arith)

pub bytes_64 : (n : ℕ) → to_le_bytes w64 n ≡ bytes_of 8 n
bytes_64 n = low_first 0 8 n n (omega arith)

-- the library's bytes of a number put are these of the same number
pub put_low_32 : (at y x : ℕ) (b s v : List ℕ) → b ≡ to_le_bytes w32 y → v ≡ put_at at b s → y ≡ x → v ≡ put_at at (bytes_of 4 x) s
put_low_32 at y x b s v e f h = f ∙ ap (λ (c : List ℕ). put_at at c s) (e ∙ bytes_32 y ∙ ap (bytes_of 4) h)

pub put_low_64 : (at y x : ℕ) (b s v : List ℕ) → b ≡ to_le_bytes w64 y → v ≡ put_at at b s → y ≡ x → v ≡ put_at at (bytes_of 8 x) s
put_low_64 at y x b s v e f h = f ∙ ap (λ (c : List ℕ). put_at at c s) (e ∙ bytes_64 y ∙ ap (bytes_of 8) h)

-- ---- the loop: r is what the whole leaves, and k of the bytes are put
module _ (b s r : List ℕ) (at k : ℕ) (inv : put_at (at + k) (drop k b) s ≡ r) where
  pub bytes_on : (i x j : ℕ) → k < length b → i ≡ at + k → x ≡ get_or b k 0 → j ≡ k + 1
      → put_at (at + j) (drop j b) (set s i x) ≡ r
  unfolding put_at
  bytes_on i x j h ei ex ej =
      let e : at + j ≡ suc (at + k) = omega arith in
      let f : j ≡ suc k = omega arith in
      ap₂ (λ (m n : ℕ). sets (set s i x) m (drop n b)) e f
      ∙ ap₂ (λ (m y : ℕ). sets (set s m y) (suc (at + k)) (drop (suc k) b)) ei ex
      ∙ sym (ap (sets s (at + k)) (drop-cons b k 0 h)) ∙ inv

  -- the room or the bytes end
  pub bytes_end : (n : ℕ) → length s ≡ n → k ≡ min (n - at) (length b) → s ≡ r
  unfolding put_at
  bytes_end n l e =
      elim (dec_lt k (length b)) [
        | yes h ↦ sym (put_past (at + k) (drop k b) s (omega arith)) ∙ inv
        | no h ↦ sym (ap (sets s (at + k)) (drop_of_length-le b (omega arith))) ∙ inv
      ]

-- the numbers from at on beside bytes: which place each byte goes to
module _ (b : List ℕ) (at n : ℕ) where
  pub places_long : length (zip (range_with_len at n) b) ≡ min n (length b)
  places_long = omega (arith, length-zip (range_with_len at n) b, length-range_with_len at n)

  pub place_turn : (k : ℕ) (p : ℕ × ℕ) → k < length (zip (range_with_len at n) b) → p ≡ get_or (zip (range_with_len at n) b) k p
      → (k < n) × (k < length b) × (p.0 ≡ at + k) × (p.1 ≡ get_or b k 0)
  place_turn k p h e =
      let l : k < min n (length b) = omega (arith, places_long) in
      let r : k < length (range_with_len at n) = omega (arith, length-range_with_len at n) in
      let q = e ∙ get_or-zip (range_with_len at n) b k p r (omega arith) in
      (omega arith, omega arith, ap (λ (x : ℕ × ℕ). x.0) q ∙ get_or-range_with_len at n k p.0 (omega arith), ap (λ (x : ℕ × ℕ). x.1) q ∙ get_or_default b k p.1 0 (omega arith))
