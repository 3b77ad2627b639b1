-- How many bytes are written. As with the laws of reading, a format that
-- is put together from formats has its size from theirs.
use Prim.Native.Nat.{ℕ, zero, suc, ◌+◌, ◌*◌, ◌≤◌}
use native.Mathlib.Nat.{suc-mul, zero-mul}
use native.Mathlib.Omega.{arith}
use mathlib.Core.List.{List, [], ◌∷◌}
use mathlib.Core.Path.{◌≡◌, refl, sym}
use lib.ListN.{length, replicate, length-append}
use Rattle.lists.specs.Bytes.{bytes_of}
use Rattle.lists.proofs.Bytes.{length_bytes}
use Rattle.formats.specs.Formats.{Format, number, write_with, with, write_both, both, write_many, many}
use Rattle.formats.specs.Formats.{write_headed, headed, listed, exactly}
use Rattle.formats.specs.Formats.{All}
use Rattle.formats.specs.Sizes.{total}

-- what is written of a value has as many bytes as its size says
abbrev pub Sized : {A : Type 0} → Format A → (A → ℕ) → Type 0
Sized {A} F size = (x : A) → length (F.write x) ≡ size x

pub sized_number : (k : ℕ) → Sized (number k) (λ n. k)
sized_number k n = length_bytes k n

module _ {A B : Type 0} (F : Format A) (G : A → Format B) (f : A → ℕ) (g : A → B → ℕ) (sf : Sized F f)
    (sg : (x : A) → Sized (G x) (g x)) where
  pub sized_with : Sized (with F G) (λ p. f p.0 + g p.0 p.1)
  unfolding write_with
  sized_with p = omega (arith, length-append (F.write p.0) ((G p.0).write p.1), sf p.0, sg p.0 p.1)

pub sized_both : {A B : Type 0} (F : Format A) (G : Format B) (f : A → ℕ) (g : B → ℕ) → Sized F f → Sized G g
    → Sized (both F G) (λ p. f p.0 + g p.1)
unfolding write_both
sized_both F G f g sf sg p = sized_with F (λ x. G) f (λ x. g) sf (λ x. sg) p

module _ {A : Type 0} (w lo hi : ℕ) (F : ℕ → Format A) (count : A → ℕ) (f : A → ℕ) (sf : (c : ℕ) → Sized (F c) f) where
  pub sized_headed : Sized (headed w lo hi F count) (λ x. w + f x)
  unfolding write_headed
  sized_headed x =
      omega (
        arith,
        length-append (bytes_of w (count x)) ((F (count x)).write x),
        length_bytes w (count x),
        sf (count x) x,
      )

module _ {A : Type 0} (F : Format A) (f : A → ℕ) (sf : Sized F f) where
  pub sized_many : (xs : List A) → length (write_many F xs) ≡ total f xs
  unfolding write_many total
  sized_many [] = refl
  sized_many (x ∷ xs) = omega (arith, length-append (F.write x) (write_many F xs), sf x, sized_many xs)

  pub sized_listed : (w lo hi : ℕ) → Sized (listed w lo hi F) (λ xs. w + total f xs)
  sized_listed w lo hi = sized_headed w lo hi (many F) length (total f) (λ c. sized_many)

pub sized_exactly : (w : ℕ) (ns : List ℕ) → Sized (exactly w ns) (λ u. length ns * w)
sized_exactly w [] u = sym (zero-mul w)
sized_exactly w (n ∷ ns) u =
    omega (
      arith,
      sized_headed w n n (λ c. exactly w ns) (λ u. n) (λ u. length ns * w) (λ c. sized_exactly w ns) u,
      suc-mul (length ns) w,
    )

-- ---- sums: of one size, up to a size, of one element so many times
pub total_same : {A : Type 0} (k : ℕ) (xs : List A) → total (λ x. k) xs ≡ length xs * k
unfolding total
total_same k [] = sym (zero-mul k)
total_same k (x ∷ xs) = omega (arith, total_same k xs, suc-mul (length xs) k)

module _ {A : Type 0} (f : A → ℕ) where
  pub total_most : (P : A → Type 0) (m : ℕ) → ((x : A) → P x → f x ≤ m) → (xs : List A) → All P xs
      → total f xs ≤ length xs * m
  unfolding total
  total_most P m g [] h = omega arith
  total_most P m g (x ∷ xs) h = omega (arith, g x h.0, total_most P m g xs h.1, suc-mul (length xs) m)

  pub total_replicate : (n : ℕ) (x : A) → total f (replicate n x) ≡ n * f x
  unfolding total
  total_replicate zero x = sym (zero-mul (f x))
  total_replicate (suc n) x = omega (arith, total_replicate n x, suc-mul n (f x))

pub all_replicate : {A : Type 0} (P : A → Type 0) (n : ℕ) (x : A) → P x → All P (replicate n x)
all_replicate P zero x h = tt
all_replicate P (suc n) x h = (h, all_replicate P n x h)
