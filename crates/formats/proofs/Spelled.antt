-- What is written is bytes. A format that is put together from formats has this from them.
use Prim.Native.Nat.{ℕ, zero, suc, ◌/◌}
use native.Mathlib.Omega.{arith}
use mathlib.Core.List.{List, [], ◌∷◌, ◌++◌}
use Rattle.lists.specs.Bytes.{bytes_of, Bytes}
use Rattle.formats.specs.Formats.{number, write_with, with, write_both, both, write_many, many, write_headed}
use Rattle.formats.specs.Formats.{headed, exactly, Format}

abbrev pub Spelled : {A : Type 0} → Format A → Type 0
Spelled {A} F = (x : A) → Bytes (F.write x)

joined : (x y : List ℕ) → Bytes x → Bytes y → Bytes (x ++ y)
joined [] y h g i = g i
joined (a ∷ x) y h g zero = h 0
joined (a ∷ x) y h g (suc i) = joined x y (λ j. h (suc j)) g i

pub spelled_number : (k : ℕ) → Spelled (number k)
unfolding bytes_of
spelled_number zero n i = omega arith
spelled_number (suc k) n zero = omega arith
spelled_number (suc k) n (suc i) = spelled_number k (n / 256) i

pub spelled_with : {A B : Type 0} (F : Format A) (G : A → Format B) → Spelled F → ((x : A) → Spelled (G x))
    → Spelled (with F G)
unfolding write_with
spelled_with F G f g p = joined (F.write p.0) ((G p.0).write p.1) (f p.0) (g p.0 p.1)

pub spelled_both : {A B : Type 0} (F : Format A) (G : Format B) → Spelled F → Spelled G → Spelled (both F G)
unfolding write_both
spelled_both F G f g p = spelled_with F (λ x. G) f (λ x. g) p

pub spelled_many : {A : Type 0} (F : Format A) → Spelled F → (n : ℕ) → Spelled (many F n)
unfolding write_many
spelled_many F f n [] i = omega arith
spelled_many F f n (x ∷ xs) i = joined (F.write x) (write_many F xs) (f x) (spelled_many F f n xs) i

pub spelled_headed : {A : Type 0} (w lo hi : ℕ) (F : ℕ → Format A) (size : A → ℕ) → ((c : ℕ) → Spelled (F c))
    → Spelled (headed w lo hi F size)
unfolding write_headed
spelled_headed w lo hi F size f x =
    joined (bytes_of w (size x)) ((F (size x)).write x) (spelled_number w (size x)) (f (size x) x)

pub spelled_exactly : (w : ℕ) (ns : List ℕ) → Spelled (exactly w ns)
spelled_exactly w [] u i = omega arith
spelled_exactly w (n ∷ ns) u i =
    spelled_headed w n n (λ c. exactly w ns) (λ u. n) (λ c. spelled_exactly w ns) u i
