-- A number is its lowest byte and 256 times what the bytes above it spell; and an array made by a closure that no call changes.
use Rattle.std.proofs.Common.{ℕ, zero, suc, ◌+◌, ◌*◌, ◌<◌, ◌≡◌, List, get_or, slice_index_or, w32, w64, arith, sym, ap, subst, ◌∙◌}
use denote.Param.Members.{Mut, Called}
use Rattle.std.specs.Array.{IsFromFnResultFrom}
use Rattle.std.specs.Int.{from_le_bytes}
use Rattle.lists.specs.Bytes.{little}
use Rattle.lists.specs.Words.{part}
use Rattle.lists.proofs.Bytes.{little_part, little_none}

module _ {F B : Type 0} (g : Mut F (ℕ × Unit {0}) B) (f : F) (v : ℕ → B)
    (one : (i : ℕ) (y : B) (q : F) → Called g f (i, tt) y q → (q ≡ f) × (y ≡ v i)) where
  -- the elements from place i on are what the closure answers of their places
  pub made_same : (ys : List B) (p : F) (i n : ℕ) → p ≡ f → IsFromFnResultFrom g p ys i n → (k j : ℕ) (d : B) → i + k ≡ j
      → k < n → slice_index_or ys j d ≡ v j
  made_same ys p i zero e r k j d s h = absurd (omega arith)
  made_same ys p i (suc n) e (q, y, at, c, rest) zero j d s h =
      let z : i ≡ j = omega arith in
      let o = one i y q (subst (λ (x : F). Called g x (i, tt) y q) e c) in
      ap (λ (m : ℕ). slice_index_or ys m d) (sym z) ∙ at.1 d ∙ o.1 ∙ ap v z
  made_same ys p i (suc n) e (q, y, at, c, rest) (suc k) j d s h =
      let o = one i y q (subst (λ (x : F). Called g x (i, tt) y q) e c) in
      made_same ys q (i + 1) n o.0 rest k j d (omega arith) (omega arith)

-- the first four bytes, and what follows them
four_on : (b : List ℕ) (k n : ℕ) → little (part k (suc (suc (suc (suc n)))) b)
    ≡ get_or b (k + 0) 0 + 256 *
    (get_or b (k + 1) 0 + 256 * (get_or b (k + 2) 0 + 256 * (get_or b (k + 3) 0 + 256 * little (part (k + 4) n b))))
four_on b k n =
    let e0 : k + 0 ≡ k = omega arith in
    let e2 : k + 1 + 1 ≡ k + 2 = omega arith in
    let e3 : k + 2 + 1 ≡ k + 3 = omega arith in
    let e4 : k + 3 + 1 ≡ k + 4 = omega arith in
    omega (
      arith,
      ap (λ (i : ℕ). get_or b i 0) e0,
      little_part k (suc (suc (suc n))) b,
      little_part (k + 1) (suc (suc n)) b,
      ap (λ (i : ℕ). little (part i (suc (suc n)) b)) e2,
      little_part (k + 2) (suc n) b,
      ap (λ (i : ℕ). little (part i (suc n) b)) e3,
      little_part (k + 3) n b,
      ap (λ (i : ℕ). little (part i n b)) e4,
    )

-- the bytes of `a` stand among those of `b` from k on, or past their end, where 0 is in their place
module _ (a b : List ℕ) (k : ℕ) where
  pub number_of_4 : ((i : ℕ) → i < 4 → get_or a i 0 ≡ get_or b (k + i) 0) → from_le_bytes w32 a ≡ little (part k 4 b)
  number_of_4 h =
      omega (
        arith,
        h 0 (omega arith),
        h 1 (omega arith),
        h 2 (omega arith),
        h 3 (omega arith),
        four_on b k 0,
        little_none (k + 4) b,
      )

  pub number_of_8 : ((i : ℕ) → i < 8 → get_or a i 0 ≡ get_or b (k + i) 0) → from_le_bytes w64 a ≡ little (part k 8 b)
  number_of_8 h =
      let j4 : k + 4 + 0 ≡ k + 4 = omega arith in
      let j5 : k + 4 + 1 ≡ k + 5 = omega arith in
      let j6 : k + 4 + 2 ≡ k + 6 = omega arith in
      let j7 : k + 4 + 3 ≡ k + 7 = omega arith in
      let j8 : k + 4 + 4 ≡ k + 8 = omega arith in
      omega (
        arith,
        h 0 (omega arith),
        h 1 (omega arith),
        h 2 (omega arith),
        h 3 (omega arith),
        h 4 (omega arith) ∙ ap (λ (i : ℕ). get_or b i 0) (sym j4),
        h 5 (omega arith) ∙ ap (λ (i : ℕ). get_or b i 0) (sym j5),
        h 6 (omega arith) ∙ ap (λ (i : ℕ). get_or b i 0) (sym j6),
        h 7 (omega arith) ∙ ap (λ (i : ℕ). get_or b i 0) (sym j7),
        four_on b k 4,
        four_on b (k + 4) 0,
        ap (λ (i : ℕ). little (part i 0 b)) j8,
        little_none (k + 8) b,
      )
