-- A stretch of words is zero exactly where its parts are: so it may be looked at by blocks of any width, and record by
-- record.
use Prim.Native.Nat.{ℕ, zero, suc, ◌+◌, ◌-◌, ◌*◌, ◌≤◌}
use native.Mathlib.Omega.{arith}
use mathlib.Core.Bool.{Bool, false, not, ◌&&◌, and-true, not-not}
use mathlib.Core.List.{List}
use mathlib.Core.Path.{◌≡◌, refl, sym, ap, ◌∙◌}
use borrow.Author.Tests.{eq-eqb, ne_eqb}
use lib.Bits.{bit_or, or_zero_l, or_add_and, and_le_r}
use lib.Dec.{eqb}
use lib.ListN.{get_or, drop}
use Rattle.lists.specs.First.{any, all}
use Rattle.lists.specs.Places.{places, tab}
use Rattle.lists.specs.Tests.{all_of, each_two}
use Rattle.lists.specs.Words.{is_zero_at}
use Rattle.lists.proofs.Every.{all_both, none_all, all_same, all_map}
use Rattle.lists.proofs.Places.{one_place, places_shift, places_add, every_block, drop_tab}
use Rattle.rules.specs.Fields.{numbers_of}
use Rattle.rules.specs.Regions.{region_eq, no_region, used}
use Rattle.rules.specs.declared.Region.{Region}
use Rattle.zones.specs.Layout.{region_words}
use Rattle.zones.specs.Packing.{zeros}
use Rattle.zones.specs.Records.{region_at, record_at, records_at}

-- ---- two parts
pub zeros_parts : (w : List ℕ) (k n m : ℕ) → zeros w k (n + m) ≡ (zeros w k n && zeros w (k + n) m)
zeros_parts w k n m = ap (all (is_zero_at w)) (places_add k n m) ∙ all_both (is_zero_at w) (places k n) (places (k + n) m)

-- ---- the bits that are set in any of some words: none exactly where each of them is zero
or_none : (x y : ℕ) → eqb (bit_or x y) 0 ≡ (eqb x 0 && eqb y 0)
or_none zero y = ap (λ (n : ℕ). eqb n 0) (or_zero_l y)
or_none (suc x) y =
    ne_eqb (bit_or (suc x) y) 0 (λ e. omega (arith, e, or_add_and (suc x) y, and_le_r (suc x) y))
    ∙ sym (ap (λ (b : Bool). b && eqb y 0) (ne_eqb (suc x) 0 (λ e. omega (arith, e))))

pub bits_none : (w : List ℕ) (k : ℕ) → eqb 0 0 ≡ zeros w k 0
unfolding all places
bits_none w k = refl

pub bits_more : (w : List ℕ) (k i x : ℕ) → eqb x 0 ≡ zeros w k i
    → eqb (bit_or x (get_or w (k + i) 0)) 0 ≡ zeros w k (i + 1)
bits_more w k i x inv =
    or_none x (get_or w (k + i) 0) ∙ ap (λ (b : Bool). b && is_zero_at w (k + i)) inv
    ∙ sym (zeros_parts w k i 1
    ∙ ap (λ (b : Bool). zeros w k i && b) (one_place (is_zero_at w) (k + i) ∙ and-true (is_zero_at w (k + i))))

pub bits_all : (w : List ℕ) (k i n x : ℕ) → eqb x 0 ≡ zeros w k i → i ≤ n → n ≤ i → eqb x 0 ≡ zeros w k n
bits_all w k i n x inv h l = let e : i ≡ n = omega arith in inv ∙ ap (zeros w k) e

-- ---- a loop over blocks of m words: x has the bits of the block at k, and r is the whole answer
module _ (w : List ℕ) (k e m x : ℕ) (r : Bool) (inv : zeros w k (e - k) ≡ r) (h : m ≤ e - k)
    (bits : eqb x 0 ≡ zeros w k m) where
  rest : Bool
  rest = zeros w (k + m) (e - (k + m))

  block : (eqb x 0 && rest) ≡ r
  unfolding rest
  block =
      let f : e - k ≡ m + (e - (k + m)) = omega arith in
      ap (λ (b : Bool). b && rest) bits ∙ sym (ap (zeros w k) f ∙ zeros_parts w k m (e - (k + m))) ∙ inv

  pub block_stop : (x ≡ 0 → ⊥) → false ≡ r
  block_stop f = sym (ap (λ (b : Bool). b && rest) (ne_eqb x 0 f)) ∙ block

  pub block_on : x ≡ 0 → zeros w (k + m) (e - (k + m)) ≡ r
  unfolding rest
  block_on f = sym (ap (λ (b : Bool). b && rest) (eq-eqb x 0 f)) ∙ block

-- the words that are left after the last block
pub block_end : (w : List ℕ) (k n x : ℕ) (r : Bool) → zeros w k n ≡ r → eqb x 0 ≡ zeros w k n → eqb x 0 ≡ r
block_end w k n x r inv bits = bits ∙ inv

-- ---- records
zero_record : (w : List ℕ) (k : ℕ) → zeros w k region_words ≡ not (used (region_at w k))
unfolding all places region_eq region_at numbers_of each_two all_of
zero_record w k =
    places_shift (is_zero_at w) k region_words ∙ sym (not-not (region_eq (region_at w k) no_region))

-- those of n from word b on that are past the first c are all zero exactly when their words are
pub free_zero : (w : List ℕ) (b n c : ℕ) → c ≤ n
    → not (any used (drop c (records_at w b n))) ≡ zeros w (b + c * region_words) ((n - c) * region_words)
unfolding records_at record_at
free_zero w b n c h =
    let f : ℕ → Region = record_at w b in
    none_all used (drop c (tab n f))
    ∙ ap (all (λ (r : Region). not (used r))) (drop_tab n c f h)
    ∙ all_map f (λ (r : Region). not (used r)) (places c (n - c))
    ∙ places_shift (λ i. not (used (f i))) c (n - c)
    ∙ all_same (λ i. not (used (f (c + i)))) (λ i. zeros w (b + c * region_words + i * region_words) region_words) each
    (places 0 (n - c))
    ∙ sym (every_block (is_zero_at w) region_words (b + c * region_words) (n - c))
  where
    each : (i : ℕ)
        → not (used (region_at w (b + (c + i) * region_words)))
        ≡ zeros w (b + c * region_words + i * region_words) region_words
    each i =
        let e : b + (c + i) * region_words ≡ b + c * region_words + i * region_words = omega arith in
        sym (zero_record w (b + (c + i) * region_words)) ∙ ap (λ (k : ℕ). zeros w k region_words) e
