-- Tests: taken apart, put together, and compared, by cases of true and false here, so that proofs above need none.
use Prim.Native.Nat.{ℕ, ◌≤◌, ◌<◌}
use native.Mathlib.Omega.{arith}
use mathlib.Core.Bool.{Bool, true, false, not, ◌&&◌, ◌||◌, true≢false}
use mathlib.Core.List.{List, [], ◌∷◌}
use mathlib.Core.Logic.{◌⊎◌, inl, inr}
use mathlib.Core.Path.{◌≡◌, refl, sym, ap, ap₂, ◌∙◌}
use borrow.Author.Tests.{ltb-true, leb-true, not-true, not-false, lt-ltb, le-ltb, le-leb, lt-leb, eq-eqb, ne_eqb}
use lib.Dec.{ltb, leb}
use lib.ListN.{length}
use Rattle.lists.specs.Tests.{all_of, each_two}

-- ---- two tests
pub both_true : (a b : Bool) → (a && b) ≡ true → (a ≡ true) × (b ≡ true)
both_true true b e = (refl, e)
both_true false b e = absurd (true≢false (sym e))

pub true_both : (a b : Bool) → a ≡ true → b ≡ true → (a && b) ≡ true
true_both true b e f = f
true_both false b e f = e

pub both_false : (a b : Bool) → (a || b) ≡ false → (a ≡ false) × (b ≡ false)
both_false true b e = absurd (true≢false e)
both_false false b e = (refl, e)

pub false_both : (a b : Bool) → a ≡ false → b ≡ false → (a || b) ≡ false
false_both true b e f = e
false_both false b e f = f

pub one_true : (a b : Bool) → (a || b) ≡ true → (a ≡ true) ⊎ (b ≡ true)
one_true true b e = inl refl
one_true false b e = inr e

pub or_left : (a b : Bool) → a ≡ true → (a || b) ≡ true
or_left true b e = refl
or_left false b e = absurd (true≢false (sym e))

pub or_right : (a b : Bool) → b ≡ true → (a || b) ≡ true
or_right true b e = refl
or_right false b e = e

pub not_fails : (a : Bool) → a ≡ false → not a ≡ true
not_fails a e = ap not e

pub not_holds : (a : Bool) → a ≡ true → not a ≡ false
not_holds a e = ap not e

-- a test either holds or fails
pub holds_or_fails : (t : Bool) → (t ≡ true) ⊎ (t ≡ false)
holds_or_fails true = inl refl
holds_or_fails false = inr refl

-- a test that cannot hold fails, and one that cannot fail holds
pub false_of : (t : Bool) → (t ≡ true → ⊥) → t ≡ false
false_of true f = absurd (f refl)
false_of false f = refl

pub true_of : (t : Bool) → (t ≡ false → ⊥) → t ≡ true
true_of true f = refl
true_of false f = absurd (f refl)

-- two tests are one where each holds when the other does
pub same_test : (a b : Bool) → (a ≡ true → b ≡ true) → (b ≡ true → a ≡ true) → a ≡ b
same_test true b f g = sym (f refl)
same_test false true f g = g refl
same_test false false f g = refl

pub same_leb : (a b c d : ℕ) → (a ≤ b → c ≤ d) → (c ≤ d → a ≤ b) → leb a b ≡ leb c d
same_leb a b c d f g =
    same_test (leb a b) (leb c d) (λ e. le-leb c d (f (leb-true a b e))) (λ e. le-leb a b (g (leb-true c d e)))

pub same_ltb : (a b c d : ℕ) → (a < b → c < d) → (c < d → a < b) → ltb a b ≡ ltb c d
same_ltb a b c d f g =
    same_test (ltb a b) (ltb c d) (λ e. lt-ltb c d (f (ltb-true a b e))) (λ e. lt-ltb a b (g (ltb-true c d e)))

-- ---- a list of tests
-- each of them holds: `(parts _ e).1.0` is the second
abbrev pub Holds : List Bool → Type 0
Holds [] = Unit {0}
Holds (t ∷ ts) = (t ≡ true) × Holds ts

pub parts : (ts : List Bool) → all_of ts ≡ true → Holds ts
unfolding all_of
parts [] e = tt
parts (t ∷ ts) e = let b = both_true t (all_of ts) e in (b.0, parts ts b.1)

pub whole : (ts : List Bool) → Holds ts → all_of ts ≡ true
unfolding all_of
whole [] h = refl
whole (t ∷ ts) h = true_both t (all_of ts) h.0 (whole ts h.1)

-- each two elements at one place pass: the lists are one; and a list passes with itself
module _ {A : Type 0} (t : A → A → Bool) where
  pub two_same : ((x y : A) → t x y ≡ true → x ≡ y) → (xs ys : List A) → length xs ≡ length ys
      → all_of (each_two t xs ys) ≡ true → xs ≡ ys
  unfolding all_of each_two
  two_same f [] [] l e = refl
  two_same f [] (y ∷ ys) l e = absurd (omega arith)
  two_same f (x ∷ xs) [] l e = absurd (omega arith)
  two_same f (x ∷ xs) (y ∷ ys) l e =
      let b = both_true (t x y) (all_of (each_two t xs ys)) e in
      ap₂ (λ (a : A) (r : List A). a ∷ r) (f x y b.0) (two_same f xs ys (omega arith) b.1)

  pub two_refl : ((x : A) → t x x ≡ true) → (xs : List A) → all_of (each_two t xs xs) ≡ true
  unfolding all_of each_two
  two_refl f [] = refl
  two_refl f (x ∷ xs) = true_both (t x x) (all_of (each_two t xs xs)) (f x) (two_refl f xs)

-- ---- what each return of a chain of tests answers
-- the first test fails; it holds, and the answer is that of the others; the last test is the answer
pub all_miss : (t : Bool) (ts : List Bool) → t ≡ false → false ≡ all_of (t ∷ ts)
unfolding all_of
all_miss t ts e = rw e

pub all_pass : (b t : Bool) (ts : List Bool) → t ≡ true → b ≡ all_of ts → b ≡ all_of (t ∷ ts)
unfolding all_of
all_pass b t ts e f = rw e f

pub all_last : (b t : Bool) → b ≡ t → b ≡ all_of (t ∷ [])
unfolding all_of
all_last b true e = e
all_last b false e = e

-- the test is what a call returned
pub told : (t b v : Bool) → t ≡ b → t ≡ v → b ≡ v
told t b v e f = sym e ∙ f

pub told_not : (t b v : Bool) → t ≡ b → not t ≡ v → not b ≡ v
told_not t b v e f = ap not (sym e) ∙ f

-- the code's test is the negation of what a call returned
pub told_off : (t b : Bool) → t ≡ b → not t ≡ true → b ≡ false
told_off t b e f = sym e ∙ not-true t f

pub told_on : (t b : Bool) → t ≡ b → not t ≡ false → b ≡ true
told_on t b e f = sym e ∙ not-false t f

-- a number is 0, or above it
pub none_above : (n : ℕ) → n ≡ 0 → ltb 0 n ≡ false
none_above n e = le-ltb 0 n (omega arith)

pub some_above : (n : ℕ) → (n ≡ 0 → ⊥) → ltb 0 n ≡ true
some_above n e = lt-ltb 0 n (omega arith)

pub ruleset tests =
    (told, told_not, told_off, told_on, lt-ltb, le-ltb, le-leb, lt-leb, eq-eqb, ne_eqb, none_above, some_above)

pub ruleset alternatives = (or_left, or_right, false_both, tests)

pub ruleset conjunction = (all_miss, all_last, all_pass, tests)
