-- Every element passes, or some one does: said of each index, so that after an element is appended, put in another's
-- place or taken out only that one is asked about.
use Prim.Native.Nat.{ℕ, zero, suc, ◌+◌, ◌-◌, ◌≤◌, ◌<◌, suc-le-suc}
use native.Mathlib.Decide.{dec_lt}
use native.Mathlib.Omega.{arith}
use mathlib.Core.Bool.{Bool, true, false, not, ◌&&◌, ◌||◌, true≢false}
use mathlib.Core.List.{List, [], ◌∷◌, ◌++◌, map}
use mathlib.Core.Logic.{⊎_elim}
use mathlib.Core.Path.{◌≡◌, refl, sym, ap, ap₂, ◌∙◌}
use lib.ListN.{length, get_or, take, drop, set, replicate, length-take, length-drop, length-replicate, get_or-replicate}
use lib.ListN.{get_or-eq_default}
use lib.Seq.{get_or-take, get_or-drop}
use Rattle.lists.specs.First.{any, all}
use Rattle.lists.specs.Room.{remove_at}
use Rattle.lists.proofs.Tests.{both_true, true_both, both_false, false_both, one_true, or_left, or_right}

module _ {A : Type 0} (p : A → Bool) where
  -- ---- every element, one by one
  pub all_at : (xs : List A) (d : A) → all p xs ≡ true → (i : ℕ) → i < length xs → p (get_or xs i d) ≡ true
  unfolding all
  all_at [] d e i h = absurd (omega arith)
  all_at (x ∷ xs) d e zero h = (both_true (p x) (all p xs) e).0
  all_at (x ∷ xs) d e (suc i) h = all_at xs d (both_true (p x) (all p xs) e).1 i (omega arith)

  pub all_make : (xs : List A) (d : A) → ((i : ℕ) → i < length xs → p (get_or xs i d) ≡ true) → all p xs ≡ true
  unfolding all
  all_make [] d f = refl
  all_make (x ∷ xs) d f =
      true_both (p x) (all p xs) (f 0 (omega arith)) (all_make xs d (λ i h. f (suc i) (suc-le-suc h)))

  -- the elements below n, and those from n on, where what stands past the end passes too
  pub all_below : (xs : List A) (d : A) (n : ℕ) → p d ≡ true → all p (take n xs) ≡ true → (i : ℕ) → i < n
      → p (get_or xs i d) ≡ true
  all_below xs d n past e i h =
      elim (dec_lt i (length xs)) [
        | yes l ↦ ap p (sym (get_or-take n xs i d h)) ∙ all_at (take n xs) d e i (omega (arith, length-take n xs))
        | no l ↦ ap p (get_or-eq_default xs d (omega arith)) ∙ past
      ]

  pub all_below_make : (xs : List A) (d : A) (n : ℕ) → ((i : ℕ) → i < n → p (get_or xs i d) ≡ true)
      → all p (take n xs) ≡ true
  all_below_make xs d n f =
      all_make (take n xs) d
      (λ i h. let l : i < n = omega (arith, length-take n xs) in ap p (get_or-take n xs i d l) ∙ f i l)

  pub all_beyond : (xs : List A) (d : A) (n : ℕ) → p d ≡ true → all p (drop n xs) ≡ true → (i : ℕ) → n ≤ i
      → p (get_or xs i d) ≡ true
  all_beyond xs d n past e i h =
      let k : n + (i - n) ≡ i = omega arith in
      elim (dec_lt i (length xs)) [
        | yes l ↦ ap (λ (j : ℕ). p (get_or xs j d)) (sym k) ∙ ap p (sym (get_or-drop n xs (i - n) d))
            ∙ all_at (drop n xs) d e (i - n) (omega (arith, length-drop n xs))
        | no l ↦ ap p (get_or-eq_default xs d (omega arith)) ∙ past
      ]

  pub all_beyond_make : (xs : List A) (d : A) (n : ℕ) → ((i : ℕ) → n ≤ i → p (get_or xs i d) ≡ true)
      → all p (drop n xs) ≡ true
  all_beyond_make xs d n f = all_make (drop n xs) d (λ i h. ap p (get_or-drop n xs i d) ∙ f (n + i) (omega arith))

  pub all_one : (x : A) → p x ≡ true → all p (x ∷ []) ≡ true
  unfolding all
  all_one x e = true_both (p x) true e refl

  -- ---- after a change
  pub all_append : (xs ys : List A) → all p xs ≡ true → all p ys ≡ true → all p (xs ++ ys) ≡ true
  unfolding all
  all_append [] ys e f = f
  all_append (x ∷ xs) ys e f =
      let b = both_true (p x) (all p xs) e in
      true_both (p x) (all p (xs ++ ys)) b.0 (all_append xs ys b.1 f)

  pub all_both : (xs ys : List A) → all p (xs ++ ys) ≡ (all p xs && all p ys)
  unfolding all
  all_both [] ys = refl
  all_both (x ∷ xs) ys = by (p x) (all_both xs ys)
    where
      by : (t : Bool) → all p (xs ++ ys) ≡ (all p xs && all p ys)
          → (t && all p (xs ++ ys)) ≡ ((t && all p xs) && all p ys)
      by true e = e
      by false e = refl

  pub all_left : (xs ys : List A) → all p (xs ++ ys) ≡ true → all p xs ≡ true
  unfolding all
  all_left [] ys e = refl
  all_left (x ∷ xs) ys e =
      let b = both_true (p x) (all p (xs ++ ys)) e in
      true_both (p x) (all p xs) b.0 (all_left xs ys b.1)

  pub all_right : (xs ys : List A) → all p (xs ++ ys) ≡ true → all p ys ≡ true
  unfolding all
  all_right [] ys e = e
  all_right (x ∷ xs) ys e = all_right xs ys (both_true (p x) (all p (xs ++ ys)) e).1

  pub all_set : (xs : List A) (k : ℕ) (v : A) → all p xs ≡ true → p v ≡ true → all p (set xs k v) ≡ true
  unfolding all
  all_set [] k v e f = refl
  all_set (x ∷ xs) zero v e f = true_both (p v) (all p xs) f (both_true (p x) (all p xs) e).1
  all_set (x ∷ xs) (suc k) v e f =
      let b = both_true (p x) (all p xs) e in
      true_both (p x) (all p (set xs k v)) b.0 (all_set xs k v b.1 f)

  pub all_removed : (xs : List A) (k : ℕ) → all p xs ≡ true → all p (remove_at k xs) ≡ true
  unfolding all remove_at
  all_removed [] zero e = refl
  all_removed [] (suc k) e = refl
  all_removed (x ∷ xs) zero e = (both_true (p x) (all p xs) e).1
  all_removed (x ∷ xs) (suc k) e =
      let b = both_true (p x) (all p xs) e in
      true_both (p x) (all p (remove_at k xs)) b.0 (all_removed xs k b.1)

  -- ---- some element
  pub any_make : (xs : List A) (d : A) (i : ℕ) → i < length xs → p (get_or xs i d) ≡ true → any p xs ≡ true
  unfolding any
  any_make [] d i h e = absurd (omega arith)
  any_make (x ∷ xs) d zero h e = or_left (p x) (any p xs) e
  any_make (x ∷ xs) d (suc i) h e = or_right (p x) (any p xs) (any_make xs d i (omega arith) e)

  pub any_at : (xs : List A) (d : A) → any p xs ≡ true → (i : ℕ) × (i < length xs) × (p (get_or xs i d) ≡ true)
  unfolding any
  any_at [] d e = absurd (true≢false (sym e))
  any_at (x ∷ xs) d e = ⊎_elim (λ a. (0, omega arith, a)) (λ b. later (any_at xs d b)) (one_true (p x) (any p xs) e)
    where
      later : ((i : ℕ) × (i < length xs) × (p (get_or xs i d) ≡ true))
          → (i : ℕ) × (i < length (x ∷ xs)) × (p (get_or (x ∷ xs) i d) ≡ true)
      later (i, h, q) = (suc i, suc-le-suc h, q)

  pub none_at : (xs : List A) (d : A) → any p xs ≡ false → (i : ℕ) → i < length xs → p (get_or xs i d) ≡ false
  unfolding any
  none_at [] d e i h = absurd (omega arith)
  none_at (x ∷ xs) d e zero h = (both_false (p x) (any p xs) e).0
  none_at (x ∷ xs) d e (suc i) h = none_at xs d (both_false (p x) (any p xs) e).1 i (omega arith)

  pub none_make : (xs : List A) (d : A) → ((i : ℕ) → i < length xs → p (get_or xs i d) ≡ false) → any p xs ≡ false
  unfolding any
  none_make [] d f = refl
  none_make (x ∷ xs) d f =
      false_both (p x) (any p xs) (f 0 (omega arith)) (none_make xs d (λ i h. f (suc i) (suc-le-suc h)))

  -- none but element k passes: each other one fails
  pub none_others : (xs : List A) (k : ℕ) (d : A) → any p (remove_at k xs) ≡ false → (j : ℕ) → j < length xs
      → (j ≡ k → ⊥) → p (get_or xs j d) ≡ false
  unfolding any remove_at
  none_others [] k d e j h ne = absurd (omega arith)
  none_others (x ∷ xs) zero d e zero h ne = absurd (ne refl)
  none_others (x ∷ xs) zero d e (suc j) h ne = none_at xs d e j (omega arith)
  none_others (x ∷ xs) (suc k) d e zero h ne = (both_false (p x) (any p (remove_at k xs)) e).0
  none_others (x ∷ xs) (suc k) d e (suc j) h ne =
      none_others xs k d (both_false (p x) (any p (remove_at k xs)) e).1 j (omega arith) (λ q. ne (ap suc q))

  pub none_others_make : (xs : List A) (k : ℕ) (d : A)
      → ((j : ℕ) → j < length xs → (j ≡ k → ⊥) → p (get_or xs j d) ≡ false) → any p (remove_at k xs) ≡ false
  unfolding any remove_at
  none_others_make [] zero d f = refl
  none_others_make [] (suc k) d f = refl
  none_others_make (x ∷ xs) zero d f = none_make xs d (λ i h. f (suc i) (suc-le-suc h) (λ e. omega arith))
  none_others_make (x ∷ xs) (suc k) d f =
      false_both (p x) (any p (remove_at k xs)) (f 0 (omega arith) (λ e. omega arith))
      (none_others_make xs k d (λ j h ne. f (suc j) (suc-le-suc h) (λ e. ne (omega arith))))

  pub any_append : (xs ys : List A) → any p (xs ++ ys) ≡ (any p xs || any p ys)
  unfolding any
  any_append [] ys = refl
  any_append (x ∷ xs) ys = by (p x) (any_append xs ys)
    where
      by : (t : Bool) → any p (xs ++ ys) ≡ (any p xs || any p ys)
          → (t || any p (xs ++ ys)) ≡ ((t || any p xs) || any p ys)
      by true e = refl
      by false e = e

  -- that none passes is that every one fails
  pub none_all : (xs : List A) → not (any p xs) ≡ all (λ (x : A). not (p x)) xs
  unfolding any all
  none_all [] = refl
  none_all (x ∷ xs) = by (p x) (none_all xs)
    where
      by : (t : Bool) → not (any p xs) ≡ all (λ (y : A). not (p y)) xs
          → not (t || any p xs) ≡ (not t && all (λ (y : A). not (p y)) xs)
      by true e = refl
      by false e = e

-- some element passes one of two tests; a test that does not look at the element stands outside
pub any_or : {A : Type 0} (p q : A → Bool) (xs : List A) → (any p xs || any q xs) ≡ any (λ (x : A). p x || q x) xs
unfolding any
any_or p q [] = refl
any_or p q (x ∷ xs) = swap (p x) (any p xs) (q x) (any q xs) ∙ ap (λ (t : Bool). (p x || q x) || t) (any_or p q xs)
  where
    swap : (a b c d : Bool) → ((a || b) || (c || d)) ≡ ((a || c) || (b || d))
    swap true b c d = refl
    swap false true true d = refl
    swap false true false d = refl
    swap false false c d = refl

pub any_and : {A : Type 0} (b : Bool) (p : A → Bool) (xs : List A) → any (λ (x : A). b && p x) xs ≡ (b && any p xs)
unfolding any
any_and true p xs = refl
any_and false p [] = refl
any_and false p (x ∷ xs) = any_and false p xs

-- two tests that agree at every element that passes a third
pub any_under : {A : Type 0} (c p q : A → Bool) → ((x : A) → c x ≡ true → p x ≡ q x) → (xs : List A) → all c xs ≡ true
    → any p xs ≡ any q xs
unfolding any all
any_under c p q f [] e = refl
any_under c p q f (x ∷ xs) e =
    let b = both_true (c x) (all c xs) e in
    ap (λ (t : Bool). t || any p xs) (f x b.0) ∙ ap (λ (t : Bool). q x || t) (any_under c p q f xs b.1)

-- element k, or one of the others
pub any_split : {A : Type 0} (p : A → Bool) (xs : List A) (k : ℕ) (d : A) → k < length xs
    → any p xs ≡ (p (get_or xs k d) || any p (remove_at k xs))
unfolding any remove_at
any_split p [] k d h = absurd (omega arith)
any_split p (x ∷ xs) zero d h = refl
any_split p (x ∷ xs) (suc k) d h =
    ap (λ (t : Bool). p x || t) (any_split p xs k d (omega arith))
    ∙ swap (p x) (p (get_or xs k d)) (any p (remove_at k xs))
  where
    swap : (a b c : Bool) → (a || (b || c)) ≡ (b || (a || c))
    swap true true c = refl
    swap true false c = refl
    swap false true c = refl
    swap false false c = refl

-- what follows at each element from two tests that every element passes
pub all_from : {A : Type 0} (p q w : A → Bool) → ((x : A) → p x ≡ true → q x ≡ true → w x ≡ true) → (xs : List A)
    → all p xs ≡ true → all q xs ≡ true → all w xs ≡ true
unfolding all
all_from p q w f [] d e = refl
all_from p q w f (x ∷ xs) d e =
    let a = both_true (p x) (all p xs) d in
    let b = both_true (q x) (all q xs) e in
    true_both (w x) (all w xs) (f x a.0 b.0) (all_from p q w f xs a.1 b.1)

-- two tests that agree at every element
pub all_same : {A : Type 0} (p q : A → Bool) → ((x : A) → p x ≡ q x) → (xs : List A) → all p xs ≡ all q xs
unfolding all
all_same p q f [] = refl
all_same p q f (x ∷ xs) = ap (λ (t : Bool). t && all p xs) (f x) ∙ ap (λ (t : Bool). q x && t) (all_same p q f xs)

-- the image of a list
pub all_map : {A B : Type 0} (f : A → B) (p : B → Bool) (xs : List A) → all p (map f xs) ≡ all (λ (x : A). p (f x)) xs
unfolding all
all_map f p [] = refl
all_map f p (x ∷ xs) = ap (λ (t : Bool). p (f x) && t) (all_map f p xs)

-- as many of one
pub all_replicate : {A : Type 0} (p : A → Bool) (n : ℕ) (x : A) → p x ≡ true → all p (replicate n x) ≡ true
all_replicate p n x e =
    all_make p (replicate n x) x (λ i h. ap p (get_or-replicate n i x x (omega (arith, length-replicate n x))) ∙ e)

-- an image that is read back
pub map_back : {A B : Type 0} (p : A → Bool) (f : A → B) (g : B → A) → ((x : A) → p x ≡ true → g (f x) ≡ x)
    → (xs : List A) → all p xs ≡ true → map g (map f xs) ≡ xs
unfolding all
map_back p f g back [] e = refl
map_back {A = A} p f g back (x ∷ xs) e =
    let h = both_true (p x) (all p xs) e in
    ap₂ (λ (y : A) (ys : List A). y ∷ ys) (back x h.0) (map_back p f g back xs h.1)
