-- Words of memory are written as what stands before a place, what stands there, and what stands after it: a store, a
-- move and a clearing then change the middle alone, in a counted list of records as in any other words.
use Prim.Native.Nat.{ℕ, zero, suc, ◌+◌, ◌-◌, ◌*◌, ◌≤◌, ◌<◌}
use native.Mathlib.Nat.{zero-mul, suc-mul, add-mul}
use native.Mathlib.Numerals.{add-one}
use native.Mathlib.Omega.{arith}
use mathlib.Core.Bool.{true}
use mathlib.Core.List.{List, [], ◌∷◌, ◌++◌, flat_map, append_assoc, append-nil}
use mathlib.Core.Path.{◌≡◌, refl, sym, ap, ap₂, ◌∙◌}
use borrow.Author.Tests.{eqb-true}
use lib.ListN.{length, get_or, take, drop, set, length-append, take-append-drop, length-take, length-drop, replicate}
use lib.ListN.{length-replicate, replicate-append-replicate}
use lib.Seq.{take_all, drop-cons, split_at, get_or-append-add, set_split, get_or-drop, drop-drop, take-add, set_at, take_at}
use lib.Seq.{drop_at, get_or_at, sets, sets-eq, paste, paste-zero, length_paste_head, paste-suc, take-paste, drop-paste}
use Rattle.lists.specs.First.{all}
use Rattle.lists.specs.Places.{places, tab}
use Rattle.lists.specs.Room.{room, remove_at}
use Rattle.lists.specs.Words.{part, is_zero_at, counted, closed, cleared}
use Rattle.lists.proofs.Places.{every_at, every_make, length_tab, tab_cons}
use Rattle.lists.proofs.Room.{length_removed, length_room, room_rest, room_at, room_free, room_push, room_cut}

-- ---- words between words
module _ {X : Type 0} where
  -- vs are stored over old
  pub sets_mid : (a old c vs : List X) (k : ℕ) → length a ≡ k → length old ≡ length vs
      → sets (a ++ (old ++ c)) k vs ≡ a ++ (vs ++ c)
  sets_mid a old c vs k e f =
      let l : length (a ++ (old ++ c)) ≡ length a + (length old + length c) =
      length-append a (old ++ c) ∙ ap (λ (n : ℕ). length a + n) (length-append old c) in
      let t : take k (a ++ (old ++ c)) ≡ a = take_at a (old ++ c) k e in
      let d : drop (k + length vs) ((a ++ old) ++ c) ≡ c =
      drop_at (a ++ old) c (k + length vs) (omega (arith, length-append a old)) in
      sets-eq vs (a ++ (old ++ c)) k (omega arith)
      ∙ ap₂ (λ (x y : List X). (x ++ vs) ++ y) t (ap (drop (k + length vs)) (sym (append_assoc a old c)) ∙ d)
      ∙ append_assoc a vs c

pub closed_mid : (a g s c : List ℕ) (k m e : ℕ) → length a ≡ k → length g ≡ m → k + m + length s ≡ e
    → closed (a ++ (g ++ (s ++ c))) k m e ≡ a ++ (s ++ (replicate m 0 ++ c))
unfolding closed
closed_mid a g s c k m e p q r =
    let l : List ℕ = a ++ (g ++ (s ++ c)) in
    let ds : drop (k + m) l ≡ s ++ c =
    ap (drop (k + m)) (sym (append_assoc a g (s ++ c)))
    ∙ drop_at (a ++ g) (s ++ c) (k + m) (omega (arith, length-append a g)) in
    let ts : take (e - m - k) (drop (k + m) l) ≡ s = ap (take (e - m - k)) ds ∙ take_at s c (e - m - k) (omega arith) in
    let w : l ≡ (a ++ (g ++ s)) ++ c = simp append_assoc in
    let de : drop e l ≡ c =
    ap (drop e) w ∙ drop_at (a ++ (g ++ s)) c e (omega (arith, length-append a (g ++ s), length-append g s)) in
    rw (take_at a (g ++ (s ++ c)) k p, ts, de)

-- ---- a loop that moves words down, and one that clears them
-- the loop's word k is the word m further on; d is what the words were
pub move_start : (d : List ℕ) (at m : ℕ) → d ≡ paste d at (drop (at + m) d) (at - at)
move_start d at m =
    let e : 0 ≡ at - at = omega arith in
    paste-zero d at (drop (at + m) d) ∙ ap (paste d at (drop (at + m) d)) e

pub move_on : (d t : List ℕ) (at m k : ℕ) → t ≡ paste d at (drop (at + m) d) (k - at) → at ≤ k → k + m < length d
    → set t k (get_or t (k + m) 0) ≡ paste d at (drop (at + m) d) (k + 1 - at)
move_on d t at m k inv h b =
    let j : ℕ = k - at in
    let s : List ℕ = drop (at + m) d in
    let p : List ℕ = take at d ++ take j s in
    let ls : length s ≡ length d - (at + m) = length-drop (at + m) d in
    let lp : length p ≡ at + j = length_paste_head d at s j (omega arith) (omega arith) in
    let ek : k ≡ at + j = omega arith in
    let e1 : k + m ≡ length p + m = omega arith in
    let e2 : at + j + m ≡ at + m + j = omega arith in
    let e3 : suc j ≡ k + 1 - at = omega arith in
    let r : get_or (paste d at s j) (k + m) 0 ≡ get_or s j 0 =
    ap (λ (i : ℕ). get_or (paste d at s j) i 0) e1 ∙ get_or-append-add p (drop (at + j) d) m 0 ∙ get_or-drop (at + j) d m 0
    ∙ ap (λ (i : ℕ). get_or d i 0) e2 ∙ sym (get_or-drop (at + m) d j 0) in
    ap (λ (l : List ℕ). set l k (get_or l (k + m) 0)) inv
    ∙ ap₂ (λ (i : ℕ) (x : ℕ). set (paste d at s j) i x) ek r
    ∙ paste-suc d at s j 0 (omega arith) (omega arith) ∙ ap (paste d at s) e3

pub clear_start : (d : List ℕ) (at : ℕ) → d ≡ cleared d at at
unfolding cleared
clear_start d at =
    let e : 0 ≡ at - at = omega arith in
    sym (take-append-drop at d) ∙ ap (λ (n : ℕ). take at d ++ (replicate n 0 ++ drop at d)) e

pub clear_on : (d t : List ℕ) (at k : ℕ) → t ≡ cleared d at k → at ≤ k → k < length d → set t k 0 ≡ cleared d at (k + 1)
unfolding cleared
clear_on d t at k inv h b =
    let n : ℕ = k - at in
    let p : List ℕ = take at d ++ replicate n 0 in
    let lp : length p ≡ k =
    omega (arith, length-append (take at d) (replicate n 0), length-take at d, length-replicate {A = ℕ} n 0) in
    let e : n + 1 ≡ k + 1 - at = omega arith in
    let w : take at d ++ (replicate n 0 ++ drop k d) ≡ p ++ (get_or d k 0 ∷ drop (suc k) d) =
    ap (λ (l : List ℕ). take at d ++ (replicate n 0 ++ l)) (drop-cons d k 0 b)
    ∙ sym (append_assoc (take at d) (replicate n 0) (get_or d k 0 ∷ drop (suc k) d)) in
    ap (λ (l : List ℕ). set l k 0) (inv ∙ w) ∙ set_at p (get_or d k 0) (drop (suc k) d) 0 k lp
    ∙ append_assoc (take at d) (replicate n 0) (0 ∷ drop (suc k) d)
    ∙ ap (λ (l : List ℕ). take at d ++ l)
    (sym (append_assoc (replicate n 0) (0 ∷ []) (drop (suc k) d))
    ∙ ap (λ (l : List ℕ). l ++ drop (suc k) d)
    (replicate-append-replicate n 1 0 ∙ ap (λ (i : ℕ). replicate i 0) e))
    ∙ ap (λ (i : ℕ). take at d ++ (replicate (k + 1 - at) 0 ++ drop i d)) (sym (add-one k))

-- the two together close a gap
pub move_clear : (d : List ℕ) (at m e : ℕ) → at + m ≤ e → e ≤ length d
    → cleared (paste d at (drop (at + m) d) (e - m - at)) (e - m) e ≡ closed d at m e
unfolding cleared closed
move_clear d at m e h b =
    let n : ℕ = e - m - at in
    let s : List ℕ = drop (at + m) d in
    let ls : length s ≡ length d - (at + m) = length-drop (at + m) d in
    let t : take (at + n) (paste d at s n) ≡ take at d ++ take n s = take-paste d at s n (omega arith) (omega arith) in
    let f : drop (at + n) (paste d at s n) ≡ drop (at + n) d = drop-paste d at s n (omega arith) (omega arith) in
    let e1 : e - m ≡ at + n = omega arith in
    let e2 : e ≡ (at + n) + m = omega arith in
    let e3 : e - (e - m) ≡ m = omega arith in
    let de : drop e (paste d at s n) ≡ drop e d =
    ap (λ (i : ℕ). drop i (paste d at s n)) e2
    ∙ sym (drop-drop m (at + n) (paste d at s n))
    ∙ ap (drop m) f
    ∙ drop-drop m (at + n) d
    ∙ ap (λ (i : ℕ). drop i d) (sym e2) in
    let te : take (e - m) (paste d at s n) ≡ take at d ++ take n s = ap (λ (i : ℕ). take i (paste d at s n)) e1 ∙ t in
    ap₂ (λ (x y : List ℕ). x ++ y) te (ap₂ (λ (i : ℕ) (y : List ℕ). replicate i 0 ++ y) e3 de)
    ∙ append_assoc (take at d) (take n s) (replicate m 0 ++ drop e d)

-- ---- the words of each element, end to end
module _ {A : Type 0} where
  module _ (g : A → List ℕ) where
    pub flat_append : (xs ys : List A) → flat_map g (xs ++ ys) ≡ flat_map g xs ++ flat_map g ys
    unfolding flat_map
    flat_append [] ys = refl
    flat_append (x ∷ xs) ys =
        ap (λ (l : List ℕ). g x ++ l) (flat_append xs ys) ∙ sym (append_assoc (g x) (flat_map g xs) (flat_map g ys))

    pub flat_split : (l : List A) (i : ℕ) (d : A) → i < length l
        → flat_map g l ≡ flat_map g (take i l) ++ (g (get_or l i d) ++ flat_map g (drop (suc i) l))
    unfolding flat_map
    flat_split l i d h = ap (flat_map g) (split_at l i d h) ∙ flat_append (take i l) (get_or l i d ∷ drop (suc i) l)

    pub flat_set : (l : List A) (i : ℕ) (y : A) → i < length l
        → flat_map g (set l i y) ≡ flat_map g (take i l) ++ (g y ++ flat_map g (drop (suc i) l))
    unfolding flat_map
    flat_set l i y h = ap (flat_map g) (set_split l i y h) ∙ flat_append (take i l) (y ∷ drop (suc i) l)

    module _ (m : ℕ) (wide : (x : A) → length (g x) ≡ m) where
      pub length_flat : (xs : List A) → length (flat_map g xs) ≡ length xs * m
      unfolding flat_map
      length_flat [] = sym (zero-mul m)
      length_flat (x ∷ xs) =
          omega (arith, length-append (g x) (flat_map g xs), wide x, length_flat xs, suc-mul (length xs) m)

      pub length_counted : (n : ℕ) (z : A) (xs : List A) → length (counted n z g xs) ≡ 1 + n * m
      unfolding counted
      length_counted n z xs = omega (arith, length_flat (room n z xs) ∙ ap (λ (k : ℕ). k * m) (length_room n z xs))

regroup : (a b c d : List ℕ) → (a ++ (b ++ c)) ++ d ≡ a ++ (b ++ (c ++ d))
regroup a b c d = simp append_assoc

-- ---- a counted list between other words
module _ {A : Type 0} (n : ℕ) (z : A) (g : A → List ℕ) (m : ℕ) (wide : (x : A) → length (g x) ≡ m) (pre post : List ℕ)
    (b : ℕ) (at : length pre ≡ b) (xs : List A) where
  -- the words before element i, and those after it
  unfoldable pub front : ℕ → List ℕ
  front i = pre ++ (length xs ∷ flat_map g (take i (room n z xs)))

  unfoldable pub rear : ℕ → List ℕ
  rear i = flat_map g (drop (suc i) (room n z xs)) ++ post

  length_front : (c : ℕ) (ys : List A) → length (pre ++ (c ∷ flat_map g ys)) ≡ b + 1 + length ys * m
  length_front c ys = omega (arith, length-append pre (c ∷ flat_map g ys), length_flat g m wide ys)

  pub length_front_of : (i : ℕ) → i ≤ n → length (front i) ≡ b + 1 + i * m
  unfolding front
  length_front_of i h =
      let e : length (take i (room n z xs)) ≡ i = omega (arith, length-take i (room n z xs), length_room n z xs) in
      length_front (length xs) (take i (room n z xs)) ∙ ap (λ (k : ℕ). b + 1 + k * m) e

  pub count_at_law : (d : ℕ) → get_or (pre ++ (counted n z g xs ++ post)) b d ≡ length xs
  unfolding counted
  count_at_law d = get_or_at pre (length xs) (flat_map g (room n z xs) ++ post) d b at

  pub element_at : (i : ℕ) (d : A) → i < length xs → length xs ≤ n
      → pre ++ (counted n z g xs ++ post) ≡ front i ++ (g (get_or xs i d) ++ rear i)
  unfolding counted front rear
  element_at i d h k =
      let p : List A = room n z xs in
      let e : flat_map g p ≡ flat_map g (take i p) ++ (g (get_or xs i d) ++ flat_map g (drop (suc i) p)) =
      flat_split g p i d (omega (arith, length_room n z xs))
      ∙ ap (λ (x : A). flat_map g (take i p) ++ (g x ++ flat_map g (drop (suc i) p))) (room_at n z xs i d h k) in
      ap (λ (l : List ℕ). pre ++ ((length xs ∷ l) ++ post)) e ∙ simp append_assoc

  -- the words before the first free place, and those after it
  unfoldable pub free_before : List ℕ
  free_before = pre ++ (length xs ∷ flat_map g xs)

  unfoldable pub free_after : List ℕ
  free_after = flat_map g (replicate (n - suc (length xs)) z) ++ post

  pub length_free : length free_before ≡ b + 1 + length xs * m
  unfolding free_before
  length_free = length_front (length xs) xs

  pub free_at : length xs < n → pre ++ (counted n z g xs ++ post) ≡ free_before ++ (g z ++ free_after)
  unfolding counted flat_map free_before free_after
  free_at h =
      let e : flat_map g (room n z xs) ≡ flat_map g xs ++ (g z ++ flat_map g (replicate (n - suc (length xs)) z)) =
      ap (flat_map g) (room_free n z xs h) ∙ flat_append g xs (z ∷ replicate (n - suc (length xs)) z) in
      ap (λ (l : List ℕ). pre ++ ((length xs ∷ l) ++ post)) e ∙ simp append_assoc

  -- the words of one element more there, and the count
  pub fill_free : (x : A) → length xs < n
      → set (free_before ++ (g x ++ free_after)) b (length xs + 1) ≡ pre ++ (counted n z g (xs ++ x ∷ []) ++ post)
  unfolding counted flat_map free_before free_after
  fill_free x h =
      let rest : List ℕ = flat_map g (replicate (n - suc (length xs)) z) in
      let f : flat_map g (room n z (xs ++ x ∷ [])) ≡ flat_map g xs ++ (g x ++ rest) =
      ap (flat_map g) (room_push n z xs x h) ∙ flat_append g xs (x ∷ replicate (n - suc (length xs)) z) in
      let c : length (xs ++ x ∷ []) ≡ length xs + 1 = length-append xs (x ∷ []) in
      ap (λ (l : List ℕ). set l b (length xs + 1)) (append_assoc pre (length xs ∷ flat_map g xs) (g x ++ (rest ++ post)))
      ∙ set_at pre (length xs) (flat_map g xs ++ (g x ++ (rest ++ post))) (length xs + 1) b at
      ∙ rw (f, c) (simp append_assoc)

  pub push_counted : (x : A) → length xs < n
      → set (sets (pre ++ (counted n z g xs ++ post)) (b + 1 + length xs * m) (g x)) b (length xs + 1)
      ≡ pre ++ (counted n z g (xs ++ x ∷ []) ++ post)
  push_counted x h =
      ap (λ (l : List ℕ). set (sets l (b + 1 + length xs * m) (g x)) b (length xs + 1)) (free_at h)
      ∙ ap (λ (l : List ℕ). set l b (length xs + 1))
      (sets_mid free_before (g z) free_after (g x) (b + 1 + length xs * m) length_free (wide z ∙ sym (wide x)))
      ∙ fill_free x h

  pub cut_counted : (i : ℕ) → i < length xs → length xs ≤ n → g z ≡ replicate m 0
      → set (closed (pre ++ (counted n z g xs ++ post)) (b + 1 + i * m) m (b + 1 + n * m)) b (length xs - 1)
      ≡ pre ++ (counted n z g (remove_at i xs) ++ post)
  unfolding counted flat_map front rear
  cut_counted i h k zeros =
      let p : List A = room n z xs in
      let s : List ℕ = flat_map g (drop (suc i) p) in
      let t : List ℕ = flat_map g (take i p) in
      let w : pre ++ (counted n z g xs ++ post) ≡ (pre ++ (length xs ∷ t)) ++ (g (get_or xs i z) ++ (s ++ post)) =
      element_at i z h k in
      let len : length (pre ++ (length xs ∷ t)) ≡ b + 1 + i * m = length_front_of i (omega arith) in
      let all : b + 1 + i * m + m + length s ≡ b + 1 + n * m =
      omega (
        arith,
        at,
        len,
        wide (get_or xs i z),
        ap length w,
        length-append pre (counted n z g xs ++ post),
        length-append (counted n z g xs) post,
        length_counted g m wide n z xs,
        length-append (pre ++ (length xs ∷ t)) (g (get_or xs i z) ++ (s ++ post)),
        length-append (g (get_or xs i z)) (s ++ post),
        length-append s post,
      ) in
      let f : flat_map g (room n z (remove_at i xs)) ≡ t ++ (s ++ g z) =
      ap (flat_map g) (room_cut n z xs i h k) ∙ flat_append g (take i p) (drop (suc i) p ++ (z ∷ []))
      ∙ ap (λ (l : List ℕ). t ++ l)
      (flat_append g (drop (suc i) p) (z ∷ []) ∙ ap (λ (l : List ℕ). s ++ l) (append-nil (g z))) in
      ap (λ (l : List ℕ). set (closed l (b + 1 + i * m) m (b + 1 + n * m)) b (length xs - 1)) w
      ∙ ap (λ (l : List ℕ). set l b (length xs - 1))
      (closed_mid (pre ++ (length xs ∷ t)) (g (get_or xs i z)) s post (b + 1 + i * m) m (b + 1 + n * m) len
      (wide (get_or xs i z)) all
      ∙ append_assoc pre (length xs ∷ t) (s ++ (replicate m 0 ++ post)))
      ∙ set_at pre (length xs) (t ++ (s ++ (replicate m 0 ++ post))) (length xs - 1) b at
      ∙ rw (f, zeros, length_removed xs i h)
      (ap (λ (l : List ℕ). pre ++ ((length xs - 1) ∷ l)) (sym (regroup t s (replicate m 0) post)))

-- ---- a part
module _ {A : Type 0} where
  pub part_add : (k n m : ℕ) (l : List A) → part k (n + m) l ≡ part k n l ++ part (k + n) m l
  unfolding part
  part_add k n m l = take-add n m (drop k l) ∙ ap (λ (x : List A). take n (drop k l) ++ take m x) (drop-drop n k l)

  pub part_cons : (k n : ℕ) (l : List A) (d : A) → k < length l → part k (suc n) l ≡ get_or l k d ∷ part (k + 1) n l
  unfolding part
  part_cons k n l d h =
      ap (take (suc n)) (drop-cons l k d h) ∙ ap (λ (j : ℕ). get_or l k d ∷ take n (drop j l)) (sym (add-one k))

  pub part_none : (k : ℕ) (l : List A) → part k 0 l ≡ []
  unfolding part
  part_none k l = refl

  pub part_past : (k n : ℕ) (l : List A) → length l ≤ k → part k n l ≡ []
  unfolding part
  part_past k n l h = empty (take n (drop k l)) (omega (arith, length-take n (drop k l), length-drop k l))
    where
      empty : (xs : List A) → length xs ≤ 0 → xs ≡ []
      empty [] h = refl
      empty (x ∷ xs) h = absurd (omega arith)

  pub part_all : (n : ℕ) (l : List A) → length l ≡ n → part 0 n l ≡ l
  unfolding part
  part_all n l e = take_all n l (omega arith)

  pub part_last : (k n : ℕ) (l : List A) (d : A) → k + n < length l → part k (n + 1) l ≡ part k n l ++ get_or l (k + n) d ∷ []
  part_last k n l d h =
      part_add k n 1 l
      ∙ ap (λ (x : List A). part k n l ++ x)
      (part_cons (k + n) 0 l d h ∙ ap (λ (x : List A). get_or l (k + n) d ∷ x) (part_none (k + n + 1) l))

  -- of lists one behind the other
  pub part_mid : (u v w : List A) (k n : ℕ) → length u ≡ k → length v ≡ n → part k n (u ++ (v ++ w)) ≡ v
  unfolding part
  part_mid u v w k n p q = ap (take n) (drop_at u (v ++ w) k p) ∙ take_at v w n q

  pub part_behind : (u v : List A) (m k n : ℕ) → length u ≡ m → part (m + k) n (u ++ v) ≡ part k n v
  unfolding part
  part_behind u v m k n p = ap (take n) (sym (drop-drop k m (u ++ v)) ∙ ap (drop k) (drop_at u v m p))

  pub part_tab : (k n : ℕ) (l : List A) (d : A) → k + n ≤ length l → part k n l ≡ tab n (λ i. get_or l (k + i) d)
  unfolding tab places
  part_tab k zero l d h = part_none k l
  part_tab k (suc n) l d h =
      let z : k ≡ k + 0 = omega arith in
      let step : (i : ℕ) → k + 1 + i ≡ k + suc i = λ i. omega arith in
      part_cons k n l d (omega arith)
      ∙ ap₂ (λ (x : A) (t : List A). x ∷ t) (ap (λ (j : ℕ). get_or l j d) z)
      (part_tab (k + 1) n l d (omega arith) ∙ (λ j. tab n (λ i. get_or l (step i j) d)))
      ∙ sym (tab_cons n (λ i. get_or l (k + i) d))

-- ---- zeros
pub zeros_part : (w : List ℕ) (k n : ℕ) → all (is_zero_at w) (places k n) ≡ true → k + n ≤ length w
    → part k n w ≡ replicate n 0
zeros_part w k zero e h = part_none k w
zeros_part w k (suc n) e h =
    let z : get_or w k 0 ≡ 0 = eqb-true _ _ (every_at (is_zero_at w) k (suc n) e k (omega arith) (omega arith)) in
    let f : all (is_zero_at w) (places (k + 1) n) ≡ true =
    every_make (is_zero_at w) (k + 1) n (λ i a b. every_at (is_zero_at w) k (suc n) e i (omega arith) (omega arith)) in
    part_cons k n w 0 (omega arith) ∙ ap₂ (λ (x : ℕ) (l : List ℕ). x ∷ l) z (zeros_part w (k + 1) n f (omega arith))

-- ---- the parts of a counted list
module _ {A : Type 0} (g : A → List ℕ) (m : ℕ) where
  pub parts_flat : (w : List ℕ) (n : ℕ) (f : ℕ → A) (k : ℕ) → ((i : ℕ) → i < n → part (k + i * m) m w ≡ g (f i))
      → part k (n * m) w ≡ flat_map g (tab n f)
  unfolding flat_map tab places
  parts_flat w zero f k h = ap (λ (j : ℕ). part k j w) (zero-mul m) ∙ part_none k w
  parts_flat w (suc n) f k h =
      let e : suc n * m ≡ m + n * m = omega (arith, suc-mul n m) in
      let e0 : k + 0 * m ≡ k = omega (arith, zero-mul m) in
      let first : part k m w ≡ g (f 0) = ap (λ (j : ℕ). part j m w) (sym e0) ∙ h 0 (omega arith) in
      let rest : part (k + m) (n * m) w ≡ flat_map g (tab n (λ i. f (suc i))) =
      parts_flat w n (λ i. f (suc i)) (k + m) (λ i a. next i ∙ h (suc i) (omega arith)) in
      ap (λ (j : ℕ). part k j w) e ∙ part_add k m (n * m) w ∙ ap₂ (λ (x y : List ℕ). x ++ y) first rest
      ∙ sym (ap (flat_map g) (tab_cons n f))
    where
      next : (i : ℕ) → part (k + m + i * m) m w ≡ part (k + suc i * m) m w
      next i = let e : k + m + i * m ≡ k + suc i * m = omega (arith, suc-mul i m) in ap (λ (j : ℕ). part j m w) e

  pub flat_zeros : (z : A) → g z ≡ replicate m 0 → (n : ℕ) → flat_map g (replicate n z) ≡ replicate (n * m) 0
  unfolding flat_map
  flat_zeros z e zero = ap (λ (j : ℕ). replicate j 0) (sym (zero-mul m))
  flat_zeros z e (suc n) =
      let f : m + n * m ≡ suc n * m = omega (arith, suc-mul n m) in
      ap₂ (λ (x y : List ℕ). x ++ y) e (flat_zeros z e n) ∙ replicate-append-replicate m (n * m) 0
      ∙ ap (λ (j : ℕ). replicate j 0) f

  -- the words of a counted list: its count, its elements and zeros
  pub counted_words : (n : ℕ) (z : A) → g z ≡ replicate m 0 → (xs : List A) → length xs ≤ n
      → counted n z g xs ≡ length xs ∷ (flat_map g xs ++ replicate ((n - length xs) * m) 0)
  unfolding counted
  counted_words n z e xs h =
      ap (λ (l : List A). length xs ∷ flat_map g l) (room_rest n z xs h)
      ∙ ap (λ (l : List ℕ). length xs ∷ l)
      (flat_append g xs (replicate (n - length xs) z)
      ∙ ap (λ (l : List ℕ). flat_map g xs ++ l) (flat_zeros z e (n - length xs)))

  pub parts_counted : (w : List ℕ) (k n c : ℕ) (z : A) (f : ℕ → A) → g z ≡ replicate m 0 → get_or w k 0 ≡ c → c ≤ n
      → k + (1 + n * m) ≤ length w
      → ((i : ℕ) → i < c → part (k + 1 + i * m) m w ≡ g (f i))
      → all (is_zero_at w) (places (k + 1 + c * m) ((n - c) * m)) ≡ true
      → part k (1 + n * m) w ≡ counted n z g (tab c f)
  parts_counted w k n c z f e q b len each zero_rest =
      let lt : length (tab c f) ≡ c = length_tab c f in
      let split : n * m ≡ c * m + (n - c) * m =
      (let d : n ≡ c + (n - c) = omega arith in
      ap (λ (j : ℕ). j * m) d ∙ add-mul c (n - c) m) in
      let one : 1 + n * m ≡ suc (c * m + (n - c) * m) = omega arith in
      let d : (n - length (tab c f)) * m ≡ (n - c) * m = ap (λ (j : ℕ). (n - j) * m) lt in
      ap (λ (j : ℕ). part k j w) one
      ∙ part_cons k (c * m + (n - c) * m) w 0 (omega arith)
      ∙ ap₂ (λ (x : ℕ) (l : List ℕ). x ∷ l) (q ∙ sym lt)
      (part_add (k + 1) (c * m) ((n - c) * m) w
      ∙ ap₂ (λ (x y : List ℕ). x ++ y) (parts_flat w c f (k + 1) each)
      (zeros_part w (k + 1 + c * m) ((n - c) * m) zero_rest (omega arith)
      ∙ ap (λ (j : ℕ). replicate j 0) (sym d)))
      ∙ sym (counted_words n z e (tab c f) (omega arith))
