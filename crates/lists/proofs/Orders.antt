-- Numbers below n that differ are n at most, since without the highest they are numbers below n - 1 that differ; so n
-- of them are all there are, and what is so of any two of them, in whatever order, is so of any two below n.
use Prim.Native.Nat.{ℕ, zero, suc, ◌+◌, ◌≤◌, ◌<◌}
use native.Mathlib.Decide.{dec_lt}
use native.Mathlib.Omega.{arith}
use mathlib.Core.Bool.{Bool, true, false, cond, not}
use mathlib.Core.List.{List, [], ◌∷◌, ◌++◌, map}
use mathlib.Core.Path.{◌≡◌, refl, sym, ap, ap₂, ◌∙◌}
use borrow.Author.Tests.{ltb-true, eqb-true, eqb-false, not-true, not-false, lt-ltb}
use lib.Dec.{ltb, eqb}
use lib.ListN.{length, get_or, length-map, get_or-map}
use Rattle.lists.specs.First.{first_index, any, all}
use Rattle.lists.specs.Orders.{keep, is_below, differ, Among}
use Rattle.lists.specs.Pairs.{pairwise}
use Rattle.lists.specs.Places.{places, tab}
use Rattle.lists.specs.Room.{remove_at}
use Rattle.lists.proofs.Every.{all_at, all_make, none_at, none_others_make}
use Rattle.lists.proofs.First.{first_passes, before_fails}
use Rattle.lists.proofs.Pairs.{pairs_at, pairs_make, pairs_removed}
use Rattle.lists.proofs.Places.{length_places, get_d_places, length_tab, get_d_tab}
use Rattle.lists.proofs.Room.{length_removed}
use Rattle.lists.proofs.Tests.{true_both, not_holds, not_fails, same_test}

-- ---- the elements that pass
module _ {A : Type 0} (p : A → Bool) where
  pub keep_all : (xs : List A) → all p (keep p xs) ≡ true
  unfolding keep all
  keep_all [] = refl
  keep_all (x ∷ xs) = by (p x) refl (keep_all xs)
    where
      by : (t : Bool) → p x ≡ t → all p (keep p xs) ≡ true → all p (keep p (x ∷ xs)) ≡ true
      by true e f = rw e (true_both (p x) (all p (keep p xs)) e f)
      by false e f = rw e f

  pub keep_hit : (x : A) (xs : List A) → p x ≡ true → keep p (x ∷ xs) ≡ x ∷ keep p xs
  unfolding keep
  keep_hit x xs e = rw e

  pub keep_pass : (x : A) (xs : List A) → p x ≡ false → keep p (x ∷ xs) ≡ keep p xs
  unfolding keep
  keep_pass x xs e = rw e

  pub keep_append : (xs ys : List A) → keep p (xs ++ ys) ≡ keep p xs ++ keep p ys
  unfolding keep
  keep_append [] ys = refl
  keep_append (x ∷ xs) ys = by (p x) (keep_append xs ys)
    where
      by : (t : Bool) → keep p (xs ++ ys) ≡ keep p xs ++ keep p ys
          → cond t (x ∷ keep p (xs ++ ys)) (keep p (xs ++ ys)) ≡ cond t (x ∷ keep p xs) (keep p xs) ++ keep p ys
      by true e = ap (λ (l : List A). x ∷ l) e
      by false e = e

-- ---- numbers that differ
pub low_at : (n : ℕ) (ps : List ℕ) → all (is_below n) ps ≡ true → (a : ℕ) → a < length ps → get_or ps a 0 < n
unfolding is_below
low_at n ps e a h = ltb-true _ _ (all_at (is_below n) ps 0 e a h)

pub differ_at : (ps : List ℕ) → pairwise differ ps ≡ true → (a b : ℕ) → a < b → b < length ps
    → get_or ps a 0 ≡ get_or ps b 0 → ⊥
unfolding differ
differ_at ps e a b h l = eqb-false _ _ (not-true _ (pairs_at differ ps 0 e a b h l))

pub differ_both : (ps : List ℕ) → pairwise differ ps ≡ true → (a b : ℕ) → a < length ps → b < length ps → (a ≡ b → ⊥)
    → get_or ps a 0 ≡ get_or ps b 0 → ⊥
differ_both ps e a b h l ne q =
    elim (dec_lt a b) [ yes c ↦ differ_at ps e a b c l q | no c ↦ differ_at ps e b a (omega arith) h (sym q) ]

few : (n : ℕ) (ps : List ℕ) → all (is_below n) ps ≡ true → pairwise differ ps ≡ true → length ps ≤ n
unfolding is_below
few zero [] low d = omega arith
few zero (p ∷ ps) low d = absurd (let h : p < 0 = low_at 0 (p ∷ ps) low 0 (omega arith) in omega arith)
few (suc n) ps low d =
    elim (dec_lt (first_index (eqb n) ps) (length ps)) [
      | yes h ↦
          (let l : length (remove_at (first_index (eqb n) ps) ps) ≤ n = few n
          (remove_at (first_index (eqb n) ps) ps) (others h) (pairs_removed differ ps (first_index (eqb n) ps) d) in
          omega (arith, length_removed ps (first_index (eqb n) ps) h))
      | no h ↦ (let l : length ps ≤ n = few n ps (lower (omega arith)) d in omega arith)
    ]
  where
    smaller : (j : ℕ) → j < length ps → (get_or ps j 0 ≡ n → ⊥) → is_below n (get_or ps j 0) ≡ true
    smaller j h ne = let l : get_or ps j 0 < suc n = low_at (suc n) ps low j h in lt-ltb (get_or ps j 0) n (omega arith)

    others : first_index (eqb n) ps < length ps → all (is_below n) (remove_at (first_index (eqb n) ps) ps) ≡ true
    others h =
        let e : n ≡ get_or ps (first_index (eqb n) ps) 0 = eqb-true _ _ (first_passes (eqb n) ps 0 h) in
        let none : any (λ (p : ℕ). not (is_below n p)) (remove_at (first_index (eqb n) ps) ps) ≡ false =
        none_others_make (λ (p : ℕ). not (is_below n p)) ps (first_index (eqb n) ps) 0
        (λ j l ne. not_holds _ (smaller j l (λ q. differ_both ps d j (first_index (eqb n) ps) l h ne (q ∙ e)))) in
        all_make (is_below n) (remove_at (first_index (eqb n) ps) ps) 0
        (λ i l. not-false _ (none_at (λ (p : ℕ). not (is_below n p)) (remove_at (first_index (eqb n) ps) ps) 0 none i l))

    lower : length ps ≤ first_index (eqb n) ps → all (is_below n) ps ≡ true
    lower h =
        all_make (is_below n) ps 0
        (λ j l. smaller j l (λ q. eqb-false _ _ (before_fails (eqb n) ps 0 j (omega arith)) (sym q)))

-- n numbers below n that differ are all there are; so are the numbers in a row
pub all_there : (n : ℕ) (ps : List ℕ) → all (is_below n) ps ≡ true → pairwise differ ps ≡ true → length ps ≡ n
    → Among ps n
unfolding all pairwise is_below differ
all_there n ps low d e i h =
    elim (dec_lt (first_index (eqb i) ps) (length ps)) [
      | yes l ↦ (first_index (eqb i) ps, l, sym (eqb-true _ _ (first_passes (eqb i) ps 0 l)))
      | no l ↦ absurd (let m : length (i ∷ ps) ≤ n = few n (i ∷ ps) first (apart (omega arith)) in omega arith)
    ]
  where
    first : all (is_below n) (i ∷ ps) ≡ true
    first = true_both (ltb i n) _ (lt-ltb i n h) low

    apart : length ps ≤ first_index (eqb i) ps → pairwise differ (i ∷ ps) ≡ true
    apart l =
        true_both _ _ (all_make (differ i) ps 0 (λ j k. not_fails _ (before_fails (eqb i) ps 0 j (omega arith)))) d

pub row_there : (n : ℕ) → Among (places 0 n) n
row_there n i h =
    let e : 0 + i ≡ i = omega arith in
    (i, omega (arith, length_places 0 n), get_d_places 0 n i 0 h ∙ e)

-- ---- what is so of any two, whichever comes first, does not depend on the order
module _ {A : Type 0} (r : A → A → Bool) (same : (x y : A) → r x y ≡ r y x) (f : ℕ → A) where
  pub pair_of : (ps : List ℕ) (n : ℕ) → Among ps n → pairwise r (map f ps) ≡ true → (i j : ℕ) → i < n → j < n
      → (i ≡ j → ⊥) → r (f i) (f j) ≡ true
  pair_of ps n there e i j h l ne =
      let (a, ha, qa) = there i h in
      let (b, hb, qb) = there j l in
      ap₂ r (ap f (sym qa)) (ap f (sym qb)) ∙ at a b ha hb (λ q. ne (sym qa ∙ ap (λ (k : ℕ). get_or ps k 0) q ∙ qb))
    where
      ordered : (a b : ℕ) → a < b → b < length ps → r (f (get_or ps a 0)) (f (get_or ps b 0)) ≡ true
      ordered a b q s =
          ap₂ r (sym (get_or-map f ps a 0)) (sym (get_or-map f ps b 0))
          ∙ pairs_at r (map f ps) (f 0) e a b q (omega (arith, length-map ps f))

      at : (a b : ℕ) → a < length ps → b < length ps → (a ≡ b → ⊥) → r (f (get_or ps a 0)) (f (get_or ps b 0)) ≡ true
      at a b ha hb q =
          elim (dec_lt a b) [ yes c ↦ ordered a b c hb | no c ↦ same _ _ ∙ ordered b a (omega arith) ha ]

  pub any_order : (ps : List ℕ) (n : ℕ) → all (is_below n) ps ≡ true → pairwise differ ps ≡ true → length ps ≡ n
      → pairwise r (map f ps) ≡ pairwise r (tab n f)
  any_order ps n low d len =
      same_test (pairwise r (map f ps)) (pairwise r (tab n f)) to_row from_row
    where
      to_row : pairwise r (map f ps) ≡ true → pairwise r (tab n f) ≡ true
      to_row e =
          pairs_make r (tab n f) (f 0)
          (λ i j h l.
          let m : j < n = omega (arith, length_tab n f) in
          ap₂ r (get_d_tab n f i (f 0) (omega arith)) (get_d_tab n f j (f 0) m)
          ∙ pair_of ps n (all_there n ps low d len) e i j (omega arith) m (λ q. omega arith))

      of_row : pairwise r (tab n f) ≡ true → (i j : ℕ) → i < j → j < n → r (f i) (f j) ≡ true
      of_row e i j h l =
          ap₂ r (sym (get_d_tab n f i (f 0) (omega arith))) (sym (get_d_tab n f j (f 0) l))
          ∙ pairs_at r (tab n f) (f 0) e i j h (omega (arith, length_tab n f))

      either_way : pairwise r (tab n f) ≡ true → (i j : ℕ) → i < n → j < n → (i ≡ j → ⊥) → r (f i) (f j) ≡ true
      either_way e i j h l ne =
          elim (dec_lt i j) [ yes c ↦ of_row e i j c l | no c ↦ same _ _ ∙ of_row e j i (omega arith) h ]

      from_row : pairwise r (tab n f) ≡ true → pairwise r (map f ps) ≡ true
      from_row e =
          pairs_make r (map f ps) (f 0)
          (λ a b h l.
          let m : b < length ps = omega (arith, length-map ps f) in
          ap₂ r (get_or-map f ps a 0) (get_or-map f ps b 0)
          ∙ either_way e (get_or ps a 0) (get_or ps b 0) (low_at n ps low a (omega arith)) (low_at n ps low b m)
          (differ_at ps d a b h m))
