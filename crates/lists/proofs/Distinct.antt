-- Lists in which no element stands twice, by a test of equality: such a list is no longer than one that has all its
-- elements, since one of them at a time is taken out of both.
use Prim.Native.Nat.{ℕ, suc, ◌≤◌, ◌<◌}
use native.Mathlib.Omega.{arith}
use mathlib.Core.Bool.{Bool, true, false, cond, not, ◌&&◌, ◌||◌, true≢false}
use mathlib.Core.List.{List, [], ◌∷◌, ◌++◌}
use mathlib.Core.Path.{◌≡◌, refl, sym, ap, ap₂, ◌∙◌}
use borrow.Author.Tests.{ltb-true}
use lib.ListN.{length, get_or}
use Rattle.lists.specs.First.{first_index, any}
use Rattle.lists.specs.Orders.{keep}
use Rattle.lists.specs.Room.{remove_at}
use Rattle.lists.proofs.Every.{any_append, any_split}
use Rattle.lists.proofs.First.{any_first, first_passes}
use Rattle.lists.proofs.Orders.{keep_hit, keep_pass}
use Rattle.lists.proofs.Room.{length_removed}
use Rattle.lists.proofs.Tests.{both_false, false_both, or_left, or_right, not_fails, same_test}

-- the test says yes exactly of equals
pub record Decides {A : Type 0} (same : A → A → Bool) : Type 0 where
  pub equal : (a b : A) → same a b ≡ true → a ≡ b
  pub itself : (a : A) → same a a ≡ true

-- no element stands twice
abbrev pub Distinct : {A : Type 0} → (A → A → Bool) → List A → Type 0
Distinct same [] = Unit {0}
Distinct same (x ∷ xs) = (any (same x) xs ≡ false) × Distinct same xs

module _ {A : Type 0} {same : A → A → Bool} (eq : Decides same) where
  -- ---- which elements a list has
  pub in_head : (x : A) (xs : List A) → any (same x) (x ∷ xs) ≡ true
  unfolding any
  in_head x xs = or_left (same x x) (any (same x) xs) (eq.itself x)

  pub in_tail : (a x : A) (xs : List A) → any (same a) xs ≡ true → any (same a) (x ∷ xs) ≡ true
  unfolding any
  in_tail a x xs e = or_right (same a x) (any (same a) xs) e

  pub same_turned : (a b : A) → same a b ≡ same b a
  same_turned a b =
      same_test (same a b) (same b a) (λ e. ap (same b) (eq.equal a b e) ∙ eq.itself b)
      (λ e. ap (same a) (eq.equal b a e) ∙ eq.itself a)

  pub in_keep : (p : A → Bool) (a : A) (xs : List A) → any (same a) (keep p xs) ≡ (any (same a) xs && p a)
  unfolding any keep
  in_keep p a [] = refl
  in_keep p a (x ∷ xs) = by (in_keep p a xs) (p x) refl (same a x) refl
    where
      off : (u v : Bool) → v ≡ false → (u && v) ≡ v
      off true v h = refl
      off false true h = absurd (true≢false h)
      off false false h = refl

      by : any (same a) (keep p xs) ≡ (any (same a) xs && p a) → (b : Bool) → p x ≡ b → (d : Bool) → same a x ≡ d
          → any (same a) (cond b (x ∷ keep p xs) (keep p xs)) ≡ ((d || any (same a) xs) && p a)
      by f true e true q = ap (λ (t : Bool). t || any (same a) (keep p xs)) q ∙ sym (ap p (eq.equal a x q) ∙ e)
      by f true e false q = ap (λ (t : Bool). t || any (same a) (keep p xs)) q ∙ f
      by f false e true q = f ∙ off (any (same a) xs) (p a) (ap p (eq.equal a x q) ∙ e)
      by f false e false q = f

  -- ---- what is kept
  -- two tests that agree at every element
  pub keep_under : (p q : A → Bool) (xs : List A) → ((a : A) → any (same a) xs ≡ true → p a ≡ q a)
      → keep p xs ≡ keep q xs
  unfolding keep
  keep_under p q [] f = refl
  keep_under p q (x ∷ xs) f =
      ap₂ (λ (b : Bool) (l : List A). cond b (x ∷ l) l) (f x (in_head x xs))
      (keep_under p q xs (λ a h. f a (in_tail a x xs h)))

  -- a test that no element passes
  pub keep_nothing : (p : A → Bool) (xs : List A) → ((a : A) → any (same a) xs ≡ true → p a ≡ false) → keep p xs ≡ []
  unfolding keep
  keep_nothing p [] f = refl
  keep_nothing p (x ∷ xs) f =
      keep_pass p x xs (f x (in_head x xs)) ∙ keep_nothing p xs (λ a h. f a (in_tail a x xs h))

  -- ---- no element twice
  pub distinct_keep : (p : A → Bool) (xs : List A) → Distinct same xs → Distinct same (keep p xs)
  unfolding keep
  distinct_keep p [] d = tt
  distinct_keep p (x ∷ xs) d = by (distinct_keep p xs d.1) (p x)
    where
      by : Distinct same (keep p xs) → (b : Bool) → Distinct same (cond b (x ∷ keep p xs) (keep p xs))
      by f true = (in_keep p x xs ∙ ap (λ (t : Bool). t && p x) d.0, f)
      by f false = f

  pub distinct_append : (xs ys : List A) → Distinct same xs → Distinct same ys
      → ((a : A) → any (same a) xs ≡ true → any (same a) ys ≡ false) → Distinct same (xs ++ ys)
  distinct_append [] ys d e f = e
  distinct_append (x ∷ xs) ys d e f = (
    any_append (same x) xs ys ∙ false_both _ _ d.0 (f x (in_head x xs)),
    distinct_append xs ys d.1 e (λ a h. f a (in_tail a x xs h)),
  )

  -- no longer than a list that has all its elements
  pub no_longer : (d : A) (xs ys : List A) → Distinct same xs
      → ((a : A) → any (same a) xs ≡ true → any (same a) ys ≡ true) → length xs ≤ length ys
  no_longer d [] ys dist f = omega arith
  no_longer d (x ∷ xs) ys dist f =
      let i : ℕ = first_index (same x) ys in
      let h : first_index (same x) ys < length ys =
      ltb-true _ _ (sym (any_first (same x) ys) ∙ f x (in_head x xs)) in
      let at : x ≡ get_or ys (first_index (same x) ys) d = eq.equal x _ (first_passes (same x) ys d h) in
      let rest : length xs ≤ length (remove_at (first_index (same x) ys) ys) =
      no_longer d xs (remove_at (first_index (same x) ys) ys) dist.1
      (λ a e. other a (same a (get_or ys (first_index (same x) ys) d)) refl
      (any (same a) (remove_at (first_index (same x) ys) ys)) e at
      (sym (any_split (same a) ys (first_index (same x) ys) d h) ∙ f a (in_tail a x xs e))) in
      omega (arith, length_removed ys (first_index (same x) ys) h)
    where
      other : (a : A) (b : Bool) → same a (get_or ys (first_index (same x) ys) d) ≡ b → (u : Bool)
          → any (same a) xs ≡ true → x ≡ get_or ys (first_index (same x) ys) d
          → (same a (get_or ys (first_index (same x) ys) d) || u) ≡ true → u ≡ true
      other a true q u e at g =
          absurd (true≢false (sym e ∙ ap (λ (z : A). any (same z) xs) (eq.equal a _ q ∙ sym at) ∙ dist.0))
      other a false q u e at g = sym (ap (λ (t : Bool). t || u) q) ∙ g

  -- an element that stands once, taken out at its place: all others are kept
  pub out_first : (a : A) (xs : List A) → Distinct same xs → any (same a) xs ≡ true
      → remove_at (first_index (same a) xs) xs ≡ keep (λ (x : A). not (same a x)) xs
  unfolding keep remove_at first_index any
  out_first a [] d e = refl
  out_first a (x ∷ xs) d e = by (out_first a xs d.1) (same a x) refl e
    where
      gone : (ys : List A) → any (same a) ys ≡ false → keep (λ (y : A). not (same a y)) ys ≡ ys
      gone [] g = refl
      gone (y ∷ ys) g =
          let k = both_false (same a y) (any (same a) ys) g in
          keep_hit (λ (z : A). not (same a z)) y ys (not_fails _ k.0) ∙ ap (λ (l : List A). y ∷ l) (gone ys k.1)

      by : (any (same a) xs ≡ true → remove_at (first_index (same a) xs) xs ≡ keep (λ (y : A). not (same a y)) xs)
          → (b : Bool) → same a x ≡ b → (b || any (same a) xs) ≡ true
          → remove_at (cond b 0 (suc (first_index (same a) xs))) (x ∷ xs)
          ≡ cond (not b) (x ∷ keep (λ (y : A). not (same a y)) xs) (keep (λ (y : A). not (same a y)) xs)
      by f true q h = sym (gone xs (ap (λ (y : A). any (same y) xs) (eq.equal a x q) ∙ d.0))
      by f false q h = ap (λ (l : List A). x ∷ l) (f h)
