-- What a search answers, an index or none, beside the index that is the length where nothing is found.
use Prim.Native.Nat.{ℕ, suc, ◌+◌, ◌≤◌, ◌<◌}
use native.Mathlib.Omega.{arith}
use mathlib.Core.Bool.{Bool, true, false, cond, not}
use mathlib.Core.List.{List, [], ◌∷◌, map}
use mathlib.Core.Path.{◌≡◌, refl, sym, ap, ap₂, ◌∙◌}
use borrow.Author.Tests.{lt-ltb, le-ltb, ltb-true, ltb-false, ne_eqb}
use lib.Dec.{ltb, eqb}
use lib.ListN.{length, length-map}
use Rattle.std.specs.Prelude.{position, is_some}
use Rattle.std.specs.declared.option.Option.{Option}
use Rattle.std.specs.declared.option.Option.TheVariants.{Some, None}
use Rattle.std.specs.List.{position_or_len}
use Rattle.std.specs.Option.{option_eq}
use Rattle.std.proofs.lemmas.List.Recursion.{is_position_or_len}
use Rattle.lists.specs.First.{first_index, any}
use Rattle.lists.specs.Places.{places, tab}
use Rattle.lists.proofs.First.{any_first}

module _ {A : Type 0} (p : A → Bool) (xs : List A) where
  as_std : first_index p xs ≡ position_or_len p xs
  unfolding first_index
  as_std =
      is_position_or_len (first_index p) p refl
      (λ y ys. let e : suc (first_index p ys) ≡ 1 + first_index p ys = omega arith in ap (cond (p y) 0) e) xs

  abbrev by_test : Bool → Option ℕ
  by_test b = cond b (Some (first_index p xs)) None

  by_index : position p xs ≡ by_test (any p xs)
  by_index =
      ap (λ (k : ℕ). cond (ltb k (length xs)) (Some k) None) (sym as_std) ∙ ap by_test (sym (any_first p xs))

  pub some_found : (i : ℕ) → i ≡ first_index p xs → i < length xs → ◌≡◌ {A = Option ℕ} (Some i) (position p xs)
  some_found i e h =
      let l : first_index p xs < length xs = omega (arith, e) in
      ap (λ (k : ℕ). Some k) e ∙ sym (by_index ∙ ap by_test (any_first p xs ∙ lt-ltb _ _ l))

  pub none_found : (i : ℕ) → i ≡ first_index p xs → length xs ≤ i → ◌≡◌ {A = Option ℕ} None (position p xs)
  none_found i e h =
      let l : length xs ≤ first_index p xs = omega (arith, e) in
      sym (by_index ∙ ap by_test (any_first p xs ∙ le-ltb _ _ l))

  -- whether anything is found
  pub some_any : is_some (position p xs) ≡ any p xs
  some_any = ap is_some by_index ∙ of (any p xs)
    where
      of : (b : Bool) → is_some (by_test b) ≡ b
      of true = refl
      of false = refl

  -- what is found is the first, and there; where nothing is, none passes
  index_or : ℕ → Option ℕ → ℕ
  index_or d (Some i) = i
  index_or d None = d

  pub found_first : (i : ℕ) → ◌≡◌ {A = Option ℕ} (Some i) (position p xs) → (i ≡ first_index p xs) × (i < length xs)
  unfolding index_or
  found_first i e =
      let there : any p xs ≡ true = sym (ap is_some e ∙ some_any) in
      let first : i ≡ first_index p xs = ap (index_or 0) (e ∙ by_index ∙ ap by_test there) in
      let l : first_index p xs < length xs = ltb-true _ _ (sym (any_first p xs) ∙ there) in
      (first, omega (arith, first))

  pub found_none : ◌≡◌ {A = Option ℕ} None (position p xs) → any p xs ≡ false
  found_none e = sym (ap is_some e ∙ some_any)

  -- whether a place of the list is the one that is found
  pub by_place : (z : ℕ) → z < length xs → option_eq eqb (position p xs) (Some z) ≡ eqb (first_index p xs) z
  by_place z h = ap (λ (o : Option ℕ). option_eq eqb o (Some z)) by_index ∙ of (any p xs) refl
    where
      of : (b : Bool) → any p xs ≡ b → option_eq eqb (by_test b) (Some z) ≡ eqb (first_index p xs) z
      of true e = refl
      of false e =
          let l : length xs ≤ first_index p xs = ltb-false _ _ (sym (any_first p xs) ∙ e) in
          sym (ne_eqb (first_index p xs) z (λ q. omega arith))

-- what is found among values is found among what they are made of
position_map : {A B : Type 0} (p : B → Bool) (f : A → B) (xs : List A)
    → position (λ (x : A). p (f x)) xs ≡ position p (map f xs)
position_map {A} {B} p f xs =
    ap₂ (λ (k n : ℕ). cond (ltb k n) (Some k) None) (same xs) (sym (length-map xs f))
  where
    same : (xs : List A) → position_or_len (λ (x : A). p (f x)) xs ≡ position_or_len p (map f xs)
    same [] = refl
    same (x ∷ xs) = ap (λ (k : ℕ). cond (not (p (f x))) (1 + k) 0) (same xs)

pub position_tab : {B : Type 0} (p : B → Bool) (f : ℕ → B) (n : ℕ)
    → position (λ (i : ℕ). p (f i)) (places 0 n) ≡ position p (tab n f)
unfolding tab
position_tab p f n = position_map p f (places 0 n)
