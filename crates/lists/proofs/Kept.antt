-- The elements that pass a test, of a list in two parts, twice over, and where all of them pass; and an image.
use mathlib.Core.Bool.{Bool, true, false, cond, ◌&&◌, ◌||◌}
use mathlib.Core.List.{List, [], ◌∷◌, ◌++◌, map, flat_map}
use mathlib.Core.Path.{◌≡◌, refl, sym, ap, ◌∙◌}
use Rattle.lists.specs.First.{any}
use Rattle.lists.specs.Orders.{keep}
use Rattle.lists.proofs.Orders.{keep_hit}

-- some element's image passes
pub any_map : {A B : Type 0} (f : A → B) (p : B → Bool) (xs : List A) → any p (map f xs) ≡ any (λ (x : A). p (f x)) xs
unfolding any
any_map f p [] = refl
any_map f p (x ∷ xs) = ap (λ (t : Bool). p (f x) || t) (any_map f p xs)

module _ {A : Type 0} where
  pub keep_append : (p : A → Bool) (xs ys : List A) → keep p (xs ++ ys) ≡ keep p xs ++ keep p ys
  unfolding keep
  keep_append p [] ys = refl
  keep_append p (x ∷ xs) ys = by (keep_append p xs ys) (p x)
    where
      by : keep p (xs ++ ys) ≡ keep p xs ++ keep p ys → (b : Bool)
          → cond b (x ∷ keep p (xs ++ ys)) (keep p (xs ++ ys)) ≡ cond b (x ∷ keep p xs) (keep p xs) ++ keep p ys
      by f true = ap (λ (l : List A). x ∷ l) f
      by f false = f

  -- those that pass one test, and of them those that pass another
  pub keep_twice : (p q : A → Bool) (xs : List A) → keep q (keep p xs) ≡ keep (λ (x : A). p x && q x) xs
  unfolding keep
  keep_twice p q [] = refl
  keep_twice p q (x ∷ xs) = by (keep_twice p q xs) (p x)
    where
      by : keep q (keep p xs) ≡ keep (λ (y : A). p y && q y) xs → (b : Bool)
          → keep q (cond b (x ∷ keep p xs) (keep p xs))
          ≡ cond (b && q x) (x ∷ keep (λ (y : A). p y && q y) xs) (keep (λ (y : A). p y && q y) xs)
      by f true = ap (λ (l : List A). cond (q x) (x ∷ l) l) f
      by f false = f

  -- a test that everything passes
  pub keep_whole : (p : A → Bool) (xs : List A) → ((a : A) → p a ≡ true) → keep p xs ≡ xs
  unfolding keep
  keep_whole p [] f = refl
  keep_whole p (x ∷ xs) f = keep_hit p x xs (f x) ∙ ap (λ (l : List A). x ∷ l) (keep_whole p xs f)

-- the images of those that pass, where each element gives one or none
pub keep_flat : {A B C : Type 0} (g : A → B) (p : B → Bool) (f : B → C) (h : A → List C)
    → ((x : A) → h x ≡ cond (p (g x)) (f (g x) ∷ []) []) → (xs : List A) → map f (keep p (map g xs)) ≡ flat_map h xs
unfolding keep flat_map
keep_flat g p f h e [] = refl
keep_flat {A} {B} {C} g p f h e (x ∷ xs) =
    by (keep_flat g p f h e xs) (p (g x)) ∙ ap (λ (l : List C). l ++ flat_map h xs) (sym (e x))
  where
    by : map f (keep p (map g xs)) ≡ flat_map h xs → (b : Bool)
        → map f (cond b (g x ∷ keep p (map g xs)) (keep p (map g xs))) ≡ cond b (f (g x) ∷ []) [] ++ flat_map h xs
    by q true = ap (λ (l : List C). f (g x) ∷ l) q
    by q false = q
