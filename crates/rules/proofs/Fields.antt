-- A region is its numbers: what is made of them has them, and two with the same ones are one region.
use Prim.Native.Nat.{ℕ, ◌<◌}
use mathlib.Core.List.{List}
use mathlib.Core.Path.{◌≡◌, refl, sym, ap, ◌∙◌}
use lib.ListN.{length, get_or, replicate}
use Rattle.lists.specs.Places.{places, tab}
use Rattle.lists.proofs.Places.{tab_list, tab_same}
use Rattle.rules.specs.Fields.{region_numbers, numbers_of, region_by, region_to}
use Rattle.rules.specs.Regions.{no_region}
use Rattle.rules.specs.declared.Region.{Region}

pub numbers_many : (r : Region) → length (numbers_of r) ≡ region_numbers
unfolding numbers_of
numbers_many r = refl

pub numbers_by : (f : ℕ → ℕ) → numbers_of (region_by f) ≡ tab region_numbers f
unfolding numbers_of tab places
numbers_by f = refl

pub numbers_none : numbers_of no_region ≡ replicate region_numbers 0
unfolding numbers_of
numbers_none = refl

-- there and back
pub of_numbers : (r : Region) → region_to (numbers_of r) ≡ r
unfolding numbers_of
of_numbers r = refl

pub to_numbers : (l : List ℕ) → length l ≡ region_numbers → numbers_of (region_to l) ≡ l
to_numbers l e =
    numbers_by (λ i. get_or l i 0) ∙ ap (λ (n : ℕ). tab n (λ i. get_or l i 0)) (sym e)
    ∙ tab_list (λ i. get_or l i 0) l 0 (λ i h. refl)

-- number by number
by_tab : (f : ℕ → ℕ) → region_to (tab region_numbers f) ≡ region_by f
unfolding tab places
by_tab f = refl

pub by_same : (f g : ℕ → ℕ) → ((i : ℕ) → i < region_numbers → f i ≡ g i) → region_by f ≡ region_by g
by_same f g h = sym (by_tab f) ∙ ap region_to (tab_same region_numbers f g h) ∙ by_tab g

pub by_numbers : (f : ℕ → ℕ) (r : Region) → ((i : ℕ) → i < region_numbers → f i ≡ get_or (numbers_of r) i 0)
    → region_by f ≡ r
by_numbers f r h = by_same f (λ i. get_or (numbers_of r) i 0) h ∙ of_numbers r

pub same_numbers : (a b : Region) → numbers_of a ≡ numbers_of b → a ≡ b
same_numbers a b e = sym (of_numbers a) ∙ ap region_to e ∙ of_numbers b
