-- What `all`, `any`, `position` and `find` over the numbers of a range answer, said of the numbers in a row and of what stands at them.
use Rattle.std.proofs.Common.{ℕ, suc, zero, ◌+◌, ◌-◌, ◌<◌, ◌≤◌, add-one, arith, ◌≡◌, refl, ap, ◌∙◌, Bool, true, false, List, [], ◌∷◌, position}
use Rattle.std.specs.declared.ops.Range.{Range}
use Rattle.std.specs.declared.option.Option.{Option}
use Rattle.std.proofs.iter.Yields.{nat_range_steps}
use Rattle.std.proofs.lemmas.Iterator.{YieldsList-from_range}
use Rattle.std.proofs.lemmas.Iterator.Search.{all_from_yields_List, any_from_yields_List, position_from_yields_List}
use Rattle.std.specs.Fn.{Called}
use Rattle.std.specs.Iterator.{YieldsThen}
use Rattle.std.specs.List.{FoldsTo, list_all, list_any, range_with_len}
use Rattle.std.specs.declared.option.Option.TheVariants.{None, Some}
use Rattle.std.specs.Option.{MatchOption, IfNone, IfSome}
use lib.ListN.{length, get_or, drop, length-drop}
use lib.Seq.{get_or-drop}
use denote.Param.Members.{Mut}
use mathlib.Core.Bool.{◌&&◌, ◌||◌}
use Rattle.lists.specs.First.{first_index, first_from, any, all}
use Rattle.lists.specs.Places.{places, tab}
use Rattle.lists.proofs.Every.{any_make, none_make}
use Rattle.lists.proofs.First.{first_is}
use Rattle.lists.proofs.Places.{length_tab, get_d_tab}

-- std's words are those of lists
every_same : {A : Type 0} (p : A → Bool) (xs : List A) → list_all p xs ≡ all p xs
unfolding all
every_same p [] = refl
every_same p (x ∷ xs) = ap (λ (b : Bool). p x && b) (every_same p xs)

any_same : {A : Type 0} (p : A → Bool) (xs : List A) → list_any p xs ≡ any p xs
unfolding any
any_same p [] = refl
any_same p (x ∷ xs) = ap (λ (b : Bool). p x || b) (any_same p xs)

row_same : (k n : ℕ) → range_with_len k n ≡ places k n
unfolding places
row_same k zero = refl
row_same k (suc n) = ap (λ (l : List ℕ). k ∷ l) (row_same (k + 1) n ∙ ap (λ (j : ℕ). places j n) (add-one k))

-- what `all` says of its calls; a call at each number tells p there, and changes nothing
abbrev pub RanOver : {F : Type 0} → Mut F (ℕ × Unit {0}) Bool → F → ℕ → ℕ → Range ℕ → Bool → Type 0
RanOver {F} g f a b u r =
    (xs : List ℕ) × (o : Option ℕ) × (j : F) × YieldsThen nat_range_steps (record { start = a; end = b }) xs o u
    × FoldsTo (λ p x q. Called g p (x, tt) true q) f xs j
    × MatchOption o (r ≡ true) (λ x. (r ≡ false) × ((h : F) × Called g j (x, tt) false h))

abbrev pub Tells : {F : Type 0} → Mut F (ℕ × Unit {0}) Bool → F → (ℕ → Bool) → Type 0
Tells {F} g f p = (x : ℕ) (t : Bool) (q : F) → Called g f (x, tt) t q → (q ≡ f) × (t ≡ p x)

pub every_place : {F : Type 0} {g : Mut F (ℕ × Unit {0}) Bool} {f : F} (p : ℕ → Bool) (a b : ℕ) (u : Range ℕ) (r : Bool)
    → RanOver g f a b u r → Tells g f p → r ≡ all p (places a (b - a))
every_place {F} {g} {f} p a b u r ran told =
    all_from_yields_List p u f r ran (YieldsList-from_range a b (b - a) refl refl) told
    ∙ every_same p (range_with_len a (b - a)) ∙ ap (all p) (row_same a (b - a))

-- what `any` says of its calls
abbrev pub SomeOver : {F : Type 0} → Mut F (ℕ × Unit {0}) Bool → F → ℕ → ℕ → Range ℕ → Bool → Type 0
SomeOver {F} g f a b u r =
    (xs : List ℕ) × (o : Option ℕ) × (j : F) × YieldsThen nat_range_steps (record { start = a; end = b }) xs o u
    × FoldsTo (λ p x q. Called g p (x, tt) false q) f xs j
    × MatchOption o (r ≡ false) (λ x. (r ≡ true) × ((h : F) × Called g j (x, tt) true h))

pub some_place : {F : Type 0} {g : Mut F (ℕ × Unit {0}) Bool} {f : F} (p : ℕ → Bool) (a b : ℕ) (u : Range ℕ) (r : Bool)
    → SomeOver g f a b u r → Tells g f p → r ≡ any p (places a (b - a))
some_place {F} {g} {f} p a b u r ran told =
    any_from_yields_List p u f r ran (YieldsList-from_range a b (b - a) refl refl) told
    ∙ any_same p (range_with_len a (b - a)) ∙ ap (any p) (row_same a (b - a))

-- the first place from n on whose element passes, as `find` tells it
module _ {A : Type 0} (f : ℕ → A) (d : A) (m n : ℕ) (p : A → Bool) where
  at_past : (j : ℕ) → n + j < m → get_or (drop n (tab m f)) j d ≡ f (n + j)
  at_past j h = get_or-drop n (tab m f) j d ∙ get_d_tab m f (n + j) d h

  past_long : length (drop n (tab m f)) ≡ m - n
  past_long = length-drop n (tab m f) ∙ ap (λ (l : ℕ). l - n) (length_tab m f)

  abbrev pub FirstFound : Option ℕ → Type 0
  FirstFound r =
      MatchOption r ((k : ℕ) → n ≤ k → k < m → p (f k) ≡ false)
      (λ i. (n ≤ i) × (i < m) × (p (f i) ≡ true) × ((k : ℕ) → n ≤ k → k < i → p (f k) ≡ false))

  pub none_found : (r : Option ℕ) → FirstFound r → IfNone r (any p (drop n (tab m f)) ≡ false)
  none_found (Some i) e = tt
  none_found None e =
      none_make p (drop n (tab m f)) d
      (λ j h. ap p (at_past j (omega (arith, past_long))) ∙ e (n + j) (omega arith) (omega (arith, past_long)))

  pub some_found : (r : Option ℕ) → FirstFound r
      → IfSome r (λ k. (any p (drop n (tab m f)) ≡ true) × (k ≡ first_from p (tab m f) n))
  unfolding first_from
  some_found None e = tt
  some_found (Some i) (l, h, e, before) =
      let q : n + (i - n) ≡ i = omega arith in
      let here : p (get_or (drop n (tab m f)) (i - n) d) ≡ true = ap p (at_past (i - n) (omega arith) ∙ ap f q) ∙ e in (
        any_make p (drop n (tab m f)) d (i - n) (omega (arith, past_long)) here,
        (let k : first_index p (drop n (tab m f)) ≡ i - n =
            first_is p (drop n (tab m f)) d (i - n) (omega (arith, past_long)) here
            (λ j g. ap p (at_past j (omega arith)) ∙ before (n + j) (omega arith) (omega arith)) in
            omega arith),
      )

-- what `position` says of its calls
abbrev pub FoundOver : {F : Type 0} → Mut F (ℕ × Unit {0}) Bool → F → ℕ → ℕ → Range ℕ → Option ℕ → Type 0
FoundOver {F} g f a b u r =
    (xs : List ℕ) × (o : Option ℕ) × (j : F) × YieldsThen nat_range_steps (record { start = a; end = b }) xs o u
    × FoldsTo (λ p x q. Called g p (x, tt) false q) f xs j
    × MatchOption o (r ≡ None) (λ x. (r ≡ Some (length xs)) × ((h : F) × Called g j (x, tt) true h))

pub first_place : {F : Type 0} {g : Mut F (ℕ × Unit {0}) Bool} {f : F} (p : ℕ → Bool) (a b : ℕ) (u : Range ℕ) (r : Option ℕ)
    → FoundOver g f a b u r → Tells g f p → r ≡ position p (places a (b - a))
first_place {F} {g} {f} p a b u r ran told =
    position_from_yields_List p u f r ran (YieldsList-from_range a b (b - a) refl refl) told
    ∙ ap (position p) (row_same a (b - a))
