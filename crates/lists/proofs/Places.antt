-- Numbers in a row, lists made of a function, and the loops that go through them: at a place k the invariant says that
-- what is left gives the whole answer r, and t is what the call of the test at k returned.
use Prim.Native.Nat.{ℕ, zero, suc, ◌+◌, ◌-◌, ◌*◌, ◌≤◌, ◌<◌}
use native.Mathlib.Decide.{dec_lt}
use native.Mathlib.Nat.{zero-mul, suc-mul, add-zero}
use native.Mathlib.Numerals.{add-one}
use native.Mathlib.Omega.{arith}
use mathlib.Core.Bool.{Bool, true, false, not, ◌&&◌, ◌||◌, true≢false}
use mathlib.Core.List.{List, [], ◌∷◌, ◌++◌, map, map-map}
use mathlib.Core.Logic.{◌⊎◌, inl, inr, ⊎_elim}
use mathlib.Core.Path.{◌≡◌, refl, sym, ap, ap₂, ◌∙◌}
use borrow.Author.Tests.{eqb-true, eqb-false, not-true, not-false}
use lib.Dec.{eqb}
use lib.ListN.{length, get_or, take, drop, length-take, length-drop, length-map, get_or-map}
use lib.Seq.{get_or-take, get_or-drop, ext_get_or}
use Rattle.lists.specs.First.{first_from, any, all}
use Rattle.lists.specs.Pairs.{pairwise}
use Rattle.lists.specs.Places.{places, tab}
use Rattle.lists.specs.Room.{remove_at}
use Rattle.lists.proofs.Every.{all_both, all_same, all_map, none_others, none_others_make}
use Rattle.lists.proofs.First.{from_pass, from_hit, from_end}
use Rattle.lists.proofs.Pairs.{pairs_at, pairs_make}
use Rattle.lists.proofs.Tests.{both_true, true_both, both_false, one_true, holds_or_fails, true_of, same_test}

-- within a list the default does not matter
pub get_d_any : {A : Type 0} (xs : List A) (k : ℕ) (d e : A) → k < length xs → get_or xs k d ≡ get_or xs k e
get_d_any [] k d e h = absurd (omega arith)
get_d_any (x ∷ xs) zero d e h = refl
get_d_any (x ∷ xs) (suc k) d e h = get_d_any xs k d e (omega arith)

-- ---- numbers in a row
pub length_places : (k n : ℕ) → length (places k n) ≡ n
unfolding places
length_places k zero = refl
length_places k (suc n) = ap suc (length_places (suc k) n)

pub get_d_places : (k n i d : ℕ) → i < n → get_or (places k n) i d ≡ k + i
unfolding places
get_d_places k zero i d h = absurd (omega arith)
get_d_places k (suc n) zero d h = sym (add-zero k)
get_d_places k (suc n) (suc i) d h =
    let e : suc k + i ≡ k + suc i = omega arith in
    get_d_places (suc k) n i d (omega arith) ∙ e

-- a place is left below e; none is
pub places_step : (k e : ℕ) → k < e → places k (e - k) ≡ k ∷ places (k + 1) (e - (k + 1))
unfolding places
places_step k e h =
    let f : e - k ≡ suc (e - (k + 1)) = omega arith in
    ap (places k) f ∙ ap (λ (j : ℕ). k ∷ places j (e - (k + 1))) (sym (add-one k))

pub places_end : (k e : ℕ) → e ≤ k → places k (e - k) ≡ []
unfolding places
places_end k e h = let f : e - k ≡ 0 = omega arith in ap (places k) f

-- the places one higher
pub places_up : (k n : ℕ) → map suc (places k n) ≡ places (suc k) n
unfolding places
places_up k zero = refl
places_up k (suc n) = ap (λ (l : List ℕ). suc k ∷ l) (places_up (suc k) n)

-- ---- a test at every place
module _ (p : ℕ → Bool) where
  pub every_at : (k n : ℕ) → all p (places k n) ≡ true → (i : ℕ) → k ≤ i → i < k + n → p i ≡ true
  unfolding all places
  every_at k zero e i h l = absurd (omega arith)
  every_at k (suc n) e i h l =
      let b = both_true (p k) (all p (places (suc k) n)) e in
      elim (dec_lt k i) [
        | yes a ↦ every_at (suc k) n b.1 i a (omega arith)
        | no a ↦
            (let j : i ≡ k = omega arith in ap p j ∙ b.0)
      ]

  pub every_make : (k n : ℕ) → ((i : ℕ) → k ≤ i → i < k + n → p i ≡ true) → all p (places k n) ≡ true
  unfolding all places
  every_make k zero f = refl
  every_make k (suc n) f =
      true_both (p k) (all p (places (suc k) n)) (f k (omega arith) (omega arith))
      (every_make (suc k) n (λ i h l. f i (omega arith) (omega arith)))

  pub one_place : (k : ℕ) → all p (places k 1) ≡ (p k && true)
  unfolding all places
  one_place k = refl

  -- a loop that returns whether every place passes
  module _ (k e : ℕ) (r t : Bool) where
    pub every_stop : all p (places k (e - k)) ≡ r → k < e → t ≡ p k → t ≡ false → false ≡ r
    unfolding all
    every_stop inv h g f = sym (rw (places_step k e h, ← g, f)) ∙ inv

    pub every_on : all p (places k (e - k)) ≡ r → k < e → t ≡ p k → t ≡ true → all p (places (k + 1) (e - (k + 1))) ≡ r
    unfolding all
    every_on inv h g f = sym (rw (places_step k e h, ← g, f)) ∙ inv

  -- the same for a test that is no call
  module _ (k e : ℕ) (r : Bool) where
    pub every_stop_here : all p (places k (e - k)) ≡ r → k < e → p k ≡ false → false ≡ r
    every_stop_here inv h f = every_stop k e r (p k) inv h refl f

    pub every_on_here : all p (places k (e - k)) ≡ r → k < e → p k ≡ true → all p (places (k + 1) (e - (k + 1))) ≡ r
    every_on_here inv h f = every_on k e r (p k) inv h refl f

  pub every_end : (k e : ℕ) (r : Bool) → all p (places k (e - k)) ≡ r → e ≤ k → true ≡ r
  unfolding all
  every_end k e r inv h = sym (rw (places_end k e h)) ∙ inv

-- two tests that agree below n
pub same_at : (p q : ℕ → Bool) (n : ℕ) → ((i : ℕ) → i < n → p i ≡ q i) → all p (places 0 n) ≡ all q (places 0 n)
same_at p q n f =
    same_test (all p (places 0 n)) (all q (places 0 n))
    (λ e. every_make q 0 n (λ i h l. sym (f i (omega arith)) ∙ every_at p 0 n e i (omega arith) (omega arith)))
    (λ e. every_make p 0 n (λ i h l. f i (omega arith) ∙ every_at q 0 n e i (omega arith) (omega arith)))

-- the places from k on are those from 0 on, each k higher; and m at a time
pub places_shift : (p : ℕ → Bool) (k n : ℕ) → all p (places k n) ≡ all (λ i. p (k + i)) (places 0 n)
places_shift p k n =
    same_test (all p (places k n)) (all (λ i. p (k + i)) (places 0 n))
    (λ e. every_make (λ i. p (k + i)) 0 n (λ i h l. every_at p k n e (k + i) (omega arith) (omega arith)))
    (λ e. every_make p k n (λ i h l. let d : k + (i - k) ≡ i = omega arith in
    ap p (sym d) ∙ every_at (λ j. p (k + j)) 0 n e (i - k) (omega arith) (omega arith)))

pub places_add : (k m n : ℕ) → places k (m + n) ≡ places k m ++ places (k + m) n
unfolding places
places_add k zero n = let a : zero + n ≡ n = omega arith in let b : k ≡ k + zero = omega arith in ap₂ places b a
places_add k (suc m) n =
    let a : suc m + n ≡ suc (m + n) = omega arith in
    let b : suc k + m ≡ k + suc m = omega arith in
    ap (places k) a
    ∙ ap (λ (l : List ℕ). k ∷ l) (places_add (suc k) m n ∙ ap (λ (j : ℕ). places (suc k) m ++ places j n) b)

pub every_block : (p : ℕ → Bool) (m k n : ℕ)
    → all p (places k (n * m)) ≡ all (λ i. all p (places (k + i * m) m)) (places 0 n)
unfolding all places
every_block p m k zero = ap (λ (j : ℕ). all p (places k j)) (zero-mul m)
every_block p m k (suc n) =
    let a : suc n * m ≡ m + n * m = omega (arith, suc-mul n m) in
    let b : k ≡ k + 0 * m = omega (arith, zero-mul m) in
    ap (λ (j : ℕ). all p (places k j)) a ∙ ap (all p) (places_add k m (n * m))
    ∙ all_both p (places k m) (places (k + m) (n * m))
    ∙ ap₂ (λ (x y : Bool). x && y) (ap (λ (j : ℕ). all p (places j m)) b)
    (every_block p m (k + m) n ∙ all_same _ _ next (places 0 n)
    ∙ sym (places_shift (λ i. all p (places (k + i * m) m)) 1 n))
  where
    one_more_law : (i : ℕ) → 1 + i ≡ suc i
    one_more_law i = omega arith

    next : (i : ℕ) → all p (places (k + m + i * m) m) ≡ all p (places (k + (1 + i) * m) m)
    next i =
        let e : k + m + i * m ≡ k + (1 + i) * m = omega (arith, ap (λ (j : ℕ). j * m) (one_more_law i), suc-mul i m) in
        ap (λ (j : ℕ). all p (places j m)) e

-- a test holds at every number below n, or there is a first at which it fails
pub first_failing : (p : ℕ → Bool) (n : ℕ)
    → ((i : ℕ) → i < n → p i ≡ true) ⊎ ((i : ℕ) × (i < n) × (p i ≡ false) × ((j : ℕ) → j < i → p j ≡ true))
first_failing p zero = inl (λ i h. absurd (omega arith))
first_failing p (suc n) =
    ⊎_elim (λ f. at_end_law f (holds_or_fails (p n))) (λ (i, h, e, f). inr (i, omega arith, e, f)) (first_failing p n)
  where
    at_end_law : ((i : ℕ) → i < n → p i ≡ true) → (p n ≡ true) ⊎ (p n ≡ false)
        → ((i : ℕ) → i < suc n → p i ≡ true) ⊎ ((i : ℕ) × (i < suc n) × (p i ≡ false) × ((j : ℕ) → j < i → p j ≡ true))
    at_end_law f (inl e) =
        inl (λ i h. elim (dec_lt i n) [ yes a ↦ f i a | no a ↦ (let q : i ≡ n = omega arith in ap p q ∙ e) ])
    at_end_law f (inr e) = inr (n, omega arith, e, f)

-- an element other than the one at k that passes
module _ {A : Type 0} (p : A → Bool) (xs : List A) (k : ℕ) (d : A) where
  pub other_at : any p (remove_at k xs) ≡ true → (j : ℕ) × (j < length xs) × (j ≡ k → ⊥) × (p (get_or xs j d) ≡ true)
  other_at e =
      ⊎_elim (λ f. absurd (true≢false (sym e ∙ none_others_make p xs k d (λ j h ne. fails j ne (f j h)))))
      (λ (j, h, q, f). let (ne, e) = passes j q in (j, h, ne, e)) (first_failing test (length xs))
    where
      test : ℕ → Bool
      test j = eqb j k || not (p (get_or xs j d))

      fails : (j : ℕ) → (j ≡ k → ⊥) → test j ≡ true → p (get_or xs j d) ≡ false
      fails j ne q = ⊎_elim (λ a. absurd (ne (eqb-true _ _ a))) (not-true _) (one_true (eqb j k) _ q)

      passes : (j : ℕ) → test j ≡ false → (j ≡ k → ⊥) × (p (get_or xs j d) ≡ true)
      passes j q = let (a, b) = both_false (eqb j k) _ q in (eqb-false _ _ a, not-false _ b)

  pub other_make : (j : ℕ) → j < length xs → (j ≡ k → ⊥) → p (get_or xs j d) ≡ true → any p (remove_at k xs) ≡ true
  other_make j h ne q = true_of _ (λ e. true≢false (sym q ∙ none_others p xs k d e j h ne))

-- ---- a list made of a function
module _ {A : Type 0} where
  pub length_tab : (n : ℕ) (f : ℕ → A) → length (tab n f) ≡ n
  unfolding tab
  length_tab n f = length-map (places 0 n) f ∙ length_places 0 n

  pub get_d_tab : (n : ℕ) (f : ℕ → A) (i : ℕ) (d : A) → i < n → get_or (tab n f) i d ≡ f i
  unfolding tab
  get_d_tab n f i d h =
      let z : 0 + i ≡ i = omega arith in
      get_d_any (map f (places 0 n)) i d (f 0) (omega (arith, length-map (places 0 n) f, length_places 0 n))
      ∙ get_or-map f (places 0 n) i 0 ∙ ap f (get_d_places 0 n i 0 h ∙ z)

  pub tab_cons : (n : ℕ) (f : ℕ → A) → tab (suc n) f ≡ f 0 ∷ tab n (λ i. f (suc i))
  unfolding tab places
  tab_cons n f = ap (λ (l : List A). f 0 ∷ l) (ap (map f) (sym (places_up 0 n)) ∙ map-map f suc (places 0 n))

  -- one element more
  tab_snoc : (n : ℕ) (f : ℕ → A) → tab (suc n) f ≡ tab n f ++ f n ∷ []
  unfolding tab places
  tab_snoc zero f = refl
  tab_snoc (suc n) f =
      tab_cons (suc n) f ∙ ap (λ (l : List A). f 0 ∷ l) (tab_snoc n (λ i. f (suc i)))
      ∙ ap (λ (l : List A). l ++ f (suc n) ∷ []) (sym (tab_cons n f))

  pub tab_last : (n : ℕ) (f : ℕ → A) → tab (n + 1) f ≡ tab n f ++ f n ∷ []
  tab_last n f = let e : n + 1 ≡ suc n = omega arith in ap (λ (k : ℕ). tab k f) e ∙ tab_snoc n f

  -- its first elements, and those from an index on
  pub take_tab : (n i : ℕ) (f : ℕ → A) → i ≤ n → take i (tab n f) ≡ tab i f
  take_tab n i f h =
      let l : length (take i (tab n f)) ≡ i = omega (arith, length-take i (tab n f), length_tab n f) in
      ext_get_or (f 0) (take i (tab n f)) (tab i f) (l ∙ sym (length_tab i f))
      (λ k b. let c : k < i = omega arith in
      get_or-take i (tab n f) k (f 0) c ∙ get_d_tab n f k (f 0) (omega arith) ∙ sym (get_d_tab i f k (f 0) c))

  pub drop_tab : (n i : ℕ) (f : ℕ → A) → i ≤ n → drop i (tab n f) ≡ map f (places i (n - i))
  drop_tab n i f h =
      let l : length (drop i (tab n f)) ≡ n - i = omega (arith, length-drop i (tab n f), length_tab n f) in
      let m : length (map f (places i (n - i))) ≡ n - i = length-map (places i (n - i)) f ∙ length_places i (n - i) in
      ext_get_or (f 0) (drop i (tab n f)) (map f (places i (n - i))) (l ∙ sym m)
      (λ k b.
      let c : k < n - i = omega arith in
      get_or-drop i (tab n f) k (f 0) ∙ get_d_tab n f (i + k) (f 0) (omega arith)
      ∙ sym (get_or-map f (places i (n - i)) k 0 ∙ ap f (get_d_places i (n - i) k 0 c)))

  -- a list is its elements
  pub tab_list : (f : ℕ → A) (xs : List A) (d : A) → ((i : ℕ) → i < length xs → f i ≡ get_or xs i d)
      → tab (length xs) f ≡ xs
  tab_list f xs d h =
      ext_get_or d (tab (length xs) f) xs (length_tab (length xs) f)
      (λ i k. let l : i < length xs = omega (arith, length_tab (length xs) f) in get_d_tab (length xs) f i d l ∙ h i l)

  -- two functions that give the same
  pub tab_same : (n : ℕ) (f g : ℕ → A) → ((i : ℕ) → i < n → f i ≡ g i) → tab n f ≡ tab n g
  tab_same n f g h =
      ext_get_or (f 0) (tab n f) (tab n g) (length_tab n f ∙ sym (length_tab n g))
      (λ i k.
      let l : i < n = omega (arith, length_tab n f) in
      get_d_tab n f i (f 0) l ∙ h i l ∙ sym (get_d_tab n g i (f 0) l))

  -- every element of such a list, and every two
  pub all_tab : (p : A → Bool) (n : ℕ) (f : ℕ → A) → all p (tab n f) ≡ all (λ i. p (f i)) (places 0 n)
  unfolding tab
  all_tab p n f = all_map f p (places 0 n)

  pub pairs_tab : (r : A → A → Bool) (n : ℕ) (f : ℕ → A)
      → pairwise r (tab n f) ≡ all (λ i. all (λ j. r (f i) (f j)) (places (i + 1) (n - (i + 1)))) (places 0 n)
  pairs_tab r n f =
      same_test (pairwise r (tab n f)) (all (λ i. all (λ j. r (f i) (f j)) (places (i + 1) (n - (i + 1)))) (places 0 n))
      (λ e. every_make _ 0 n (λ i a b. every_make _ (i + 1) (n - (i + 1))
      (λ j c d. ap₂ r (sym (get_d_tab n f i (f 0) (omega arith))) (sym (get_d_tab n f j (f 0) (omega arith)))
      ∙ pairs_at r (tab n f) (f 0) e i j (omega arith) (omega (arith, length_tab n f)))))
      (λ e.
      pairs_make r (tab n f) (f 0)
      (λ i j h l.
      let m : j < n = omega (arith, length_tab n f) in
      ap₂ r (get_d_tab n f i (f 0) (omega arith)) (get_d_tab n f j (f 0) m)
      ∙ every_at (λ k. r (f i) (f k)) (i + 1) (n - (i + 1))
      (every_at (λ k. all (λ q. r (f k) (f q)) (places (k + 1) (n - (k + 1)))) 0 n e i (omega arith)
      (omega arith)) j
      (omega arith) (omega arith)))

  -- a loop that returns the index of the first element that passes
  module _ (p : A → Bool) (f : ℕ → A) (n i r : ℕ) where
    pub first_hit : (t : Bool) → first_from p (tab n f) i ≡ r → i < n → t ≡ p (f i) → t ≡ true → i ≡ r
    first_hit t inv h e g =
        sym (from_hit p (tab n f) i (f i) (omega (arith, length_tab n f)) (ap p (get_d_tab n f i (f i) h) ∙ sym e ∙ g))
        ∙ inv

    pub first_on : (t : Bool) → first_from p (tab n f) i ≡ r → i < n → t ≡ p (f i) → t ≡ false
        → first_from p (tab n f) (i + 1) ≡ r
    first_on t inv h e g =
        sym (from_pass p (tab n f) i (f i) (omega (arith, length_tab n f)) (ap p (get_d_tab n f i (f i) h) ∙ sym e ∙ g))
        ∙ inv

    pub first_end : first_from p (tab n f) i ≡ r → n ≤ i → i ≡ r
    first_end inv h = sym (from_end p (tab n f) i (omega (arith, length_tab n f))) ∙ inv
