-- Formats of a fixed width: what they read where all their bytes are there, and that they refuse with 20 where not.
use Prim.Native.Nat.{ℕ, zero, suc, ◌+◌, ◌*◌, ◌≤◌, ◌<◌}
use native.Mathlib.Nat.{suc-mul, zero-mul}
use native.Mathlib.Omega.{arith}
use mathlib.Core.List.{List, [], ◌∷◌}
use mathlib.Core.Logic.{⊎_elim}
use mathlib.Core.Path.{◌≡◌, sym, ap, ◌∙◌}
use borrow.Author.Tests.{le-leb, lt-leb, leb-true, leb-false}
use lib.Dec.{leb}
use lib.ListN.{length, take, drop, length-drop}
use lib.Seq.{drop-drop}
use Rattle.lists.specs.Bytes.{little}
use Rattle.lists.specs.Places.{places, tab}
use Rattle.lists.proofs.Places.{tab_cons}
use Rattle.lists.proofs.Tests.{holds_or_fails}
use Rattle.formats.specs.Formats.{got, bad, when, then, Format, read_number, number, read_both, both, start_at}
use Rattle.formats.specs.Formats.{field, read_as, as_type, read_many, many, read_count, read_headed, exactly}
use Rattle.formats.proofs.Formats.{then_got, count_got}

-- k bytes, and the value that they spell
pub record Wide {A : Type 0} (F : Format A) (k : ℕ) (value : List ℕ → A) : Type 0 where
  pub there : (b : List ℕ) → k ≤ length b → F.read b ≡ got (value b) (drop k b)
  pub short : (b : List ℕ) → length b < k → (t : List ℕ) × (F.read b ≡ bad 20 t)

pub number_there : (k : ℕ) (b : List ℕ) → k ≤ length b → read_number k b ≡ got (little (take k b)) (drop k b)
unfolding read_number when
number_there k b h = rw (le-leb k (length b) h)

pub number_short : (k : ℕ) (b : List ℕ) → length b < k → read_number k b ≡ bad 20 b
unfolding read_number when
number_short k b h = rw (lt-leb k (length b) h)

pub wide_number : (k : ℕ) → Wide (number k) k (λ b. little (take k b))
wide_number k = record { there = number_there k; short = λ b h. (b, number_short k b h) }

module _ {A B : Type 0} (F : Format A) (G : Format B) (j k : ℕ) (f : List ℕ → A) (g : List ℕ → B) (wf : Wide F j f)
    (wg : Wide G k g) where
  both_there : (b : List ℕ) → j + k ≤ length b → read_both F G b ≡ got (f b, g (drop j b)) (drop (j + k) b)
  unfolding read_both then
  both_there b h =
      rw (wf.there b (omega arith), wg.there (drop j b) (omega (arith, length-drop j b)), drop-drop k j b)

  second_short : (b : List ℕ) → j ≤ length b → length b < j + k → (t : List ℕ) × (read_both F G b ≡ bad 20 t)
  unfolding read_both then
  second_short b l h = let (t, e) = wg.short (drop j b) (omega (arith, length-drop j b)) in (t, rw (wf.there b l, e))

  first_short : (b : List ℕ) → length b < j → (t : List ℕ) × (read_both F G b ≡ bad 20 t)
  unfolding read_both then
  first_short b h = let (t, e) = wf.short b h in (t, rw e)

  pub wide_both : Wide (both F G) (j + k) (λ b. (f b, g (drop j b)))
  wide_both = record {
    there = both_there;
    short =
        λ b h. ⊎_elim (λ e. second_short b (leb-true j (length b) e) h) (λ e. first_short b (leb-false j (length b) e))
        (holds_or_fails (leb j (length b)));
  }

module _ {A B : Type 0} (F : Format A) (to : A → B) (from : B → A) (k : ℕ) (f : List ℕ → A) (w : Wide F k f) where
  as_there : (b : List ℕ) → k ≤ length b → read_as F to from b ≡ got (to (f b)) (drop k b)
  unfolding read_as then
  as_there b h = rw (w.there b h)

  as_short : (b : List ℕ) → length b < k → (t : List ℕ) × (read_as F to from b ≡ bad 20 t)
  unfolding read_as then
  as_short b h = let (t, e) = w.short b h in (t, rw e)

  pub wide_as : Wide (as_type F to from) k (λ b. to (f b))
  wide_as = record { there = as_there; short = as_short }

-- what is read was all there
pub wide_got : {A : Type 0} (F : Format A) (k : ℕ) (f : List ℕ → A) → Wide F k f → (b : List ℕ) (x : A) (t : List ℕ)
    → F.read b ≡ got x t → (k ≤ length b) × (t ≡ drop k b)
wide_got {A} F k f w b x t e =
    ⊎_elim (λ h. whole (leb-true k (length b) h)) (λ h. absurd (cut (leb-false k (length b) h)))
    (holds_or_fails (leb k (length b)))
  where
    whole : k ≤ length b → (k ≤ length b) × (t ≡ drop k b)
    whole h = let q : got (f b) (drop k b) ≡ got x t = sym (w.there b h) ∙ e in (h, cc)

    cut : length b < k → ⊥
    cut h =
        let (u, g) = w.short b h in
        let q : bad 20 u ≡ got x t = sym g ∙ e in
        let z : ◌≡◌ {A = ℕ} 0 1 = cc in
        omega arith

-- given numbers that are read were all there
pub exactly_got : (w : ℕ) (ns b : List ℕ) (u : Unit {0}) (t : List ℕ) → (exactly w ns).read b ≡ got u t
    → (length ns * w ≤ length b) × (t ≡ drop (length ns * w) b)
unfolding read_headed
exactly_got w [] b u t e =
    let q : b ≡ t = cc in
    (omega (arith, zero-mul w), sym q ∙ ap (λ (j : ℕ). drop j b) (sym (zero-mul w)))
exactly_got w (n ∷ ns) b u t e =
    let (c, s, ec, e') = then_got (read_count w n n b) (λ c s. (exactly w ns).read s) u t e in
    let (l, q) = wide_got (number w) w _ (wide_number w) b c s (count_got w n n b c s ec).0 in
    let (m, r) = exactly_got w ns s u t e' in
    let k : w + length ns * w ≡ suc (length ns) * w = omega (arith, suc-mul (length ns) w) in (
      omega (arith, suc-mul (length ns) w, ap length q, length-drop w b),
      r ∙ ap (drop (length ns * w)) q ∙ drop-drop (length ns * w) w b ∙ ap (λ (j : ℕ). drop j b) k,
    )

-- ---- so many, one after another
module _ {A : Type 0} (F : Format A) (k : ℕ) (f : List ℕ → A) (w : Wide F k f) where
  many_there : (n : ℕ) (b : List ℕ) → n * k ≤ length b
      → read_many F n b ≡ got (tab n (λ i. f (drop (i * k) b))) (drop (n * k) b)
  unfolding read_many then tab places
  many_there zero b h = ap (λ (j : ℕ). got [] (drop j b)) (sym (zero-mul k))
  many_there (suc n) b h =
      let step : (i : ℕ) → drop (i * k) (drop k b) ≡ drop (suc i * k) b =
      λ i. (let e : k + i * k ≡ suc i * k = omega (arith, suc-mul i k) in
      drop-drop (i * k) k b ∙ ap (λ (j : ℕ). drop j b) e) in
      let none : b ≡ drop (0 * k) b = ap (λ (j : ℕ). drop j b) (sym (zero-mul k)) in
      rw (
        w.there b (omega (arith, suc-mul n k)),
        many_there n (drop k b) (omega (arith, suc-mul n k, length-drop k b)),
        step n,
      )
      (λ j. got (f (none j) ∷ tab n (λ i. f (step i j))) (drop (suc n * k) b))
      ∙ ap (λ (l : List A). got l (drop (suc n * k) b)) (sym (tab_cons n (λ i. f (drop (i * k) b))))

  first_cut : (n : ℕ) (b : List ℕ) → length b < k → (t : List ℕ) × (read_many F (suc n) b ≡ bad 20 t)
  unfolding read_many then
  first_cut n b h = let (t, e) = w.short b h in (t, rw e)

  later_cut : (n : ℕ) (b : List ℕ) → k ≤ length b → (t : List ℕ) × (read_many F n (drop k b) ≡ bad 20 t)
      → (t : List ℕ) × (read_many F (suc n) b ≡ bad 20 t)
  unfolding read_many then
  later_cut n b h (t, e) = (t, rw (w.there b h, e))

  many_short : (n : ℕ) (b : List ℕ) → length b < n * k → (t : List ℕ) × (read_many F n b ≡ bad 20 t)
  many_short zero b h = absurd (omega (arith, zero-mul k))
  many_short (suc n) b h =
      ⊎_elim (λ e. let l : k ≤ length b = leb-true k (length b) e in
      later_cut n b l (many_short n (drop k b) (omega (arith, suc-mul n k, length-drop k b))))
      (λ e. first_cut n b (leb-false k (length b) e)) (holds_or_fails (leb k (length b)))

  pub wide_many : (n : ℕ) → Wide (many F n) (n * k) (λ b. tab n (λ i. f (drop (i * k) b)))
  wide_many n = record { there = many_there n; short = many_short n }

-- ---- as one field: refused at its start
module _ {A : Type 0} (F : Format A) (k : ℕ) (f : List ℕ → A) (w : Wide F k f) where
  pub field_there : (b : List ℕ) → k ≤ length b → (field F).read b ≡ got (f b) (drop k b)
  unfolding start_at
  field_there b h = rw (w.there b h)

  pub field_short : (b : List ℕ) → length b < k → (field F).read b ≡ bad 20 b
  unfolding start_at
  field_short b h = let (t, e) = w.short b h in rw e

  pub wide_field : Wide (field F) k f
  wide_field = record { there = field_there; short = λ b h. (b, field_short b h) }

  -- so many fields
  pub fields_there : (n : ℕ) (b : List ℕ) → n * k ≤ length b
      → read_many (field F) n b ≡ got (tab n (λ i. f (drop (i * k) b))) (drop (n * k) b)
  fields_there n b h = (wide_many (field F) k f wide_field n).there b h

  -- m of them are there and the next is cut
  pub fields_cut : (n m : ℕ) (b : List ℕ) → m < n → m * k ≤ length b → length b < suc m * k
      → read_many (field F) n b ≡ bad 20 (drop (m * k) b)
  unfolding read_many then
  fields_cut zero m b h l g = absurd (omega arith)
  fields_cut (suc n) zero b h l g = rw (zero-mul k, field_short b (omega (arith, suc-mul 0 k, zero-mul k)))
  fields_cut (suc n) (suc m) b h l g =
      let e : k + m * k ≡ suc m * k = omega (arith, suc-mul m k) in
      rw (
        field_there b (omega (arith, suc-mul m k)),
        fields_cut n m (drop k b) (omega arith) (omega (arith, suc-mul m k, length-drop k b))
            (omega (arith, suc-mul (suc m) k, length-drop k b)),
        drop-drop (m * k) k b,
        e,
      )
