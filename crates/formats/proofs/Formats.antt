-- The laws of formats. A format that is put together from formats has its
-- laws from theirs: none is proved again for a whole plan.
use Prim.Native.Nat.{ℕ, zero, suc, ◌+◌, ◌^◌, ◌≤◌, ◌<◌}
use native.Mathlib.Omega.{arith}
use mathlib.Core.Bool.{Bool, true, false}
use mathlib.Core.List.{List, [], ◌∷◌, ◌++◌, append_assoc, append-nil}
use mathlib.Core.Logic.{◌⊎◌, inl, inr, ⊎_elim}
use mathlib.Core.Path.{◌≡◌, refl, sym, ap, ap₂, subst, ◌∙◌}
use borrow.Author.Tests.{le-leb, lt-leb, leb-true, leb-false, eq-eqb, ne_eqb, eqb-true, eqb-false}
use lib.Dec.{leb, eqb}
use lib.ListN.{length, get_or, take, drop, length-append, length-take, take-append-drop}
use lib.Seq.{take_at, drop_at, get_or-append-add}
use Rattle.lists.specs.Bytes.{little, bytes_of, Bytes}
use Rattle.lists.specs.Tests.{all_of}
use Rattle.lists.proofs.Tests.{holds_or_fails, parts, whole}
use Rattle.lists.proofs.Bytes.{bytes_take, length_bytes, little_bytes, bytes_little, little_below}
use Rattle.formats.specs.Formats.{Out, got, bad, left, when, then, Format, read_number, number, read_with}
use Rattle.formats.specs.Formats.{write_with, with, read_both, write_both, both, start_at, field, read_as, as_type}
use Rattle.formats.specs.Formats.{read_many, write_many, many}
use Rattle.formats.specs.Formats.{within, read_count, read_headed, write_headed, headed, listed, at_end, read_file}
use Rattle.formats.specs.Formats.{nothing, exactly, All, InRange}
use Rattle.formats.specs.Formats.{as_many, ListFits, AsManyFit}

-- t is the end of b
abbrev pub Part : List ℕ → List ℕ → Type 0
Part t b = (w : List ℕ) × (b ≡ w ++ t)

pub part_trans : (t s b : List ℕ) → Part t s → Part s b → Part t b
part_trans t s b p q = (q.0 ++ p.0, q.1 ∙ ap (λ (l : List ℕ). q.0 ++ l) p.1 ∙ sym (append_assoc q.0 p.0 t))

-- the numbers of a field: not wholly there, or a count out of range
abbrev pub Told : ℕ → Type 0
Told k = (k ≡ 20) ⊎ (k ≡ 21)

pub record Lawful {A : Type 0} (F : Format A) (Fits : A → Type 0) : Type 0 where
  -- what is written is read back, whatever follows it
  pub back : (x : A) (t : List ℕ) → Fits x → F.read (F.write x ++ t) ≡ got x t
  -- no slack: what is read is what is written of it, and it fits
  pub tight : (b : List ℕ) (x : A) (t : List ℕ) → Bytes b → F.read b ≡ got x t → (b ≡ F.write x ++ t) × Fits x
  -- a reader only goes forward, also where it refuses
  pub part : (b : List ℕ) → Part (left (F.read b)) b
  -- every refusal is one of a field
  pub refuses : (b : List ℕ) (k : ℕ) (t : List ℕ) → F.read b ≡ bad k t → Told k

-- what is left stands at a place
pub part_at : (t b : List ℕ) → Part t b → (at : ℕ) × (at ≤ length b) × (t ≡ drop at b)
part_at t b (w, e) = (
  length w,
  omega (arith, ap length e, length-append w t),
  sym (ap (drop (length w)) e ∙ drop_at w t (length w) refl),
)

-- ---- what every reader is made of
then_part : {A B : Type 0} (o : Out A) (f : A → List ℕ → Out B) (b : List ℕ) → Part (left o) b
    → ((x : A) (t : List ℕ) → Part (left (f x t)) t) → Part (left (then o f)) b
unfolding left then
then_part (got x t) f b p h = part_trans (left (f x t)) t b (h x t) p
then_part (bad k t) f b p h = p

when_part : {A : Type 0} (c : Bool) (o : Out A) (k : ℕ) (t b : List ℕ) → Part (left o) b → Part t b
    → Part (left (when c o (bad k t))) b
unfolding left when
when_part true o k t b p q = p
when_part false o k t b p q = q

no_value : {A : Type 0} (k : ℕ) (s : List ℕ) (x : A) (t : List ℕ) → bad k s ≡ got x t → ⊥
no_value k s x t e = let z : ◌≡◌ {A = ℕ} 0 1 = cc in omega arith

pub then_got : {A B : Type 0} (o : Out A) (f : A → List ℕ → Out B) (x : B) (t : List ℕ) → then o f ≡ got x t
    → (y : A) × (s : List ℕ) × (o ≡ got y s) × (f y s ≡ got x t)
unfolding then
then_got (got y s) f x t e = (y, s, refl, e)
then_got (bad k s) f x t e = absurd (no_value k s x t e)

when_got : {A : Type 0} (c : Bool) (o : Out A) (k : ℕ) (s : List ℕ) (x : A) (t : List ℕ) → when c o (bad k s) ≡ got x t
    → (c ≡ true) × (o ≡ got x t)
unfolding when
when_got true o k s x t e = (refl, e)
when_got false o k s x t e = absurd (no_value k s x t e)

-- ---- what a reader that refuses went through
no_refusal : {A : Type 0} (x : A) (s : List ℕ) (k : ℕ) (t : List ℕ) → got x s ≡ bad k t → ⊥
no_refusal x s k t e = let z : ◌≡◌ {A = ℕ} 0 1 = cc in omega arith

same_number : {A : Type 0} (j k : ℕ) (s t : List ℕ) → ◌≡◌ {A = Out A} (bad j s) (bad k t) → j ≡ k
same_number j k s t e = cc

-- (P is what is known of the number of each part's refusals)
then_bad : {A B : Type 0} (o : Out A) (f : A → List ℕ → Out B) (P : ℕ → Type 0)
    → ((k : ℕ) (t : List ℕ) → o ≡ bad k t → P k) → ((x : A) (s : List ℕ) (k : ℕ) (t : List ℕ) → f x s ≡ bad k t → P k)
    → (k : ℕ) (t : List ℕ) → then o f ≡ bad k t → P k
unfolding then
then_bad (got x s) f P h g k t e = g x s k t e
then_bad (bad j s) f P h g k t e = subst P (same_number j k s t e) (h j s refl)

when_bad : {A : Type 0} (c : Bool) (o : Out A) (j : ℕ) (s : List ℕ) (P : ℕ → Type 0)
    → ((k : ℕ) (t : List ℕ) → o ≡ bad k t → P k) → P j → (k : ℕ) (t : List ℕ) → when c o (bad j s) ≡ bad k t → P k
unfolding when
when_bad true o j s P h p k t e = h k t e
when_bad false o j s P h p k t e = subst P (same_number j k s t e) p

-- what is left of bytes is bytes
left_bytes : (b w t : List ℕ) → b ≡ w ++ t → Bytes b → Bytes t
left_bytes b w t e h i =
    rw (get_or-append-add w t i 0) at (subst (λ (l : List ℕ). get_or l (length w + i) 0 < 256) e (h (length w + i)))

-- ---- a number of k bytes
module _ (k : ℕ) where
  back_number : (n : ℕ) (t : List ℕ) → n < 256 ^ k → read_number k (bytes_of k n ++ t) ≡ got n t
  unfolding read_number when
  back_number n t h =
      let l : length (bytes_of k n) ≡ k = length_bytes k n in
      rw (
        le-leb k (length (bytes_of k n ++ t)) (omega (arith, length-append (bytes_of k n) t)),
        take_at (bytes_of k n) t k l,
        drop_at (bytes_of k n) t k l,
        little_bytes k n h,
      )

  tight_number : (b : List ℕ) (n : ℕ) (t : List ℕ) → Bytes b → read_number k b ≡ got n t
      → (b ≡ bytes_of k n ++ t) × (n < 256 ^ k)
  unfolding read_number
  tight_number b n t h e =
      let g = when_got (leb k (length b)) (got (little (take k b)) (drop k b)) 20 b n t e in
      let f : got (little (take k b)) (drop k b) ≡ got n t = g.1 in
      let en : little (take k b) ≡ n = cc in
      let et : drop k b ≡ t = cc in
      let hb : Bytes (take k b) = bytes_take k b h in
      let l : length (take k b) ≡ k = omega (arith, leb-true k (length b) g.0, length-take k b) in
      let w : bytes_of k n ≡ take k b = ap₂ (λ (i m : ℕ). bytes_of i m) (sym l) (sym en) ∙ bytes_little (take k b) hb in
      (sym (take-append-drop k b) ∙ ap₂ (λ (x y : List ℕ). x ++ y) (sym w) et, below (little_below (take k b) hb) en l)
    where
      below : {x y i j : ℕ} → x < 256 ^ i → x ≡ y → i ≡ j → y < 256 ^ j
      below p q r = rw (← q, ← r) p

  part_number : (b : List ℕ) → Part (left (read_number k b)) b
  unfolding read_number left
  part_number b =
      when_part (leb k (length b)) (got (little (take k b)) (drop k b)) 20 b b (take k b, sym (take-append-drop k b))
      ([], refl)

  refuses_number : (b : List ℕ) (j : ℕ) (t : List ℕ) → read_number k b ≡ bad j t → Told j
  unfolding read_number
  refuses_number b =
      when_bad (leb k (length b)) (got (little (take k b)) (drop k b)) 20 b Told
      (λ j t e. absurd (no_refusal (little (take k b)) (drop k b) j t e)) (inl refl)

  pub lawful_number : Lawful (number k) (λ n. n < 256 ^ k)
  lawful_number = record { back = back_number; tight = tight_number; part = part_number; refuses = refuses_number }

-- ---- one after another
module _ {A B : Type 0} (F : Format A) (G : A → Format B) (P : A → Type 0) (Q : A → B → Type 0) (f : Lawful F P)
    (g : (x : A) → Lawful (G x) (Q x)) where
  back_with : (p : A × B) (t : List ℕ) → P p.0 × Q p.0 p.1 → read_with F G (write_with F G p ++ t) ≡ got p t
  unfolding read_with write_with then
  back_with p t h =
      rw (
        append_assoc (F.write p.0) ((G p.0).write p.1) t,
        f.back p.0 ((G p.0).write p.1 ++ t) h.0,
        (g p.0).back p.1 t h.1,
      )

  tight_with : (b : List ℕ) (p : A × B) (t : List ℕ) → Bytes b → read_with F G b ≡ got p t
      → (b ≡ write_with F G p ++ t) × (P p.0 × Q p.0 p.1)
  unfolding read_with write_with then
  tight_with b p t h e =
      let (x, s, ex, e') = then_got (F.read b) (λ x s. then ((G x).read s) (λ y t. got (x, y) t)) p t e in
      let (y, u, ey, ep) = then_got ((G x).read s) (λ y t. got (x, y) t) p t e' in
      let m = f.tight b x s h ex in
      let n = (g x).tight s y u (left_bytes b (F.write x) s m.0 h) ey in
      let q : (x, y) ≡ p = cc in
      let eu : u ≡ t = cc in
      let w : b ≡ (F.write x ++ (G x).write y) ++ u =
      m.0 ∙ ap (λ (l : List ℕ). F.write x ++ l) n.0 ∙ sym (append_assoc (F.write x) ((G x).write y) u) in
      subst (λ (r : A × B). (b ≡ (F.write r.0 ++ (G r.0).write r.1) ++ t) × (P r.0 × Q r.0 r.1)) q
      (rw eu at w, (m.1, n.1))

  part_with : (b : List ℕ) → Part (left (read_with F G b)) b
  unfolding read_with left
  part_with b =
      then_part (F.read b) (λ x s. then ((G x).read s) (λ y t. got (x, y) t)) b (f.part b)
      (λ x s. then_part ((G x).read s) (λ y t. got (x, y) t) s ((g x).part s) (λ y t. ([], refl)))

  refuses_with : (b : List ℕ) (k : ℕ) (t : List ℕ) → read_with F G b ≡ bad k t → Told k
  unfolding read_with
  refuses_with b =
      then_bad (F.read b) (λ x s. then ((G x).read s) (λ y t. got (x, y) t)) Told (f.refuses b)
      (λ x s. then_bad ((G x).read s) (λ y t. got (x, y) t) Told ((g x).refuses s)
      (λ y u k t e. absurd (no_refusal (x, y) u k t e)))

  pub lawful_with : Lawful (with F G) (λ p. P p.0 × Q p.0 p.1)
  lawful_with = record { back = back_with; tight = tight_with; part = part_with; refuses = refuses_with }

pub lawful_both : {A B : Type 0} (F : Format A) (G : Format B) (P : A → Type 0) (Q : B → Type 0) → Lawful F P
    → Lawful G Q → Lawful (both F G) (λ p. P p.0 × Q p.1)
unfolding read_both write_both
lawful_both F G P Q f g =
    let h = lawful_with F (λ x. G) P (λ x. Q) f (λ x. g) in
    record { back = h.back; tight = h.tight; part = h.part; refuses = h.refuses }

-- ---- as one field
module _ {A : Type 0} (F : Format A) (P : A → Type 0) (f : Lawful F P) where
  back_field : (x : A) (t : List ℕ) → P x → start_at (F.write x ++ t) (F.read (F.write x ++ t)) ≡ got x t
  unfolding start_at
  back_field x t h = rw (f.back x t h)

  start_got : (b : List ℕ) (o : Out A) (x : A) (t : List ℕ) → start_at b o ≡ got x t → o ≡ got x t
  unfolding start_at
  start_got b (got y s) x t e = e
  start_got b (bad k s) x t e = absurd (no_value k b x t e)

  start_part : (b : List ℕ) (o : Out A) → Part (left o) b → Part (left (start_at b o)) b
  unfolding start_at left
  start_part b (got x t) p = p
  start_part b (bad k t) p = ([], refl)

  start_bad : (b : List ℕ) (o : Out A) → ((k : ℕ) (t : List ℕ) → o ≡ bad k t → Told k) → (k : ℕ) (t : List ℕ)
      → start_at b o ≡ bad k t → Told k
  unfolding start_at
  start_bad b (got x s) h k t e = absurd (no_refusal x s k t e)
  start_bad b (bad j s) h k t e = subst Told (same_number j k b t e) (h j s refl)

  pub lawful_field : Lawful (field F) P
  lawful_field = record {
    back = back_field;
    tight = λ b x t h e. f.tight b x t h (start_got b (F.read b) x t e);
    part = λ b. start_part b (F.read b) (f.part b);
    refuses = λ b. start_bad b (F.read b) (f.refuses b);
  }

-- ---- seen as another type
module _ {A B : Type 0} (F : Format A) (P : A → Type 0) (f : Lawful F P) (to : A → B) (from : B → A)
    (there : (y : B) → to (from y) ≡ y) (here : (x : A) → P x → from (to x) ≡ x) where
  back_as : (y : B) (t : List ℕ) → P (from y) → read_as F to from (F.write (from y) ++ t) ≡ got y t
  unfolding read_as then
  back_as y t h = rw (f.back (from y) t h, there y)

  tight_as : (b : List ℕ) (y : B) (t : List ℕ) → Bytes b → read_as F to from b ≡ got y t
      → (b ≡ F.write (from y) ++ t) × P (from y)
  unfolding read_as
  tight_as b y t h e =
      let (x, s, ex, e') = then_got (F.read b) (λ x t. got (to x) t) y t e in
      let m = f.tight b x s h ex in
      let q : to x ≡ y = cc in
      let es : s ≡ t = cc in
      let w : x ≡ from y = sym (here x m.1) ∙ ap from q in
      subst (λ (z : A). (b ≡ F.write z ++ t) × P z) w (rw es at m.0, m.1)

  part_as : (b : List ℕ) → Part (left (read_as F to from b)) b
  unfolding read_as left
  part_as b = then_part (F.read b) (λ x t. got (to x) t) b (f.part b) (λ x t. ([], refl))

  refuses_as : (b : List ℕ) (k : ℕ) (t : List ℕ) → read_as F to from b ≡ bad k t → Told k
  unfolding read_as
  refuses_as b =
      then_bad (F.read b) (λ x t. got (to x) t) Told (f.refuses b) (λ x s k t e. absurd (no_refusal (to x) s k t e))

  pub lawful_as : Lawful (as_type F to from) (λ y. P (from y))
  lawful_as = record { back = back_as; tight = tight_as; part = part_as; refuses = refuses_as }

-- ---- what fits, said in another way
pub lawful_fits : {A : Type 0} (F : Format A) (P Q : A → Type 0) → Lawful F P → ((x : A) → P x → Q x)
    → ((x : A) → Q x → P x) → Lawful F Q
lawful_fits F P Q f to from = record {
  back = λ x t h. f.back x t (from x h);
  tight = λ b x t h e. (let m = f.tight b x t h e in (m.0, to x m.1));
  part = f.part;
  refuses = f.refuses;
}

-- ---- n of one kind
module _ {A : Type 0} (F : Format A) where
  pub many_append : (xs ys : List A) → write_many F (xs ++ ys) ≡ write_many F xs ++ write_many F ys
  unfolding write_many
  many_append [] ys = refl
  many_append (x ∷ xs) ys =
      ap (λ (l : List ℕ). F.write x ++ l) (many_append xs ys)
      ∙ sym (append_assoc (F.write x) (write_many F xs) (write_many F ys))

  pub many_one : (x : A) → write_many F (x ∷ []) ≡ F.write x
  unfolding write_many
  many_one x = append-nil (F.write x)

module _ {A : Type 0} (F : Format A) (P : A → Type 0) (f : Lawful F P) where
  back_many : (xs : List A) (t : List ℕ) → All P xs → read_many F (length xs) (write_many F xs ++ t) ≡ got xs t
  unfolding read_many write_many then
  back_many [] t h = refl
  back_many (x ∷ xs) t h =
      rw (append_assoc (F.write x) (write_many F xs) t, f.back x (write_many F xs ++ t) h.0, back_many xs t h.1)

  tight_many : (n : ℕ) (b : List ℕ) (xs : List A) (t : List ℕ) → Bytes b → read_many F n b ≡ got xs t
      → (b ≡ write_many F xs ++ t) × ((length xs ≡ n) × All P xs)
  unfolding read_many write_many then
  tight_many zero b xs t h e =
      let q : [] ≡ xs = cc in
      let et : b ≡ t = cc in
      subst (λ (l : List A). (b ≡ write_many F l ++ t) × ((length l ≡ 0) × All P l)) q (et, (refl, tt))
  tight_many (suc n) b xs t h e =
      let (x, s, ex, e') = then_got (F.read b) (λ x s. then (read_many F n s) (λ xs t. got (x ∷ xs) t)) xs t e in
      let (ys, u, ey, ep) = then_got (read_many F n s) (λ xs t. got (x ∷ xs) t) xs t e' in
      let m = f.tight b x s h ex in
      let g = tight_many n s ys u (left_bytes b (F.write x) s m.0 h) ey in
      let q : x ∷ ys ≡ xs = cc in
      let eu : u ≡ t = cc in
      let w : b ≡ (F.write x ++ write_many F ys) ++ u =
      m.0 ∙ ap (λ (l : List ℕ). F.write x ++ l) g.0 ∙ sym (append_assoc (F.write x) (write_many F ys) u) in
      subst (λ (l : List A). (b ≡ write_many F l ++ t) × ((length l ≡ suc n) × All P l)) q
      (rw eu at w, (ap suc g.1.0, (m.1, g.1.1)))

  part_many : (n : ℕ) (b : List ℕ) → Part (left (read_many F n b)) b
  unfolding read_many left
  part_many zero b = ([], refl)
  part_many (suc n) b =
      then_part (F.read b) (λ x s. then (read_many F n s) (λ xs t. got (x ∷ xs) t)) b (f.part b)
      (λ x s. then_part (read_many F n s) (λ xs t. got (x ∷ xs) t) s (part_many n s) (λ xs t. ([], refl)))

  refuses_many : (n : ℕ) (b : List ℕ) (k : ℕ) (t : List ℕ) → read_many F n b ≡ bad k t → Told k
  unfolding read_many
  refuses_many zero b k t e = absurd (no_refusal [] b k t e)
  refuses_many (suc n) b k t e =
      then_bad (F.read b) (λ x s. then (read_many F n s) (λ xs t. got (x ∷ xs) t)) Told (f.refuses b)
      (λ x s. then_bad (read_many F n s) (λ xs t. got (x ∷ xs) t) Told (refuses_many n s)
      (λ xs u k t e. absurd (no_refusal (x ∷ xs) u k t e))) k t e

  pub lawful_many : (n : ℕ) → Lawful (many F n) (λ xs. (length xs ≡ n) × All P xs)
  lawful_many n = record {
    back = λ xs t h. rw (← h.0) (back_many xs t h.1);
    tight = tight_many n;
    part = part_many n;
    refuses = refuses_many n;
  }

-- ---- a count
-- a range of one number
pub only_one : (k n : ℕ) → within k k n ≡ eqb n k
unfolding within all_of
only_one k n = ⊎_elim (λ h. equal (eqb-true n k h)) (λ h. other (eqb-false n k h)) (holds_or_fails (eqb n k))
  where
    equal : n ≡ k → within k k n ≡ eqb n k
    equal e = whole (leb k n ∷ leb n k ∷ []) (le-leb k n (omega arith), (le-leb n k (omega arith), tt)) ∙ sym (eq-eqb n k e)

    below : n < k → all_of (leb k n ∷ leb n k ∷ []) ≡ false
    below l = rw (lt-leb k n l)

    above : k < n → all_of (leb k n ∷ leb n k ∷ []) ≡ false
    above l = rw (le-leb k n (omega arith), lt-leb n k l)

    other : (n ≡ k → ⊥) → within k k n ≡ eqb n k
    other ne =
        ⊎_elim (λ h. let a : k ≤ n = leb-true k n h in above (omega arith)) (λ h. below (leb-false k n h))
        (holds_or_fails (leb k n))
        ∙ sym (ne_eqb n k ne)

module _ (w lo hi : ℕ) where
  back_count : (c : ℕ) (t : List ℕ) → c < 256 ^ w → lo ≤ c → c ≤ hi → read_count w lo hi (bytes_of w c ++ t) ≡ got c t
  unfolding read_count then when within
  back_count c t small a z =
      rw (back_number w c t small, whole (leb lo c ∷ leb c hi ∷ []) (le-leb lo c a, (le-leb c hi z, tt)))

  pub count_got : (b : List ℕ) (c : ℕ) (s : List ℕ) → read_count w lo hi b ≡ got c s
      → (read_number w b ≡ got c s) × ((lo ≤ c) × (c ≤ hi))
  unfolding read_count within
  count_got b c s e =
      let (n, u, en, e') = then_got (read_number w b) (λ c s. when (within lo hi c) (got c s) (bad 21 b)) c s e in
      let (l, g) = when_got (within lo hi n) (got n u) 21 b c s e' in
      let q : n ≡ c = cc in
      let (a, (z, _)) = parts (leb lo n ∷ leb n hi ∷ []) l in
      (en ∙ g, (rw q at (leb-true lo n a), rw q at (leb-true n hi z)))

  -- one out of range, whatever follows it
  pub count_refused : (c : ℕ) (t : List ℕ) → c < 256 ^ w → within lo hi c ≡ false
      → read_count w lo hi (bytes_of w c ++ t) ≡ bad 21 (bytes_of w c ++ t)
  unfolding read_count then when
  count_refused c t small out = rw (back_number w c t small, out)

  -- (a count out of range is refused where it begins, so what is left is no end of what stands after it: hence the
  -- cases)
  part_count : (b : List ℕ) → Part (left (read_count w lo hi b)) b
  unfolding read_count left then
  part_count b = by (read_number w b) (part_number w b)
    where
      by : (o : Out ℕ) → Part (left o) b → Part (left (then o (λ c s. when (within lo hi c) (got c s) (bad 21 b)))) b
      by (got c s) p = when_part (within lo hi c) (got c s) 21 b b p ([], refl)
      by (bad k t) p = p

  refuses_count : (b : List ℕ) (k : ℕ) (t : List ℕ) → read_count w lo hi b ≡ bad k t → Told k
  unfolding read_count
  refuses_count b =
      then_bad (read_number w b) (λ c s. when (within lo hi c) (got c s) (bad 21 b)) Told (refuses_number w b)
      (λ c s. when_bad (within lo hi c) (got c s) 21 b Told (λ k t e. absurd (no_refusal c s k t e)) (inr refl))

-- as many are read as were asked for, and each has what every value that is read has
module _ {A : Type 0} (F : Format A) (P : A → Type 0)
    (each : (b : List ℕ) (x : A) (t : List ℕ) → F.read b ≡ got x t → P x) where
  pub many_got : (n : ℕ) (b : List ℕ) (xs : List A) (t : List ℕ) → read_many F n b ≡ got xs t
      → (length xs ≡ n) × All P xs
  unfolding read_many
  many_got zero b xs t e = let q : [] ≡ xs = cc in subst (λ (l : List A). (length l ≡ 0) × All P l) q (refl, tt)
  many_got (suc n) b xs t e =
      let (x, s, ex, e') = then_got (F.read b) (λ x s. then (read_many F n s) (λ xs t. got (x ∷ xs) t)) xs t e in
      let (ys, u, ey, ep) = then_got (read_many F n s) (λ xs t. got (x ∷ xs) t) xs t e' in
      let g = many_got n s ys u ey in
      let q : x ∷ ys ≡ xs = cc in
      subst (λ (l : List A). (length l ≡ suc n) × All P l) q (ap suc g.0, (each b x s ex, g.1))

  pub listed_got : (w lo hi : ℕ) (b : List ℕ) (xs : List A) (t : List ℕ) → (listed w lo hi F).read b ≡ got xs t
      → (length xs ≤ hi) × All P xs
  unfolding read_headed
  listed_got w lo hi b xs t e =
      let (c, s, ec, e') = then_got (read_count w lo hi b) (λ c s. read_many F c s) xs t e in
      let (l, h) = many_got c s xs t e' in
      let m : c ≤ hi = (count_got w lo hi b c s ec).1.1 in
      (omega arith, h)

-- ---- after a count
module _ {A : Type 0} (w lo hi : ℕ) (F : ℕ → Format A) (size : A → ℕ) (P : ℕ → A → Type 0)
    (f : (c : ℕ) → Lawful (F c) (P c))
    (sized : (c : ℕ) (x : A) → lo ≤ c → c ≤ hi → P c x → size x ≡ c) where
  back_headed : (x : A) (t : List ℕ) → InRange w lo hi size P x
      → read_headed w lo hi F size (write_headed w lo hi F size x ++ t) ≡ got x t
  unfolding read_headed write_headed then
  back_headed x t h =
      rw (
        append_assoc (bytes_of w (size x)) ((F (size x)).write x) t,
        back_count w lo hi (size x) ((F (size x)).write x ++ t) h.said h.least h.most,
        (f (size x)).back x t h.fits,
      )

  tight_headed : (b : List ℕ) (x : A) (t : List ℕ) → Bytes b → read_headed w lo hi F size b ≡ got x t
      → (b ≡ write_headed w lo hi F size x ++ t) × InRange w lo hi size P x
  unfolding read_headed write_headed
  tight_headed b x t h e =
      let (c, s, ec, e') = then_got (read_count w lo hi b) (λ c s. (F c).read s) x t e in
      let (en, (a, z)) = count_got w lo hi b c s ec in
      let k = tight_number w b c s h en in
      let g = (f c).tight s x t (left_bytes b (bytes_of w c) s k.0 h) e' in
      let q : size x ≡ c = sized c x a z g.1 in
      let v : b ≡ (bytes_of w c ++ (F c).write x) ++ t =
      k.0 ∙ ap (λ (r : List ℕ). bytes_of w c ++ r) g.0 ∙ sym (append_assoc (bytes_of w c) ((F c).write x) t) in
      (rw q v, record { said = rw q k.1; least = rw q a; most = rw q z; fits = rw q g.1 })

  part_headed : (b : List ℕ) → Part (left (read_headed w lo hi F size b)) b
  unfolding read_headed left
  part_headed b = then_part (read_count w lo hi b) (λ c s. (F c).read s) b (part_count w lo hi b) (λ c s. (f c).part s)

  refuses_headed : (b : List ℕ) (k : ℕ) (t : List ℕ) → read_headed w lo hi F size b ≡ bad k t → Told k
  unfolding read_headed
  refuses_headed b =
      then_bad (read_count w lo hi b) (λ c s. (F c).read s) Told (refuses_count w lo hi b) (λ c s. (f c).refuses s)

  pub lawful_headed : Lawful (headed w lo hi F size) (InRange w lo hi size P)
  lawful_headed = record { back = back_headed; tight = tight_headed; part = part_headed; refuses = refuses_headed }

-- a list, and as many of another kind
pub lawful_as_many : {A B : Type 0} (w : ℕ) (F : Format (List A)) (P : List A → Type 0) → Lawful F P
    → (G : Format B) (Q : B → Type 0) → Lawful G Q → Lawful (as_many w F G) (AsManyFit w P Q)
lawful_as_many w F P f G Q g =
    lawful_with F (λ xs. listed w (length xs) (length xs) G) P (λ xs. ListFits w (length xs) (length xs) Q) f
    (λ xs. lawful_headed w (length xs) (length xs) (many G) length (λ n ys. (length ys ≡ n) × All Q ys)
    (lawful_many G Q g) (λ c ys a z h. h.0))

-- ---- given numbers: each is a count that has one value
lawful_nothing : Lawful nothing (λ u. Unit {0})
unfolding left
lawful_nothing = record {
  back = λ u t h. refl;
  tight = λ b u t h e. (let q : b ≡ t = cc in (q, tt));
  part = λ b. ([], refl);
  refuses = λ b k t e. absurd (no_refusal tt b k t e);
}

pub lawful_exactly : (w : ℕ) (ns : List ℕ) → Lawful (exactly w ns) (λ u. All (λ (n : ℕ). n < 256 ^ w) ns)
lawful_exactly w [] = lawful_nothing
lawful_exactly w (n ∷ ns) =
    let said : List ℕ → Type 0 = All (λ (n : ℕ). n < 256 ^ w) in
    lawful_fits (exactly w (n ∷ ns)) (InRange w n n (λ u. n) (λ c u. said ns)) (λ u. said (n ∷ ns))
    (lawful_headed w n n (λ c. exactly w ns) (λ u. n) (λ c u. said ns) (λ c. lawful_exactly w ns)
    (λ c u a z h. omega arith))
    (λ u h. (h.said, h.fits))
    (λ u h. record { said = h.0; least = omega arith; most = omega arith; fits = h.1 })

-- ---- the whole file
-- a file that reads whole is what its format reads, and has nothing left
pub file_got : {A : Type 0} (F : Format A) (b : List ℕ) (x : A) (t : List ℕ) → read_file F b ≡ got x t
    → F.read b ≡ got x []
unfolding read_file at_end
file_got {A} F b x t e =
    let (y, s, ey, f) = then_got (F.read b) at_end x t e in
    let (q, r) = end_got y s f in
    ey ∙ ap₂ (λ (z : A) (w : List ℕ). got z w) q r
  where
    end_got : (y : A) (s : List ℕ) → at_end y s ≡ got x t → (y ≡ x) × (s ≡ [])
    end_got y [] g = (cc, refl)
    end_got y (c ∷ s) g = absurd (no_value 22 (c ∷ s) x t g)

pub file_ends : {A : Type 0} (F : Format A) (b : List ℕ) (x : A) (t : List ℕ) → read_file F b ≡ got x t → t ≡ []
unfolding read_file then at_end
file_ends {A} F b x t e =
    let g : got x [] ≡ got x t = sym (ap (λ (o : Out A). then o at_end) (file_got F b x t e)) ∙ e in
    cc

module _ {A : Type 0} (F : Format A) (P : A → Type 0) (f : Lawful F P) where
  -- reading what was written gives it back
  pub file_back : (x : A) → P x → read_file F (F.write x) ≡ got x []
  unfolding read_file then at_end
  file_back x h = ap (λ (o : Out A). then o at_end) (ap F.read (sym (append-nil (F.write x))) ∙ f.back x [] h)

  -- whatever reads whole is what is written of it
  pub file_tight : (b : List ℕ) (x : A) (t : List ℕ) → Bytes b → read_file F b ≡ got x t → (b ≡ F.write x) × P x
  file_tight b x t h e = let m = f.tight b x [] h (file_got F b x t e) in (m.0 ∙ append-nil (F.write x), m.1)

  end_bad : (x : A) (s : List ℕ) (k : ℕ) (t : List ℕ) → at_end x s ≡ bad k t → k ≡ 22
  unfolding at_end
  end_bad x [] k t e = absurd (no_refusal x [] k t e)
  end_bad x (c ∷ s) k t e = sym (same_number 22 k (c ∷ s) t e)

  -- a refusal of the whole is one of a field, or 22
  pub file_refuses : (b : List ℕ) (k : ℕ) (t : List ℕ) → read_file F b ≡ bad k t → Told k ⊎ (k ≡ 22)
  unfolding read_file
  file_refuses b =
      then_bad (F.read b) at_end (λ k. Told k ⊎ (k ≡ 22)) (λ k t e. inl (f.refuses b k t e))
      (λ x s k t e. inr (end_bad x s k t e))

-- ---- what a reader that is put together went through
module _ {A B : Type 0} (F : Format A) (G : A → Format B) where
  pub with_got : (b : List ℕ) (x : A) (y : B) (t : List ℕ) → read_with F G b ≡ got (x, y) t
      → (s : List ℕ) × (F.read b ≡ got x s) × ((G x).read s ≡ got y t)
  unfolding read_with
  with_got b x y t e =
      let (x0, s, ex, f) = then_got (F.read b) (λ x s. then ((G x).read s) (λ y t. got (x, y) t)) (x, y) t e in
      let (y0, u, ey, g) = then_got ((G x0).read s) (λ y t. got (x0, y) t) (x, y) t f in
      let q : ◌≡◌ {A = A × B} (x0, y0) (x, y) = cc in
      let v : u ≡ t = cc in (
        s,
        ex ∙ ap (λ (z : A × B). got z.0 s) q,
        ap (λ (z : A × B). (G z.0).read s) (sym q) ∙ ey ∙ ap₂ (λ (z : A × B) (w : List ℕ). got z.1 w) q v,
      )

pub both_got : {A B : Type 0} (F : Format A) (G : Format B) (b : List ℕ) (x : A) (y : B) (t : List ℕ)
    → (both F G).read b ≡ got (x, y) t → (s : List ℕ) × (F.read b ≡ got x s) × (G.read s ≡ got y t)
unfolding read_both
both_got F G b x y t e = with_got F (λ z. G) b x y t e

pub as_got : {A B : Type 0} (F : Format A) (to : A → B) (from : B → A) → ((x : A) → from (to x) ≡ x)
    → (b : List ℕ) (y : B) (t : List ℕ) → (as_type F to from).read b ≡ got y t → F.read b ≡ got (from y) t
unfolding read_as
as_got {A} F to from here b y t e =
    let (x, s, ex, f) = then_got (F.read b) (λ x t. got (to x) t) y t e in
    let q : to x ≡ y = cc in
    let v : s ≡ t = cc in
    ex ∙ ap₂ (λ (z : A) (w : List ℕ). got z w) (sym (here x) ∙ ap from q) v

-- a count is judged before its elements: here they are missing, too
count_first : (listed 4 0 1 (number 4)).read (2 ∷ 0 ∷ 0 ∷ 0 ∷ []) ≡ bad 21 (2 ∷ 0 ∷ 0 ∷ 0 ∷ [])
unfolding read_headed read_count read_number within all_of when then little
count_first = refl

-- as many as the list has: here there is one fewer
as_many_judged : (as_many 1 (listed 1 0 2 (number 1)) (number 1)).read (2 ∷ 7 ∷ 8 ∷ 1 ∷ 9 ∷ []) ≡ bad 21 (1 ∷ 9 ∷ [])
unfolding read_with read_headed read_count read_many read_number within all_of when then little
as_many_judged = refl
