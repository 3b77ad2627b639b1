-- A reader whose counts have bounds of its own, given what another wrote, refuses with 21 the first count above its
-- bound, where that count stands. A format that is put together from formats has this from them.
use Prim.Native.Nat.{ℕ, zero, suc, ◌+◌, ◌^◌, ◌≤◌, ◌<◌}
use native.Mathlib.Omega.{arith}
use mathlib.Core.Bool.{Bool, true, false, cond}
use mathlib.Core.List.{List, [], ◌∷◌, ◌++◌, map, append_assoc, append-nil}
use mathlib.Core.Path.{◌≡◌, refl, sym, ap, ◌∙◌}
use borrow.Author.Tests.{ltb-true, ltb-false, le-leb, leb-true}
use lib.Dec.{ltb, leb}
use lib.ListN.{length, get_or, drop}
use lib.Seq.{drop-drop, drop_at}
use Rattle.lists.specs.Bytes.{bytes_of}
use Rattle.lists.specs.Orders.{keep}
use Rattle.lists.specs.Rules.{Silent, Rule, Applies}
use Rattle.lists.proofs.Bytes.{length_bytes}
use Rattle.lists.proofs.Tests.{parts, whole, false_of}
use Rattle.formats.specs.Formats.{Out, got, bad, when, then, Format, read_number, read_both, both, read_as, as_type}
use Rattle.formats.specs.Formats.{read_many, write_many, many, within, read_count, read_headed, write_headed, listed}
use Rattle.formats.specs.Formats.{at_end, read_file, All, ListFits}
use Rattle.formats.specs.Sizes.{total, along}
use Rattle.formats.proofs.Formats.{lawful_number, lawful_many, Lawful}

-- refused with 21 at the place of the first rule that applies, or what comes out otherwise
unfoldable pub stopped : {A : Type 0} → List ℕ → List (Rule ℕ) → Out A → Out A
stopped b [] o = o
stopped b (r ∷ rs) o = cond r.1 (bad 21 (drop r.0 b)) (stopped b rs o)

-- the bytes w at a place are read as x, unless one of the counts in them is too high
abbrev pub Judged : {A : Type 0} → Format A → List ℕ → A → ℕ → List (Rule ℕ) → Type 0
Judged F w x at rs = (b t : List ℕ) → drop at b ≡ w ++ t → F.read (w ++ t) ≡ stopped b rs (got x t)

-- ---- rules one after another, and what follows a reader
stopped_append : {A : Type 0} (b : List ℕ) (rs qs : List (Rule ℕ)) (o : Out A)
    → stopped b (rs ++ qs) o ≡ stopped b rs (stopped b qs o)
unfolding stopped
stopped_append b [] qs o = refl
stopped_append b (r ∷ rs) qs o = ap (cond r.1 (bad 21 (drop r.0 b))) (stopped_append b rs qs o)

then_stopped : {A B : Type 0} (b : List ℕ) (rs : List (Rule ℕ)) (o : Out A) (f : A → List ℕ → Out B)
    → then (stopped b rs o) f ≡ stopped b rs (then o f)
unfolding stopped then
then_stopped b [] o f = refl
then_stopped {A} {B} b (r ∷ rs) o f = by r.1 ∙ ap (cond r.1 (bad 21 (drop r.0 b))) (then_stopped b rs o f)
  where
    by : (c : Bool)
        → then (cond c (bad 21 (drop r.0 b)) (stopped b rs o)) f
        ≡ cond c (bad 21 (drop r.0 b)) (then (stopped b rs o) f)
    by true = refl
    by false = refl

-- what stands after u
next_place : (b u v t : List ℕ) (at n : ℕ) → length u ≡ n → drop at b ≡ (u ++ v) ++ t → drop (at + n) b ≡ v ++ t
next_place b u v t at n l e = sym (drop-drop n at b) ∙ ap (drop n) (e ∙ append_assoc u v t) ∙ drop_at u (v ++ t) n l

-- ---- a format without such counts
pub judged_back : {A : Type 0} (F : Format A) (P : A → Type 0) → Lawful F P → (x : A) → P x → (at : ℕ)
    → Judged F (F.write x) x at []
unfolding stopped
judged_back F P f x h at b t e = f.back x t h

-- ---- one after another
module _ {A B : Type 0} (F : Format A) (G : Format B) (u v : List ℕ) (x : A) (y : B) (at n : ℕ)
    (rs qs : List (Rule ℕ)) where
  pub judged_both : length u ≡ n → Judged F u x at rs → Judged G v y (at + n) qs
      → Judged (both F G) (u ++ v) (x, y) at (rs ++ qs)
  unfolding read_both then
  judged_both l f g b t e =
      let after : A → List ℕ → Out (A × B) = λ a s. then (G.read s) (λ c r. got (a, c) r) in
      let join : B → List ℕ → Out (A × B) = λ c r. got (x, c) r in
      let second : then (G.read (v ++ t)) join ≡ stopped b qs (got (x, y) t) =
      ap (λ (o : Out B). then o join) (g b t (next_place b u v t at n l e)) ∙ then_stopped b qs (got y t) join in
      ap (λ (s : List ℕ). then (F.read s) after) (append_assoc u v t)
      ∙ ap (λ (o : Out A). then o after) (f b (v ++ t) (e ∙ append_assoc u v t))
      ∙ then_stopped b rs (got x (v ++ t)) after
      ∙ ap (stopped b rs) second
      ∙ sym (stopped_append b rs qs (got (x, y) t))

-- ---- seen as another type
pub judged_as : {A B : Type 0} (F : Format A) (to : A → B) (from : B → A) (w : List ℕ) (x : A) (at : ℕ)
    (rs : List (Rule ℕ))
    → Judged F w x at rs → Judged (as_type F to from) w (to x) at rs
unfolding read_as then
judged_as {A} F to from w x at rs f b t e =
    ap (λ (o : Out A). then o (λ a s. got (to a) s)) (f b t e) ∙ then_stopped b rs (got x t) (λ a s. got (to a) s)

-- ---- n of one kind, written by another format
module _ {A : Type 0} (F G : Format A) (P : A → Type 0) (size : A → ℕ) (give : ℕ → A → List (Rule ℕ))
    (sized : (x : A) → length (G.write x) ≡ size x)
    (each : (x : A) (at : ℕ) → P x → Judged F (G.write x) x at (give at x)) where
  pub judged_many : (xs : List A) (at : ℕ) → All P xs
      → Judged (many F (length xs)) (write_many G xs) xs at (along size give at xs)
  unfolding read_many write_many along stopped then
  judged_many [] at h b t e = refl
  judged_many (x ∷ xs) at h b t e =
      let rest : List (Rule ℕ) = along size give (at + size x) xs in
      let after : A → List ℕ → Out (List A) = λ a s. then (read_many F (length xs) s) (λ later r. got (a ∷ later) r) in
      let onward : after x (write_many G xs ++ t) ≡ stopped b rest (got (x ∷ xs) t) =
      ap (λ (o : Out (List A)). then o (λ later r. got (x ∷ later) r))
      (judged_many xs (at + size x) h.1 b t
      (next_place b (G.write x) (write_many G xs) t at (size x) (sized x) e))
      ∙ then_stopped b rest (got xs t) (λ later r. got (x ∷ later) r) in
      ap (λ (s : List ℕ). then (F.read s) after) (append_assoc (G.write x) (write_many G xs) t)
      ∙ ap (λ (o : Out A). then o after)
      (each x at h.0 b (write_many G xs ++ t) (e ∙ append_assoc (G.write x) (write_many G xs) t))
      ∙ then_stopped b (give at x) (got x (write_many G xs ++ t)) after
      ∙ ap (stopped b (give at x)) onward
      ∙ sym (stopped_append b (give at x) rest (got (x ∷ xs) t))

-- ---- a list after its count
module _ {A : Type 0} (F : Format A) (w lo hi : ℕ) (xs : List A) (v : List ℕ) (at : ℕ) (rs : List (Rule ℕ)) where
  too_many_law : ltb hi (length xs) ≡ true → within lo hi (length xs) ≡ false
  unfolding within
  too_many_law h =
      let tests : List Bool = leb lo (length xs) ∷ leb (length xs) hi ∷ [] in
      let above : hi < length xs = ltb-true hi (length xs) h in
      false_of _ (λ e. let q : length xs ≤ hi = leb-true _ _ (parts tests e).1.0 in omega arith)

  few_enough : lo ≤ length xs → ltb hi (length xs) ≡ false → within lo hi (length xs) ≡ true
  unfolding within
  few_enough a h =
      whole (leb lo (length xs) ∷ leb (length xs) hi ∷ []) (le-leb _ _ a, (le-leb _ _ (ltb-false hi (length xs) h), tt))

  -- a count that was read, judged: the refusal begins where it stands
  unfoldable judge : List ℕ → ℕ → List ℕ → Out ℕ
  judge s c r = when (within lo hi c) (got c r) (bad 21 s)

  pub judged_listed : length xs < 256 ^ w → lo ≤ length xs → Judged (many F (length xs)) v xs (at + w) rs
      → Judged (listed w lo hi F) (bytes_of w (length xs) ++ v) xs at ((at, ltb hi (length xs)) ∷ rs)
  unfolding read_headed read_count stopped then when judge
  judged_listed small least f b t e =
      ap (λ (s : List ℕ). then (then (read_number w s) (judge s)) (read_many F))
      (append_assoc (bytes_of w (length xs)) v t)
      ∙ ap (λ (o : Out ℕ). then (then o (judge (bytes_of w (length xs) ++ (v ++ t)))) (read_many F))
      ((lawful_number w).back (length xs) (v ++ t) small)
      ∙ by (ltb hi (length xs)) refl
    where
      by : (c : Bool) → ltb hi (length xs) ≡ c
          → then (judge (bytes_of w (length xs) ++ (v ++ t)) (length xs) (v ++ t)) (read_many F)
          ≡ cond c (bad 21 (drop at b)) (stopped b rs (got xs t))
      by true h = rw (too_many_law h) (ap (bad 21) (sym (e ∙ append_assoc (bytes_of w (length xs)) v t)))
      by false h =
          rw (few_enough least h) (f b t (next_place b (bytes_of w (length xs)) v t at w (length_bytes w (length xs)) e))

-- a list of elements that have no counts, written with another bound
module _ {A : Type 0} (F : Format A) (P : A → Type 0) (f : Lawful F P) (w lo hi high : ℕ) (xs : List A) where
  pub judged_fields : (at : ℕ) → ListFits w lo high P xs
      → Judged (listed w lo hi F) ((listed w lo high F).write xs) xs at ((at, ltb hi (length xs)) ∷ [])
  unfolding write_headed
  judged_fields at h =
      judged_listed F w lo hi xs (write_many F xs) at [] h.said h.least
      (judged_back (many F (length xs)) _ (lawful_many F P f (length xs)) xs h.fits (at + w))

-- ---- the whole file
pub judged_file : {A : Type 0} (F : Format A) (w : List ℕ) (x : A) (rs : List (Rule ℕ)) → Judged F w x 0 rs
    → read_file F w ≡ stopped w rs (got x [])
unfolding read_file at_end then
judged_file {A} F w x rs f =
    ap (λ (s : List ℕ). then (F.read s) at_end) (sym (append-nil w))
    ∙ ap (λ (o : Out A). then o at_end) (f w [] (sym (append-nil w))) ∙ then_stopped w rs (got x []) at_end

-- what comes out: a refusal where a rule applies, and nothing else where none does
module _ {A : Type 0} (b : List ℕ) (d : Rule ℕ) (o : Out A) where
  pub stops_at : (rs : List (Rule ℕ)) (k : ℕ) → Applies rs d k → stopped b rs o ≡ bad 21 (drop (get_or rs k d).0 b)
  unfolding stopped
  stops_at [] k a = absurd (let h : k < 0 = a.there in omega arith)
  stops_at (r ∷ rs) zero a = rw a.holds
  stops_at (r ∷ rs) (suc k) a =
      let h : suc k < length (r ∷ rs) = a.there in
      rw (a.earlier 0 (omega arith))
      (stops_at rs k
      (record { there = omega arith; holds = a.holds; earlier = λ j l. a.earlier (suc j) (omega arith) }))

  pub stops_never : (rs : List (Rule ℕ)) → Silent rs d → stopped b rs o ≡ o
  unfolding stopped
  stops_never [] q = refl
  stops_never (r ∷ rs) q = rw (q 0 (omega arith)) (stops_never rs (λ j l. q (suc j) (omega arith)))

-- ---- lists of which every element is such a one: an image, and what passes a test
pub all_image : {A B : Type 0} (P : A → Type 0) (Q : B → Type 0) (f : A → B) → ((x : A) → P x → Q (f x)) → (xs : List A)
    → All P xs → All Q (map f xs)
all_image P Q f g [] h = tt
all_image P Q f g (x ∷ xs) h = (g x h.0, all_image P Q f g xs h.1)

pub all_kept : {A : Type 0} (P : A → Type 0) (p : A → Bool) (xs : List A) → All P xs → All P (keep p xs)
unfolding keep
all_kept P p [] h = tt
all_kept {A} P p (x ∷ xs) h = by (p x) (all_kept P p xs h.1)
  where
    by : (b : Bool) → All P (keep p xs) → All P (cond b (x ∷ keep p xs) (keep p xs))
    by true f = (h.0, f)
    by false f = f

-- ---- the places lie within the list
pub all_joined : {R : Type 0} (P : R → Type 0) (xs ys : List R) → All P xs → All P ys → All P (xs ++ ys)
all_joined P [] ys h g = g
all_joined P (x ∷ xs) ys h g = (h.0, all_joined P xs ys h.1 g)

pub all_one : {R : Type 0} (P : R → Type 0) (xs : List R) (d : R) → All P xs → (i : ℕ) → i < length xs → P (get_or xs i d)
all_one P [] d h i l = absurd (omega arith)
all_one P (x ∷ xs) d h zero l = h.0
all_one P (x ∷ xs) d h (suc i) l = all_one P xs d h.1 i (omega arith)

module _ {A : Type 0} (size : A → ℕ) (give : ℕ → A → List (Rule ℕ)) (m : ℕ)
    (each : (at : ℕ) (x : A) → at + size x ≤ m → All (λ (r : Rule ℕ). r.0 ≤ m) (give at x)) where
  pub along_within : (at : ℕ) (xs : List A) → at + total size xs ≤ m
      → All (λ (r : Rule ℕ). r.0 ≤ m) (along size give at xs)
  unfolding along total
  along_within at [] h = tt
  along_within at (x ∷ xs) h =
      all_joined _ (give at x) (along size give (at + size x) xs) (each at x (omega arith))
      (along_within (at + size x) xs (omega arith))

-- what holds of all that each element gives holds of all that they give together
module _ {A R : Type 0} (size : A → ℕ) (give : ℕ → A → List R) (P : A → Type 0) (Q : R → Type 0)
    (each : (at : ℕ) (x : A) → P x → All Q (give at x)) where
  pub along_all : (at : ℕ) (xs : List A) → All P xs → All Q (along size give at xs)
  unfolding along
  along_all at [] h = tt
  along_all at (x ∷ xs) h =
      all_joined Q (give at x) (along size give (at + size x) xs) (each at x h.0)
      (along_all (at + size x) xs h.1)
