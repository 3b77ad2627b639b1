-- The most that a reader takes: what lies past it stays where it is, and changes neither a value nor a refusal. A
-- format that is put together from formats has this from them.
use Prim.Native.Nat.{ℕ, zero, suc, ◌+◌, ◌*◌, ◌≤◌, ◌<◌}
use native.Mathlib.Nat.{suc-mul, mul-le-mul_right}
use native.Mathlib.Omega.{arith}
use mathlib.Core.Bool.{Bool, true, false}
use mathlib.Core.List.{List, [], ◌∷◌, ◌++◌}
use mathlib.Core.Path.{◌≡◌, refl, sym, ap, ap₂, ◌∙◌}
use lib.ListN.{length, take, length-append, length-drop}
use lib.Seq.{take-append-le, drop-append-le}
use Rattle.lists.specs.Bytes.{little}
use Rattle.formats.specs.Formats.{Out, got, bad, when, then, Format, read_number, number, read_with, with, start_at}
use Rattle.formats.specs.Formats.{read_both, both}
use Rattle.formats.specs.Formats.{field, read_as, as_type, read_many, many, within, read_count, read_headed, headed}
use Rattle.formats.specs.Formats.{listed, nothing, exactly, at_end, read_file}
use Rattle.formats.proofs.Formats.{then_got, count_got}
use Rattle.formats.proofs.Widths.{number_there, wide_number, wide_got}

-- the same answer, with more bytes behind what is left
unfoldable pub onto : {A : Type 0} → List ℕ → Out A → Out A
onto v (got x t) = got x (t ++ v)
onto v (bad k t) = bad k (t ++ v)

pub record Most {A : Type 0} (F : Format A) (m : ℕ) : Type 0 where
  -- a value takes m bytes at most
  pub takes : (b : List ℕ) (x : A) (t : List ℕ) → F.read b ≡ got x t → length b ≤ m + length t
  -- where m bytes are there, what lies behind them changes nothing
  pub past : (u v : List ℕ) → m ≤ length u → F.read (u ++ v) ≡ onto v (F.read u)

-- ---- what follows a reader
then_onto : {A B : Type 0} (v : List ℕ) (o : Out A) (f : A → List ℕ → Out B)
    → ((x : A) (t : List ℕ) → o ≡ got x t → f x (t ++ v) ≡ onto v (f x t)) → then (onto v o) f ≡ onto v (then o f)
unfolding then onto
then_onto v (got x t) f h = h x t refl
then_onto v (bad k t) f h = refl

-- what takes no more than m takes no more than n
pub most_wider : {A : Type 0} (F : Format A) (m n : ℕ) → m ≤ n → Most F m → Most F n
most_wider F m n h f = record {
  takes = λ b x t e. omega (arith, f.takes b x t e);
  past = λ u v l. f.past u v (omega arith);
}

-- ---- a number of k bytes
module _ (k : ℕ) where
  number_takes : (b : List ℕ) (n : ℕ) (t : List ℕ) → read_number k b ≡ got n t → length b ≤ k + length t
  number_takes b n t e =
      let (l, q) = wide_got (number k) k (λ s. little (take k s)) (wide_number k) b n t e in
      omega (arith, ap length q, length-drop k b)

  number_past : (u v : List ℕ) → k ≤ length u → read_number k (u ++ v) ≡ onto v (read_number k u)
  unfolding onto
  number_past u v h =
      number_there k (u ++ v) (omega (arith, length-append u v))
      ∙ ap₂ (λ (s t : List ℕ). got (little s) t) (take-append-le k u v h) (drop-append-le k u v h)
      ∙ ap (onto v) (sym (number_there k u h))

  pub most_number : Most (number k) k
  most_number = record { takes = number_takes; past = number_past }

-- ---- one after another: n is the most of the second, after any first that is read
module _ {A B : Type 0} (F : Format A) (G : A → Format B) (m n : ℕ) (f : Most F m)
    (g : (b : List ℕ) (x : A) (t : List ℕ) → F.read b ≡ got x t → Most (G x) n) where
  abbrev second : A → List ℕ → Out (A × B)
  second x s = then ((G x).read s) (λ y t. got (x, y) t)

  with_takes : (b : List ℕ) (p : A × B) (t : List ℕ) → read_with F G b ≡ got p t → length b ≤ m + n + length t
  unfolding read_with
  with_takes b p t e =
      let (x, s, ex, e') = then_got (F.read b) second p t e in
      let (y, r, ey, ep) = then_got ((G x).read s) (λ y t. got (x, y) t) p t e' in
      let q : r ≡ t = cc in
      omega (arith, f.takes b x s ex, (g b x s ex).takes s y r ey, ap length q)

  with_past : (u v : List ℕ) → m + n ≤ length u → read_with F G (u ++ v) ≡ onto v (read_with F G u)
  unfolding read_with onto
  with_past u v h =
      ap (λ (o : Out A). then o second) (f.past u v (omega arith))
      ∙ then_onto v (F.read u) second
      (λ x s e. ap (λ (o : Out B). then o (λ y t. got (x, y) t)) ((g u x s e).past s v (omega (arith, f.takes u x s e)))
      ∙ then_onto v ((G x).read s) (λ y t. got (x, y) t) (λ y t d. refl))

  pub most_with : Most (with F G) (m + n)
  most_with = record { takes = with_takes; past = with_past }

pub most_both : {A B : Type 0} (F : Format A) (G : Format B) (m n : ℕ) → Most F m → Most G n → Most (both F G) (m + n)
unfolding read_both
most_both F G m n f g =
    let h = most_with F (λ x. G) m n f (λ b x t e. g) in
    record { takes = h.takes; past = h.past }

-- ---- as one field
module _ {A : Type 0} (F : Format A) (m : ℕ) (f : Most F m) where
  field_takes : (b : List ℕ) (o : Out A) (x : A) (t : List ℕ)
      → ((y : A) (s : List ℕ) → o ≡ got y s → length b ≤ m + length s) → start_at b o ≡ got x t → length b ≤ m + length t
  unfolding start_at
  field_takes b (got y s) x t h e = let q : s ≡ t = cc in omega (arith, h y s refl, ap length q)
  field_takes b (bad k s) x t h e = absurd (let z : ◌≡◌ {A = ℕ} 0 1 = cc in omega arith)

  start_onto : (u v : List ℕ) (o : Out A) → start_at (u ++ v) (onto v o) ≡ onto v (start_at u o)
  unfolding start_at onto
  start_onto u v (got x t) = refl
  start_onto u v (bad k t) = refl

  pub most_field : Most (field F) m
  most_field = record {
    takes = λ b x t e. field_takes b (F.read b) x t (f.takes b) e;
    past = λ u v h. ap (start_at (u ++ v)) (f.past u v h) ∙ start_onto u v (F.read u);
  }

-- ---- seen as another type
module _ {A B : Type 0} (F : Format A) (to : A → B) (from : B → A) (m : ℕ) (f : Most F m) where
  as_takes : (b : List ℕ) (y : B) (t : List ℕ) → read_as F to from b ≡ got y t → length b ≤ m + length t
  unfolding read_as
  as_takes b y t e =
      let (x, s, ex, e') = then_got (F.read b) (λ x t. got (to x) t) y t e in
      let q : s ≡ t = cc in
      omega (arith, f.takes b x s ex, ap length q)

  as_past : (u v : List ℕ) → m ≤ length u → read_as F to from (u ++ v) ≡ onto v (read_as F to from u)
  unfolding read_as onto
  as_past u v h =
      ap (λ (o : Out A). then o (λ x t. got (to x) t)) (f.past u v h)
      ∙ then_onto v (F.read u) (λ x t. got (to x) t) (λ x t e. refl)

  pub most_as : Most (as_type F to from) m
  most_as = record { takes = as_takes; past = as_past }

-- ---- n of one kind
module _ {A : Type 0} (F : Format A) (m : ℕ) (f : Most F m) where
  abbrev others : ℕ → A → List ℕ → Out (List A)
  others n x s = then (read_many F n s) (λ xs t. got (x ∷ xs) t)

  many_takes : (n : ℕ) (b : List ℕ) (xs : List A) (t : List ℕ) → read_many F n b ≡ got xs t → length b ≤ n * m + length t
  unfolding read_many
  many_takes zero b xs t e = let q : b ≡ t = cc in omega (arith, ap length q)
  many_takes (suc n) b xs t e =
      let (x, s, ex, e') = then_got (F.read b) (others n) xs t e in
      let (ys, r, ey, ep) = then_got (read_many F n s) (λ xs t. got (x ∷ xs) t) xs t e' in
      let q : r ≡ t = cc in
      omega (arith, f.takes b x s ex, many_takes n s ys r ey, suc-mul n m, ap length q)

  many_past : (n : ℕ) (u v : List ℕ) → n * m ≤ length u → read_many F n (u ++ v) ≡ onto v (read_many F n u)
  unfolding read_many onto
  many_past zero u v h = refl
  many_past (suc n) u v h =
      ap (λ (o : Out A). then o (others n)) (f.past u v (omega (arith, suc-mul n m)))
      ∙ then_onto v (F.read u) (others n)
      (λ x s e. ap (λ (o : Out (List A)). then o (λ xs t. got (x ∷ xs) t))
      (many_past n s v (omega (arith, f.takes u x s e, suc-mul n m)))
      ∙ then_onto v (read_many F n s) (λ xs t. got (x ∷ xs) t) (λ xs t d. refl))

  pub most_many : (n : ℕ) → Most (many F n) (n * m)
  most_many n = record { takes = many_takes n; past = many_past n }

-- ---- after a count of at most hi
module _ {A : Type 0} (w lo hi : ℕ) (F : ℕ → Format A) (size : A → ℕ) (m : ℕ)
    (f : (c : ℕ) → c ≤ hi → Most (F c) m) where
  count_past : (u v : List ℕ) → w ≤ length u → read_count w lo hi (u ++ v) ≡ onto v (read_count w lo hi u)
  unfolding read_count then when onto
  count_past u v h =
      ap (λ (o : Out ℕ). then o (λ c s. when (within lo hi c) (got c s) (bad 21 (u ++ v)))) (number_past w u v h)
      ∙ by (read_number w u)
    where
      judged : (b : Bool) (c : ℕ) (s : List ℕ)
          → when b (got c (s ++ v)) (bad 21 (u ++ v)) ≡ onto v (when b (got c s) (bad 21 u))
      judged true c s = refl
      judged false c s = refl

      by : (o : Out ℕ)
          → then (onto v o) (λ c s. when (within lo hi c) (got c s) (bad 21 (u ++ v)))
          ≡ onto v (then o (λ c s. when (within lo hi c) (got c s) (bad 21 u)))
      by (got c s) = judged (within lo hi c) c s
      by (bad k t) = refl

  headed_takes : (b : List ℕ) (x : A) (t : List ℕ) → read_headed w lo hi F size b ≡ got x t → length b ≤ w + m + length t
  unfolding read_headed
  headed_takes b x t e =
      let (c, s, ec, e') = then_got (read_count w lo hi b) (λ c s. (F c).read s) x t e in
      let (en, (a, z)) = count_got w lo hi b c s ec in
      omega (arith, number_takes w b c s en, (f c z).takes s x t e')

  headed_past : (u v : List ℕ) → w + m ≤ length u
      → read_headed w lo hi F size (u ++ v) ≡ onto v (read_headed w lo hi F size u)
  unfolding read_headed
  headed_past u v h =
      ap (λ (o : Out ℕ). then o (λ c s. (F c).read s)) (count_past u v (omega arith))
      ∙ then_onto v (read_count w lo hi u) (λ c s. (F c).read s)
      (λ c s e. let (en, (a, z)) = count_got w lo hi u c s e in
      (f c z).past s v (omega (arith, number_takes w u c s en)))

  pub most_headed : Most (headed w lo hi F size) (w + m)
  most_headed = record { takes = headed_takes; past = headed_past }

pub most_listed : {A : Type 0} (w lo hi : ℕ) (F : Format A) (m : ℕ) → Most F m → Most (listed w lo hi F) (w + hi * m)
most_listed w lo hi F m f =
    most_headed w lo hi (many F) length (hi * m)
    (λ c h. most_wider (many F c) (c * m) (hi * m) (mul-le-mul_right m h) (most_many F m f c))

-- ---- given numbers
nothing_most : Most nothing 0
unfolding onto
nothing_most = record {
  takes = λ b u t e. (let q : b ≡ t = cc in omega (arith, ap length q));
  past = λ u v h. refl;
}

pub most_exactly : (w : ℕ) (ns : List ℕ) → Most (exactly w ns) (length ns * w)
most_exactly w [] = most_wider nothing 0 (0 * w) (omega arith) nothing_most
most_exactly w (n ∷ ns) =
    most_wider (exactly w (n ∷ ns)) (w + length ns * w) (suc (length ns) * w) (omega (arith, suc-mul (length ns) w))
    (most_headed w n n (λ c. exactly w ns) (λ u. n) (length ns * w) (λ c h. most_exactly w ns))

-- ---- the whole file: where there is more than a value can take, it is refused, and by no more than those bytes
module _ {A : Type 0} (F : Format A) (m : ℕ) (f : Most F m) where
  pub file_past : (u v : List ℕ) → m < length u
      → (k : ℕ) × (t : List ℕ) × (read_file F u ≡ bad k t) × (read_file F (u ++ v) ≡ bad k (t ++ v))
  unfolding read_file at_end then onto
  file_past u v h = by (F.read u) (f.takes u) (f.past u v (omega arith))
    where
      ends : (x : A) (t : List ℕ) → 0 < length t
          → (k : ℕ) × (s : List ℕ) × (at_end x t ≡ bad k s) × (at_end x (t ++ v) ≡ bad k (s ++ v))
      ends x [] l = absurd (omega arith)
      ends x (c ∷ t) l = (22, c ∷ t, refl, refl)

      by : (o : Out A) → ((x : A) (t : List ℕ) → o ≡ got x t → length u ≤ m + length t) → F.read (u ++ v) ≡ onto v o
          → (k : ℕ) × (t : List ℕ) × (then o at_end ≡ bad k t) × (then (F.read (u ++ v)) at_end ≡ bad k (t ++ v))
      by (got x t) g e =
          let (k, s, p, q) = ends x t (omega (arith, g x t refl)) in
          (k, s, p, ap (λ (o : Out A). then o at_end) e ∙ q)
      by (bad k t) g e = (k, t, refl, ap (λ (o : Out A). then o at_end) e)
