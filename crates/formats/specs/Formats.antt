-- Formats: a reader and a writer of one kind of value. A reader takes the bytes that are left and answers with those
-- that are then left, so an offset is a difference of two lengths. The refusals are document 01's: 20 for a field that
-- is not wholly there, 21 for a count or a given number out of range, 22 for bytes after the end.
use Rattle.std.specs.Prelude.{ℕ, zero, suc, ◌^◌, ◌≤◌, ◌<◌, Bool, true, false, List, [], ◌∷◌, ◌++◌, ◌≡◌, leb, length, take, drop}
use Rattle.lists.specs.Bytes.{little, bytes_of}
use Rattle.lists.specs.Tests.{all_of}

-- a value and what is left after it; or a refusal and what is left from the field that it speaks of
pub data Out (A : Type 0) : Type 0 where
  got : A → List ℕ → Out A
  bad : ℕ → List ℕ → Out A

unfoldable pub left : {A : Type 0} → Out A → List ℕ
left (got x t) = t
left (bad k t) = t

unfoldable pub when : {A : Type 0} → Bool → Out A → Out A → Out A
when true a b = a
when false a b = b

unfoldable pub then : {A B : Type 0} → Out A → (A → List ℕ → Out B) → Out B
then (got x t) f = f x t
then (bad k t) f = bad k t

pub record Format (A : Type 0) : Type 0 where
  pub read : List ℕ → Out A
  pub write : A → List ℕ

-- ---- a number of k bytes, the lowest first
unfoldable pub read_number : ℕ → List ℕ → Out ℕ
read_number k b = when (leb k (length b)) (got (little (take k b)) (drop k b)) (bad 20 b)

abbrev pub number : ℕ → Format ℕ
number k = record { read = read_number k; write = bytes_of k }

-- ---- one after another: the first says how the second stands
module _ {A B : Type 0} (F : Format A) (G : A → Format B) where
  unfoldable pub read_with : List ℕ → Out (A × B)
  read_with b = then (F.read b) (λ x s. then ((G x).read s) (λ y t. got (x, y) t))

  unfoldable pub write_with : A × B → List ℕ
  write_with p = F.write p.0 ++ (G p.0).write p.1

  abbrev pub with : Format (A × B)
  with = record { read = read_with; write = write_with }

-- the second stands alike, whatever the first is
module _ {A B : Type 0} (F : Format A) (G : Format B) where
  unfoldable pub read_both : List ℕ → Out (A × B)
  unfolding read_with
  read_both b = read_with F (λ x. G) b

  unfoldable pub write_both : A × B → List ℕ
  unfolding write_with
  write_both p = write_with F (λ x. G) p

  abbrev pub both : Format (A × B)
  both = record { read = read_both; write = write_both }

-- ---- as one field: what is missing inside it is missing at its start
unfoldable pub start_at : {A : Type 0} → List ℕ → Out A → Out A
start_at b (got x t) = got x t
start_at b (bad k t) = bad k b

abbrev pub field : {A : Type 0} → Format A → Format A
field F = record { read = λ b. start_at b (F.read b); write = F.write }

-- ---- the same bytes, seen as another type
module _ {A B : Type 0} (F : Format A) (to : A → B) (from : B → A) where
  unfoldable pub read_as : List ℕ → Out B
  read_as b = then (F.read b) (λ x t. got (to x) t)

  abbrev pub as_type : Format B
  as_type = record { read = read_as; write = λ y. F.write (from y) }

-- ---- n of one kind
module _ {A : Type 0} (F : Format A) where
  unfoldable pub read_many : ℕ → List ℕ → Out (List A)
  read_many zero b = got [] b
  read_many (suc n) b = then (F.read b) (λ x s. then (read_many n s) (λ xs t. got (x ∷ xs) t))

  unfoldable pub write_many : List A → List ℕ
  write_many [] = []
  write_many (x ∷ xs) = F.write x ++ write_many xs

  abbrev pub many : ℕ → Format (List A)
  many n = record { read = read_many n; write = write_many }

-- ---- a count of w bytes from lo to hi, judged before its elements; then what the count says
unfoldable pub within : ℕ → ℕ → ℕ → Bool
within lo hi c = all_of (leb lo c ∷ leb c hi ∷ [])

unfoldable pub read_count : ℕ → ℕ → ℕ → List ℕ → Out ℕ
read_count w lo hi b = then (read_number w b) (λ c s. when (within lo hi c) (got c s) (bad 21 b))

module _ {A : Type 0} (w lo hi : ℕ) (F : ℕ → Format A) (size : A → ℕ) where
  unfoldable pub read_headed : List ℕ → Out A
  read_headed b = then (read_count w lo hi b) (λ c s. (F c).read s)

  unfoldable pub write_headed : A → List ℕ
  write_headed x = bytes_of w (size x) ++ (F (size x)).write x

  abbrev pub headed : Format A
  headed = record { read = read_headed; write = write_headed }

-- a count, and as many of one kind
abbrev pub listed : {A : Type 0} → ℕ → ℕ → ℕ → Format A → Format (List A)
listed w lo hi F = headed w lo hi (many F) length

-- a list, and as many of another kind after a count of their own, which must be the list's
abbrev pub as_many : {A B : Type 0} → ℕ → Format (List A) → Format B → Format (List A × List B)
as_many w F G = with F (λ xs. listed w (length xs) (length xs) G)

-- ---- given numbers of w bytes, each judged as it is read: another is out of range
abbrev pub nothing : Format (Unit {0})
nothing = record { read = λ b. got tt b; write = λ u. [] }

abbrev pub exactly : ℕ → List ℕ → Format (Unit {0})
exactly w [] = nothing
exactly w (n ∷ ns) = headed w n n (λ c. exactly w ns) (λ u. n)

-- ---- the whole file: nothing after the end
unfoldable pub at_end : {A : Type 0} → A → List ℕ → Out A
at_end x [] = got x []
at_end x (c ∷ t) = bad 22 (c ∷ t)

unfoldable pub read_file : {A : Type 0} → Format A → List ℕ → Out A
read_file F b = then (F.read b) at_end

-- ---- what can be written: every element can, and a count lies in its range and can be said in its w bytes
abbrev pub All : {A : Type 0} → (A → Type 0) → List A → Type 0
All P [] = Unit {0}
All P (x ∷ xs) = P x × All P xs

pub record InRange {A : Type 0} (w lo hi : ℕ) (size : A → ℕ) (P : ℕ → A → Type 0) (x : A) : Type 0 where
  pub said : size x < 256 ^ w
  pub least : lo ≤ size x
  pub most : size x ≤ hi
  pub fits : P (size x) x

abbrev pub ListFits : {A : Type 0} → ℕ → ℕ → ℕ → (A → Type 0) → List A → Type 0
ListFits w lo hi P = InRange w lo hi length (λ n xs. (length xs ≡ n) × All P xs)

-- so many as there are of the first
abbrev pub AsManyFit : {A B : Type 0} → ℕ → (List A → Type 0) → (B → Type 0) → List A × List B → Type 0
AsManyFit w P Q p = P p.0 × ListFits w (length p.0) (length p.0) Q p.1
