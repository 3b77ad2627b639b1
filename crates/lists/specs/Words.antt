-- Words of memory: a part of them, a counted list of records, and what closing a gap and clearing leave.
use Rattle.std.specs.Prelude.{ℕ, ◌+◌, ◌-◌, Bool, eqb, length, get_or, take, drop, replicate}
use mathlib.Core.List.{List, ◌∷◌, ◌++◌, flat_map}
use Rattle.lists.specs.Room.{room}

-- n elements from k on
unfoldable pub part : {A : Type 0} → ℕ → ℕ → List A → List A
part k n l = take n (drop k l)

-- the word at k is zero
abbrev pub is_zero_at : List ℕ → ℕ → Bool
is_zero_at w k = eqb (get_or w k 0) 0

-- a list in n places of memory: its count, then the words of each element, then those of z in what is free
unfoldable pub counted : {A : Type 0} → ℕ → A → (A → List ℕ) → List A → List ℕ
counted n z g xs = length xs ∷ flat_map g (room n z xs)

-- the words from at up to e without the first m of them: the rest comes down, and zeros fill what is left
unfoldable pub closed : List ℕ → ℕ → ℕ → ℕ → List ℕ
closed w at m e = take at w ++ (take (e - m - at) (drop (at + m) w) ++ (replicate m 0 ++ drop e w))

-- zeros from at up to k
unfoldable pub cleared : List ℕ → ℕ → ℕ → List ℕ
cleared d at k = take at d ++ (replicate (k - at) 0 ++ drop k d)
