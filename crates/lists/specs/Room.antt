-- A list in an array of n places, and a list with one element taken out.
use Rattle.std.specs.Prelude.{ℕ, suc, List, ◌++◌, take, drop, replicate}

module _ {A : Type 0} where
  -- n places: the list, then z at each place that is left
  unfoldable pub room : ℕ → A → List A → List A
  room n z xs = take n (xs ++ replicate n z)

  -- the list without its element at i: the gap is closed and the order kept
  unfoldable pub remove_at : ℕ → List A → List A
  remove_at i xs = take i xs ++ drop (suc i) xs
