-- Bytes that a closure puts, measured first.
use Rattle.std.specs.Prelude.{ℕ, ◌<◌, ◌≤◌, List, ◌++◌, ◌≡◌, length, drop, Option, Some, None}
use Rattle.std.specs.Fn.{Shared}
use denote.Ref.{MutBor}
use Rattle.puts.specs.Puts.{Put}

module _ {F : Type 0} (g : Shared F (MutBor (List ℕ) × Unit {0}) (ℕ × (MutBor (List ℕ) × Unit {0}))) (f : F) where
  -- f, at the bytes s, may give n and leave v
  pub record Gives (s : List ℕ) (n : ℕ) (v : List ℕ) : Type 0 where
    pub shown : MutBor (List ℕ)
    pub shows : shown.now ≡ s
    pub left : MutBor (List ℕ)
    pub met : g.post f (shown, tt) (n, (left, tt))
    pub leaves : left.now ≡ v

  -- f puts b at the start of any bytes, and gives where it ends
  pub record Puts (b : List ℕ) : Type 0 where
    pub at : (s : List ℕ) (n : ℕ) (v : List ℕ) → Gives s n v → Put s 0 b v n

-- b at the start of the bytes s, which are then v, if all of it fits
unfoldable pub fill_in : List ℕ → List ℕ → Option ℕ → List ℕ → Type 0
fill_in b s (Some n) v = (length b ≤ length s) × (n ≡ length b) × (v ≡ b ++ drop (length b) s)
fill_in b s None v = (length s < length b) × (v ≡ s)
