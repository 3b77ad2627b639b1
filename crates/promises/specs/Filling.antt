-- A lent buffer that was filled.
use Rattle.std.specs.Prelude.{ℕ, ◌≤◌, List, ◌≡◌, length, take, drop}
use Rattle.rules.specs.Applying.{plain}
use Rattle.rules.specs.declared.Outcome.{Outcome}

-- success with the bytes b in the buffer w, which is then v: the place is how many they are, which the buffer has room for; so many
-- bytes from its start are those, and those after them, as many as there were, are what they were
pub record Fills (b w : List ℕ) (o : Outcome) (v : List ℕ) : Type 0 where
  pub place : o ≡ plain 0 (length b)
  pub room : length b ≤ length w
  pub front : take (length b) v ≡ b
  pub behind : drop (length b) v ≡ drop (length b) w
  pub long : length v ≡ length w
