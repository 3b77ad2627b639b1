-- Fields among bytes: what a reader of the format finds at a place, by what the code answers there.
use Rattle.std.specs.Prelude.{ℕ, Result, ◌+◌, ◌≤◌, List, ◌≡◌, Ok, Err, length, drop}
use Rattle.formats.specs.Formats.{Out, got, bad}
use Rattle.rules.specs.Numbers.{number}
use Rattle.plan.specs.declared.refused.Refused.{Refused}

-- a field of w bytes at a place of s
unfoldable pub field_out : {A : Type 0} → ℕ → List ℕ → ℕ → Result A Refused → Out A
field_out w s at (Ok x) = got x (drop (at + w) s)
field_out w s at (Err r) = bad (number r.why) (drop r.at s)

unfoldable pub field_end : {A : Type 0} → ℕ → ℕ → Result A Refused → ℕ
field_end w at (Ok x) = at + w
field_end w at (Err r) = r.at

pub record FieldRead {A : Type 0} (w : ℕ) (s : List ℕ) (at : ℕ) (o : Out A) (r : Result A Refused) : Type 0 where
  pub read : o ≡ field_out w s at r
  pub within : field_end w at r ≤ length s
