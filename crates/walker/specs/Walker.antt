-- A walker over a plan: what it finds at its place, by what the format reads there, and where it stands then.
use Rattle.std.specs.Prelude.{ℕ, ◌+◌, List, drop, Option, Some, None}
use Rattle.std.specs.Borrow.{Bor}
use Rattle.formats.specs.Formats.{Out, got, bad, read_number}
use Rattle.walker.specs.declared.Walker.{Walker}

unfoldable pub found_of : Out ℕ → Option ℕ
found_of (got n left) = Some n
found_of (bad k left) = None

-- past a number that is there, and nowhere else
unfoldable pub place_behind : ℕ → Out ℕ → ℕ
place_behind at (got n left) = at + 4
place_behind at (bad k left) = at

-- at any place of b, also past its end: what is found there, and the place behind it
unfoldable pub step_at : List ℕ → ℕ → Option ℕ × ℕ
step_at b at = (found_of (read_number 4 (drop at b)), place_behind at (read_number 4 (drop at b)))

-- ---- walkers
abbrev pub start_of : Bor (List ℕ) → Walker
start_of plan = record { plan = plan; at = 0 }

-- what is found, and the walker behind it: the lent bytes stay the same
abbrev pub next_of : Walker → Option ℕ × Walker
next_of w = ((step_at w.plan.now w.at).0, record { plan = w.plan; at = (step_at w.plan.now w.at).1 })
