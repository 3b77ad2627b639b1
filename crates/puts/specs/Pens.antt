-- A pen: lent bytes with a place in them.
use Rattle.std.specs.Prelude.{ℕ, List, ◌≡◌}
use Rattle.puts.specs.Puts.{Put}
use Rattle.puts.specs.declared.pen.Pen.{Pen}

-- the pen p became q, over the same bytes: b was put where p was, and q is where it ends
pub record Wrote (p q : Pen) (b : List ℕ) : Type 0 where
  pub same : q.bytes.ghost_name ≡ p.bytes.ghost_name
  pub put : Put p.bytes.now p.at b q.bytes.now q.at
