-- Pieces by computation: which receivers count as over, what is stored in them, and what they grow to.
use Rattle.std.specs.Prelude.{ℕ, true, false, ◌≡◌}
use Rattle.rules.specs.Limits.{limits}
use Rattle.rules.specs.Receiving.{full, is_over, stored_in, fitting, grown}
use Rattle.rules.specs.declared.Receiver.{Receiver}

-- the longest plan has 61,852 bytes
abbrev pub holding : ℕ → ℕ → Receiver
holding stored more = record { stored = stored; more = more }

-- any number but 0 says that more came, and so does a stored number that no call leaves; the longest plan alone is not
-- over. One that is over has the longest plan stored and room for no byte; the last byte that fits is stored, and one
-- more makes it over
pub record PiecesShown : Type 0 where
  pub filled : full limits ≡ holding 61852 1
  pub none : is_over limits (holding 0 0) ≡ false
  pub most : is_over limits (holding 61852 0) ≡ false
  pub one : is_over limits (holding 0 1) ≡ true
  pub two : is_over limits (holding 0 2) ≡ true
  pub beyond : is_over limits (holding 61853 0) ≡ true
  pub stored : stored_in limits (holding 0 2) ≡ 61852
  pub fits : fitting limits (holding 61850 0) 3 ≡ 2
  pub last : grown limits (holding 61850 0) 2 ≡ holding 61852 0
  pub over : grown limits (holding 61850 0) 3 ≡ holding 61852 1
  pub stays : grown limits (holding 0 2) 0 ≡ holding 61852 1
