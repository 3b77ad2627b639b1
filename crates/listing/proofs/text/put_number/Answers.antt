-- The digits, and one byte more.
use native.Mathlib.Omega.{arith}
use Rattle.std.proofs.Common.{refl}
use Rattle.listing.proofs.Fields.{number_put}
use Rattle.listing.proofs.text.put_number.Goals as goal

pub returns-clause-wrote : goal.returns-clause-wrote
returns-clause-wrote g c = number_put _ _ _ _ _ _ _ refl c.put_digits.ensures refl (c.byte.ensures.wrote (omega arith))
