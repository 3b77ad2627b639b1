-- `0x`, sixteen digits and a space.
use native.Mathlib.Omega.{arith}
use Rattle.std.proofs.Common.{rules}
use Rattle.listing.proofs.Fields.{hex_put}
use Rattle.listing.proofs.text.put_hex.Goals as goal

pub returns-clause-wrote : goal.returns-clause-wrote
returns-clause-wrote c =
    let w0 = c.bytes.ensures.wrote (omega arith) in
    search (hex_put, rules)
