-- The id and the two sets, one behind the other.
use native.Mathlib.Omega.{arith}
use Rattle.std.proofs.Common.{rules}
use Rattle.writer.proofs.Putting.{zone_put}
use Rattle.writer.proofs.sections.put_zone_at.Goals as goal

pub returns-clause-wrote : goal.returns-clause-wrote
returns-clause-wrote c =
    let w0 = c.u32.ensures.wrote (omega arith) in
    search (zone_put, rules)
