-- The count, and then each zone.
use native.Mathlib.Omega.{arith}
use Rattle.std.proofs.Common.{rules}
use Rattle.writer.proofs.Putting.{zones_put}
use Rattle.writer.proofs.sections.put_zones.Goals as goal

pub returns-clause-wrote : goal.returns-clause-wrote
returns-clause-wrote c =
    let w0 = c.u32.ensures.wrote (omega arith) in
    search (zones_put, rules)
