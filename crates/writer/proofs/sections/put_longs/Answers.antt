-- One word more each time.
use native.Mathlib.Omega.{arith}
use Rattle.std.proofs.Common.{rules}
use Rattle.writer.proofs.Putting.{longs_none, longs_on, longs_end}
use Rattle.writer.proofs.sections.put_longs.Goals as goal

pub loop-x-init : goal.loop-x-init
loop-x-init c = record { moved = search rules; wrote = search (longs_none, rules) }

pub loop-x-preserved : goal.loop-x-preserved
loop-x-preserved c =
    let w0 = c.u64.ensures.wrote (omega arith) in
    record { moved = omega arith; wrote = search (longs_on, rules) }

pub returns-clause-wrote : goal.returns-clause-wrote
returns-clause-wrote c = search (longs_end, rules)
