-- The marks, one behind the other.
use native.Mathlib.Omega.{arith}
use Rattle.std.proofs.Common.{rules}
use Rattle.writer.proofs.Putting.{marks_put}
use Rattle.writer.proofs.sections.put_marks.Goals as goal

pub returns-clause-wrote : goal.returns-clause-wrote
returns-clause-wrote c =
    let w0 = c.u32.ensures.wrote (omega arith) in
    let w1 = c.u32-2.ensures.wrote (omega arith) in
    let w2 = c.u32-3.ensures.wrote (omega arith) in
    let w3 = c.u32-4.ensures.wrote (omega arith) in
    search (marks_put, rules)
