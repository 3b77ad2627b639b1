-- The six numbers, one behind the other.
use native.Mathlib.Omega.{arith}
use Rattle.std.proofs.Common.{rules}
use Rattle.wanted.proofs.Putting.{request_put}
use Rattle.wanted.proofs.list.put_request.Goals as goal

pub returns-clause-wrote : goal.returns-clause-wrote
returns-clause-wrote c =
    let w0 = c.u32.ensures.wrote (omega arith) in
    let w1 = c.u32-2.ensures.wrote (omega arith) in
    let w2 = c.u64.ensures.wrote (omega arith) in
    let w3 = c.u64-2.ensures.wrote (omega arith) in
    let w4 = c.u64-3.ensures.wrote (omega arith) in
    let w5 = c.u64-4.ensures.wrote (omega arith) in
    search (request_put, rules)
