-- By the side: four bytes, or four and two.
use native.Mathlib.Omega.{arith}
use Rattle.std.proofs.Common.{rules}
use Rattle.listing.proofs.Fields.{cpu_put, iommu_put}
use Rattle.listing.proofs.text.put_side.Goals as goal

pub returns-in-Cpu-clause-wrote : goal.returns-in-Cpu-clause-wrote
returns-in-Cpu-clause-wrote c =
    let w0 = c.u32.ensures.wrote (omega arith) in
    search (cpu_put, rules)

pub returns-in-Iommu-clause-wrote : goal.returns-in-Iommu-clause-wrote
returns-in-Iommu-clause-wrote c =
    let w0 = c.u32-in-Iommu.ensures.wrote (omega arith) in
    let w1 = c.bytes.ensures.wrote (omega arith) in
    search (iommu_put, rules)
