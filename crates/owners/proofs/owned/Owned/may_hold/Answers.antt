-- Its owner may; any other only on the IOMMU side, and only the GIC.
use borrow.Author.Rules.{rules}
use Rattle.owners.proofs.Owns.{may_own, may_cpu, may_iommu}
use Rattle.owners.proofs.owned.Owned.may_hold.Goals as goal

pub returns-then-owns : goal.returns-then-owns
returns-then-owns c = search (may_own, rules)

pub returns-in-Cpu : goal.returns-in-Cpu
returns-in-Cpu c = search (may_cpu, rules)

pub returns-in-Iommu : goal.returns-in-Iommu
returns-in-Iommu c = search (may_iommu, rules)
