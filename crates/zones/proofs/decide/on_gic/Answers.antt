-- By side: 12 is asked of the CPU alone.
use borrow.Author.Rules.{rules}
use Rattle.zones.proofs.Deciding.{gic_cpu, gic_iommu}
use Rattle.zones.proofs.decide.on_gic.Goals as goal

pub returns-in-Cpu : goal.returns-in-Cpu
returns-in-Cpu c = search (gic_cpu, rules)

pub returns-in-Iommu : goal.returns-in-Iommu
returns-in-Iommu c = search (gic_iommu, rules)
