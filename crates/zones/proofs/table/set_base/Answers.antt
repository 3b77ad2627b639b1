-- Where a set begins, side by side with its definition.
use borrow.Author.Rules.{rules}
use Rattle.zones.proofs.Readers.{base_cpu, base_iommu}
use Rattle.zones.proofs.table.set_base.Goals as goal

pub returns-in-Cpu : goal.returns-in-Cpu
returns-in-Cpu c = base_cpu _ _ _ (search rules) (search rules) c.in-Cpu.is

pub returns-in-Iommu : goal.returns-in-Iommu
returns-in-Iommu c = base_iommu _ _ _ (search rules) (search rules) c.in-Iommu.is
