-- The count is too high, or the GIC's position is.
use Rattle.owners.proofs.Fitting.{count_high, gic_high}
use Rattle.owners.proofs.owned.Owned.new.Goals as goal
use Rattle.owners.proofs.owned.Owned.new.Goals.{then-count-via-then-count, then-count-via-else-count+then-count-config}

pub returns-then-count-clause-none : goal.returns-then-count-clause-none
returns-then-count-clause-none c = elim c.then-count.branch [
  | then-count-via-then-count w ↦ count_high _ w.if-count.true
  | then-count-via-else-count+then-count-config w ↦ gic_high _ w.if-count.false w.if-count-config.true
]
