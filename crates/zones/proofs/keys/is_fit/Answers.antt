-- The two tests in order.
use Rattle.std.proofs.Common.{◌∙◌}
use Rattle.lists.proofs.Tests.{conjunction}
use Rattle.zones.specs.Spans.{fits}
use Rattle.zones.proofs.keys.is_fit.Goals as goal

pub returns-then-well_formed : goal.returns-then-well_formed
unfolding fits
returns-then-well_formed c = search conjunction depth 10

pub returns-else-well_formed : goal.returns-else-well_formed
unfolding fits
returns-else-well_formed c = c.if-well_formed.false ∙ search conjunction depth 10
