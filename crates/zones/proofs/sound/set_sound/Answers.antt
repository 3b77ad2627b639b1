-- Each return is one test of the conjunction: configured, then apart in guest addresses.
use Rattle.std.proofs.Common.{◌∙◌}
use Rattle.lists.proofs.Tests.{conjunction}
use Rattle.rules.specs.Tables.{sound_set}
use Rattle.zones.proofs.sound.set_sound.Goals as goal

pub returns-then-set_configured : goal.returns-then-set_configured
unfolding sound_set
returns-then-set_configured c = search conjunction depth 12

pub returns-else-set_configured : goal.returns-else-set_configured
unfolding sound_set
returns-else-set_configured c = c.if-set_configured.false ∙ search conjunction depth 12
