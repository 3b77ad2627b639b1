use Rattle.std.proofs.Common.{rules}
use Rattle.owned.proofs.Reading.{ids_none, ids_put}
use Rattle.owned.proofs.owners_section.ids_at.Goals as goal

pub loop-i-init : goal.loop-i-init
loop-i-init c = search (ids_none, rules)

pub loop-i-preserved : goal.loop-i-preserved
loop-i-preserved c = search (ids_put, rules)
