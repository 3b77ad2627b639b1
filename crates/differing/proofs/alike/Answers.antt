-- Each turn goes one place on, up to the first place where the two differ or one of them ends.
use Rattle.std.proofs.Common.{rules}
use Rattle.lists.proofs.Alike.{alike_start, alike_on, alike_ended, alike_short, alike_differ}
use Rattle.differing.proofs.alike.Goals as goal

pub loop-i-init : goal.loop-i-init
loop-i-init c = search alike_start

pub returns-then-first-i : goal.returns-then-first-i
returns-then-first-i c = (search (alike_differ, rules), search rules)

pub loop-i-preserved : goal.loop-i-preserved
loop-i-preserved c = search (alike_on, rules)

pub returns : goal.returns
returns c = (search (alike_ended, alike_short, rules), search rules)
