-- Where the keys led, it is known. Else each configured region is looked for in each zone.
use Rattle.std.proofs.Common.{rules, sym, ◌∙◌}
use borrow.Author.Tests.{tests}
use Rattle.zones.proofs.Checking.{every_held}
use Rattle.zones.proofs.sound.held_apart.Goals as goal

pub returns-then-led : goal.returns-then-led
returns-then-led c = c.if-led.true ∙ sym (c.requires.1 c.if-led.true)

pub returns-else-led : goal.returns-else-led
returns-else-led c = every_held _ _ _ _ _ c.all.ensures.ran c.count.ensures.0 (λ x t q k. search (rules, tests))
