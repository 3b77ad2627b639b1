-- Where the keys led, each is; else each record is read and tested at its place.
use Rattle.std.proofs.Common.{rules, sym, ◌∙◌}
use borrow.Author.Tests.{tests}
use Rattle.zones.proofs.Checking.{every_record}
use Rattle.zones.proofs.sound.set_configured.Goals as goal

pub returns-then-led : goal.returns-then-led
returns-then-led c = c.if-led.true ∙ sym (c.requires.1 c.if-led.true)

pub returns-else-led : goal.returns-else-led
returns-else-led c = every_record _ _ _ _ _ _ _ c.all.ensures.ran c.set_len.ensures (λ x t q k. search (rules, tests))
