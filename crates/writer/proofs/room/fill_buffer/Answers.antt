-- There was room, or not.
use Rattle.std.proofs.Common.{ap, subst, ◌∙◌}
use Rattle.puts.specs.Filling.{fill_in}
use Rattle.writer.proofs.Filling.{filled_with, filled_some, filled_none}
use Rattle.writer.proofs.room.fill_buffer.Goals as goal

pub returns-in-Some : goal.returns-in-Some
returns-in-Some g c = λ b puts.
    ap (λ o. filled_with o c.fill.new.buffer) c.done.ensures
    ∙ filled_some b _ _ _ (subst (λ r. fill_in b c.args.buffer.now r c.fill.new.buffer) c.in-Some.is (c.fill.ensures b puts))

pub returns-in-None : goal.returns-in-None
returns-in-None g c = λ b puts.
    ap (λ o. filled_with o c.fill.new.buffer) c.refused.ensures
    ∙ filled_none b _ _ (subst (λ r. fill_in b c.args.buffer.now r c.fill.new.buffer) c.in-None.is (c.fill.ensures b puts))
