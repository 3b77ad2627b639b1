use Rattle.std.proofs.Common.{◌∙◌}
use Rattle.zones.proofs.Comparing.{pointwise_same}
use Rattle.zones.proofs.words.same_words.Goals as goal

pub returns : goal.returns
returns c = c.eq.ensures ∙ pointwise_same c.args.a.now c.args.b.now
