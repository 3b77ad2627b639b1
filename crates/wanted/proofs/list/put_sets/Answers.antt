-- The two sets, one behind the other.
use Rattle.std.proofs.Common.{◌+◌, ap, ◌∙◌}
use Rattle.zones.specs.Layout.{set_words}
use Rattle.wanted.proofs.Putting.{set_where, sets_put}
use Rattle.wanted.proofs.list.put_sets.Goals as goal

pub returns-clause-wrote : goal.returns-clause-wrote
returns-clause-wrote c = sets_put _ _ _ _ _ _ _ _ _
    (set_where _ _ _ _ _ _ _ _ _ _ _ _ _ c.region_kind.ensures c.on.ensures.words c.on.ensures.at c.on-2.ensures.words c.on-2.ensures.at
    c.put_set.ensures.wrote)
    (set_where _ _ _ _ _ _ _ _ _ _ _ _ _ c.region_kind-2.ensures (c.on-4.ensures.words ∙ c.on-3.ensures.words)
    (c.on-4.ensures.at ∙ ap (λ n. n + set_words) c.on-3.ensures.at) (c.on-6.ensures.words ∙ c.on-5.ensures.words)
    (c.on-6.ensures.at ∙ ap (λ n. n + set_words) c.on-5.ensures.at) c.put_set-2.ensures.wrote)
