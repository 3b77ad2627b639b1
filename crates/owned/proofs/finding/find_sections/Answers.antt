-- The sections, and nothing after them.
use Rattle.plan.proofs.Locating.{whole_told}
use Rattle.owned.proofs.Locating.{owned_found}
use Rattle.owned.proofs.finding.find_sections.Goals as goal

pub returns : goal.returns
returns c = owned_found _ _ _ c.find_four-four.ensures (whole_told _ _ _ c.whole_at.ensures.told_by_any)
