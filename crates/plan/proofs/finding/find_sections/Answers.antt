-- The four sections, and nothing after them.
use Rattle.plan.proofs.Locating.{plan_found, whole_told}
use Rattle.plan.proofs.finding.find_sections.Goals as goal

pub returns : goal.returns
returns c = plan_found _ _ _ c.find_four-four.ensures (whole_told _ _ _ c.whole_at.ensures.told_by_any)
