-- By what was found: the refusal and its offset, or 0 and where the zones begin; the section's length beside it.
use Rattle.std.proofs.Common.{◌∙◌}
use Rattle.agent.proofs.Differing.{base_told}
use Rattle.agent.proofs.peatmitten_base_zones.Goals as goal

pub returns-in-Ok : goal.returns-in-Ok
returns-in-Ok c = base_told _ _ _ c.find_base-base.ensures c.in-Ok.ensures

pub returns-in-Err : goal.returns-in-Err
returns-in-Err c = let t = base_told _ _ _ c.find_base-base.ensures c.in-Err.ensures in (c.from.ensures ∙ t.0, t.1)
