-- By what the audit found: that is the answer; or the zones that it leaves are written.
use Rattle.logs.proofs.Judging.{judge_found, judge_written}
use mathlib.Core.Path.{refl}
use borrow.Author.Rules.{rules}
use Rattle.logs.proofs.judge.Goals as goal

pub returns-then-outcome-ne0 : goal.returns-then-outcome-ne0
returns-then-outcome-ne0 c = judge_found _ _ _ _ _ _ _ _ _ _ _ _ _ c.read_regions_in.ensures
    c.read_zones_in.ensures c.audit_in-audited.ensures refl
    (search rules)

pub returns : goal.returns
returns c = judge_written _ _ _ _ _ _ _ _ _ _ _ _ _
    c.read_regions_in.ensures
    c.read_zones_in.ensures
    c.audit_in-audited.ensures refl (search rules) _ _
    c.write_zones-written.ensures
