-- The closure is the test of one record.
use Rattle.std.proofs.Common.{rules, arith}
use mathlib.Core.Path.{refl, ◌∙◌}
use borrow.Author.Tests.{tests}
use Rattle.std.proofs.lemmas.Iterator.{YieldsList-from_range}
use Rattle.std.proofs.lemmas.Iterator.Search.{all_from_yields_List}
use Rattle.plan.specs.Held.{same_record}
use Rattle.plan.proofs.Holding.{one_record, all_places}
use Rattle.plan.proofs.comparing.same_records.Goals as goal

pub returns : goal.returns
returns c =
    all_from_yields_List (same_record c.args.s.now c.args.at c.args.w.now c.args.a) _ _ _ c.all.ensures.ran
    (YieldsList-from_range 0 c.args.n c.args.n refl (omega arith)) (λ x b q k. search (one_record, rules, tests))
    ∙ all_places (same_record c.args.s.now c.args.at c.args.w.now c.args.a) 0 c.args.n
