-- By what the count's reader answered: a refusal, another count than the table's, or so many zones.
use Rattle.std.proofs.Common.{rules, is_some}
use mathlib.Core.Path.{ap, ◌∙◌}
use Rattle.plan.proofs.Fields.{field_there_law}
use Rattle.plan.proofs.Into.{count_most}
use Rattle.plan.proofs.Holding.{table_cut, table_fewer, table_held_law, table_room}
use Rattle.plan.proofs.comparing.same_zones.Goals as goal

pub returns-in_default : goal.returns-in_default
returns-in_default c = table_cut _ _ _ c.in_default.ensures

pub returns-then-w-n : goal.returns-then-w-n
returns-then-w-n c = search (table_fewer, rules)

pub same_zone_list-requires : goal.same_zone_list-requires
same_zone_list-requires c = (
  (field_there_law _ _ _ _ _ c.in-Ok.ensures, count_most _ _ _ _ _ c.in-Ok.ensures),
  search (table_room, rules),
)

pub returns : goal.returns
returns c =
    table_held_law _ _ _ c.in-Ok.ensures _ c.if-w-n.false
    (c.is_some.ensures ∙ ap (λ r. is_some r) c.same_zone_list.ensures)
