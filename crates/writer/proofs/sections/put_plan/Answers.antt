-- The four sections, one behind the other; a state that stands has only numbers that their fields can say.
use Rattle.std.proofs.Common.{arith, rules}
use Rattle.writer.proofs.Putting.{gic_fits, config_fits, regions_few, table_fits, plan_put}
use Rattle.puts.proofs.Pens.{wrote_whole}
use Rattle.writer.proofs.sections.put_plan.Goals as goal

pub overflow_cast-config : goal.overflow_cast-config
overflow_cast-config c = omega (arith, gic_fits c.args.config.now c.args.table.now c.requires.0)

pub put_set-requires : goal.put_set-requires
put_set-requires c = (search rules, config_fits _ _ c.requires.0 (search rules))

pub put_zones-requires : goal.put_zones-requires
put_zones-requires c = (
  omega (arith, regions_few c.args.config.now c.args.table.now c.requires.0),
  table_fits c.args.config.now c.args.table.now c.requires.0 (search rules),
)

pub returns : goal.returns
returns c = let whole = plan_put c.args.config.now c.args.table.now c.requires.0 _ _ _ _ _ _ _
    c.put_marks.ensures.wrote c.put_set.ensures.wrote c.put_zones.ensures.wrote c.put_requests.ensures in
    search (wrote_whole, rules)
