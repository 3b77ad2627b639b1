-- Requests worked out from two tables, by computation on the definitions.
use mathlib.Core.Path.{refl}
use Rattle.lists.specs.Orders.{keep}
use Rattle.rules.specs.Filling.{fill_answer, fill_leaves}
use Rattle.rules.specs.Wanted.{holdings, holds, requests_for, work_rules, worked, kind_number, kind_region, records_of}
use Rattle.rules.specs.Wanted.{listed}
use Rattle.rules.specs.WantedExamples.{WorkedShown, ListedShown}
use Rattle.rules.specs.Run.{run_from}
use Rattle.rules.proofs.Computing.{table_parts, request_parts, writing_parts}

unfoldable worked_parts : Unit {0}
unfolding table_parts request_parts keep holdings holds requests_for work_rules worked
worked_parts = tt

pub worked_shown : WorkedShown
unfolding worked_parts run_from
worked_shown = record {
  list = refl;
  ran = refl;
  fits = refl;
  over = refl;
  unsound = refl;
  first = refl;
  second = refl;
  order = refl;
  two = refl;
}

pub listed_shown : ListedShown
unfolding worked_parts writing_parts kind_number kind_region records_of listed fill_answer fill_leaves
listed_shown = record { enough = refl; more = refl; short = refl; nothing = refl; over = refl; unsound = refl }
