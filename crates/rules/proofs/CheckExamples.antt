-- The examples of the two checks and of the answers from outside, by computation on the definitions.
use mathlib.Core.Path.{refl}
use Rattle.rules.specs.CheckExamples.{ConfigCheckShown, TableCheckShown, OutsideShown, LargerPagesShown}
use Rattle.rules.specs.Requests.{answer}
use Rattle.rules.specs.Run.{run_from, ended, run_answer}
use Rattle.rules.specs.Translation.{translated}
use Rattle.rules.proofs.Computing.{check_parts, table_parts, request_parts, translation_parts}

pub config_check_shown : ConfigCheckShown
unfolding check_parts
config_check_shown = (refl, refl, refl, refl, refl, refl, refl)

pub table_check_shown : TableCheckShown
unfolding table_parts
table_check_shown = (refl, refl, refl, refl, refl, refl, refl, refl, refl, refl)

pub outside_shown : OutsideShown
unfolding answer translated run_answer run_from ended table_parts request_parts translation_parts
outside_shown = (refl, refl, refl, refl)

pub larger_pages_shown : LargerPagesShown
unfolding answer table_parts request_parts
larger_pages_shown = (refl, refl, refl, refl)
