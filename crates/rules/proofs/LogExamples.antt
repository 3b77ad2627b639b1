-- The logs' examples, by computation on the definitions.
use mathlib.Core.Path.{refl}
use Rattle.formats.specs.Formats.{write_with}
use Rattle.rules.specs.Applying.{answer_read, answer_alone}
use Rattle.rules.specs.Filling.{fill_answer, fill_leaves}
use Rattle.rules.specs.LogExamples.{LogsShown, LogsTold}
use Rattle.rules.specs.Logs.{read_log, encode_log, audit_from, audit, settled_log, check_read}
use Rattle.rules.proofs.Computing.{applying_parts, writing_parts, owned_parts}

pub logs_shown : LogsShown
unfolding applying_parts writing_parts owned_parts write_with answer_read answer_alone fill_answer fill_leaves read_log encode_log
    audit_from audit settled_log check_read
logs_shown = (refl, refl, refl, refl, refl, refl, refl, refl, refl, refl, refl, refl, refl, refl)

pub logs_told : LogsTold
unfolding applying_parts writing_parts owned_parts write_with answer_read answer_alone fill_answer fill_leaves read_log encode_log
    audit_from audit settled_log check_read
logs_told = (refl, refl, refl, refl, refl, refl, refl, refl, refl, refl, refl, refl, refl, refl)
