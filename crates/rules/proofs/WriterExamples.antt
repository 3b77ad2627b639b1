-- The writer's examples, by computation on the definitions.
use mathlib.Core.Path.{refl}
use Rattle.rules.specs.Filling.{fill_answer, fill_leaves}
use Rattle.rules.specs.Writer.{writer_rules_by, write_by}
use Rattle.rules.specs.WriterExamples.{WriterShown}
use Rattle.rules.proofs.Computing.{writing_parts, applying_parts}

pub writer_shown : WriterShown
unfolding applying_parts writing_parts write_by writer_rules_by fill_answer fill_leaves
writer_shown = (refl, refl, refl, refl, refl, refl, refl)
