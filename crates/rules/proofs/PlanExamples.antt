-- The examples of plans, by computation on the definitions.
use mathlib.Core.Path.{refl}
use Rattle.lists.specs.Bytes.{bytes_of}
use Rattle.lists.specs.Words.{part}
use Rattle.rules.specs.Applying.{answer_read, answer_alone}
use Rattle.rules.specs.PlanExamples.{BytesShown, ReadingShown, ApplyingShown}
use Rattle.rules.specs.Run.{region_in, request_from, requests_in}
use Rattle.rules.proofs.Computing.{request_parts, reading_parts, writing_parts, applying_parts}

pub bytes_shown : BytesShown
unfolding reading_parts writing_parts request_parts requests_in request_from region_in part
bytes_shown = (refl, refl, refl, refl, refl)

pub reading_shown : ReadingShown
unfolding answer_alone answer_read applying_parts bytes_of
reading_shown = ((refl, refl, refl, refl), (refl, refl, refl, refl))

pub applying_shown : ApplyingShown
unfolding answer_alone answer_read applying_parts writing_parts
applying_shown = (refl, refl, refl, refl, refl, refl, refl)
