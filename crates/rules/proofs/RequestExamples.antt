-- The examples of requests and of translation, by computation on the definitions.
use mathlib.Core.Path.{refl}
use Rattle.rules.specs.RequestExamples.{earned, ModelIsSound, FirstIsAnswered, OverlapsShown, LimitsShown, RightsShown}
use Rattle.rules.specs.RequestExamples.{KindsShown, TranslationShown}
use Rattle.rules.specs.Translation.{translation}
use Rattle.rules.proofs.Computing.{table_parts, request_parts, translation_parts}

pub model_is_sound : ModelIsSound
unfolding table_parts
model_is_sound = (refl, refl)

pub first_is_answered : FirstIsAnswered
unfolding earned request_parts
first_is_answered = ((refl, refl), (refl, refl), (refl, refl), (refl, refl), (refl, refl))

pub overlaps_shown : OverlapsShown
unfolding request_parts
overlaps_shown = (refl, refl, refl)

pub limits_shown : LimitsShown
unfolding request_parts
limits_shown = (refl, refl, refl, refl, refl, refl, refl, refl)

pub rights_shown : RightsShown
unfolding table_parts request_parts
rights_shown = (refl, refl, refl, refl, refl, refl, refl, refl)

pub kinds_shown : KindsShown
unfolding request_parts
kinds_shown = (refl, refl, refl, refl, refl, refl, refl, refl)

pub translation_shown : TranslationShown
unfolding translation translation_parts
translation_shown = (refl, refl, refl, refl, refl, refl)
