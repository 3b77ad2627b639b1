-- The story of two plans, by computation on the definitions.
use mathlib.Core.Path.{refl}
use Rattle.rules.specs.Story.{StoryShown}
use Rattle.rules.proofs.Computing.{writing_parts, applying_parts}

pub story_shown : StoryShown
unfolding applying_parts writing_parts
story_shown = (
  refl,
  (refl, refl),
  (refl, refl),
  (refl, refl),
  (refl, refl),
  (refl, refl),
  (refl, refl),
  (refl, refl),
  (refl, refl),
  (refl, refl),
  (refl, refl),
)
