-- The desk's regions with owners, by computation on the definitions.
use mathlib.Core.Path.{refl}
use Rattle.rules.specs.OwnedDesk.{owned_answers, OwnedOutsideShown, OwnedDeskShown}
use Rattle.rules.specs.Applying.{answer_read_by, answer_alone_by}
use Rattle.rules.specs.Owners.{owned_answer, owned_run_answer, owned_translated}
use Rattle.rules.proofs.Computing.{owned_parts, translation_parts}

pub owned_desk_shown : OwnedDeskShown
unfolding owned_parts owned_answers
owned_desk_shown = (refl, refl, refl, refl, refl, refl, refl, refl, refl, refl, refl, refl, refl, refl, refl)

pub owned_outside_shown : OwnedOutsideShown
unfolding owned_parts translation_parts owned_answer owned_run_answer owned_translated answer_read_by answer_alone_by
owned_outside_shown = (
  (refl, refl, refl, refl),
  (refl, refl, refl, refl),
  (refl, refl, refl, refl),
  refl,
  refl,
  refl,
  refl,
  refl,
  (refl, refl, refl),
  (refl, refl, refl),
)
