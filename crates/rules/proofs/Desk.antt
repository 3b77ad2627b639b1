-- The starred desk examples, by computation on the definitions.
use mathlib.Core.Path.{refl}
use Rattle.rules.specs.Desk.{DeskShown}
use Rattle.rules.proofs.Computing.{applying_parts}

pub desk_shown : DeskShown
unfolding applying_parts
desk_shown = (refl, refl, refl, refl, refl)
