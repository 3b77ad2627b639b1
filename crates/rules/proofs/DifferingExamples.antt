-- Zones sections, by computation on the definitions.
use mathlib.Core.Path.{refl}
use Rattle.lists.specs.Alike.{alike}
use Rattle.formats.specs.Sizes.{total}
use Rattle.rules.specs.Differing.{zones_part, zones_of, lacking_part}
use Rattle.rules.specs.DifferingExamples.{DifferingShown}
use Rattle.rules.proofs.Computing.{table_parts, reading_parts, writing_parts}

pub differing_shown : DifferingShown
unfolding table_parts reading_parts writing_parts zones_part zones_of alike lacking_part total
differing_shown = record { own = refl; cut = refl; more = refl; part = refl; other = refl }
