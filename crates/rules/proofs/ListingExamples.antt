-- The listing's examples, by computation on the definitions.
use mathlib.Core.List.{flat_map}
use mathlib.Core.Path.{refl}
use native.Mathlib.Omega.{arith}
use Rattle.formats.specs.Texts.{ascii, glyph, digits, width_within, width, decimal, signed, hex, line_of}
use Rattle.rules.specs.Filling.{fill_answer, fill_leaves}
use Rattle.rules.specs.Listing.{shift, side_word, fields_of, zone_lines, listing, list, list_after, list_read}
use Rattle.rules.specs.Listing.{longest_line, longest_listing}
use Rattle.rules.specs.ListingExamples.{ListingShown, RangeShown}
use Rattle.rules.proofs.Computing.{applying_parts}

pub listing_shown : ListingShown
unfolding applying_parts ascii glyph digits width_within width decimal signed hex line_of shift
    side_word fields_of zone_lines listing list list_after list_read longest_line longest_listing fill_answer fill_leaves flat_map
listing_shown = (refl, refl, refl, refl, refl, refl, refl, refl, refl, refl, refl, refl, refl)

pub range_shown : RangeShown
range_shown = (omega arith, (λ h. omega arith), omega arith, (λ h. omega arith))
