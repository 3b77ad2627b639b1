-- Below ten, and from ten on.
use Rattle.std.proofs.Common.{rules}
use Rattle.listing.proofs.Fields.{low_glyph, high_glyph}
use Rattle.listing.proofs.text.glyph.Goals as goal

pub returns-then-d-lt10 : goal.returns-then-d-lt10
returns-then-d-lt10 c = search (low_glyph, rules)

pub returns-else-d-lt10 : goal.returns-else-d-lt10
returns-else-d-lt10 c = search (high_glyph, rules)
