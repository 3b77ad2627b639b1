-- The lines of a table from the words of a zone and of a region, and how much room they take at most, whatever the
-- words.
use Rattle.std.specs.Prelude.{ℕ, ◌+◌, ◌*◌, ◌^◌, List, [], ◌∷◌, ◌++◌, ℤ, get_or}
use Rattle.formats.specs.Texts.{decimal, signed, hex, line_of}
use Rattle.rules.specs.Limits.{most_in_set, limits}
use Rattle.rules.specs.Listing.{shift, set_lines, FromTo}
use Rattle.rules.specs.declared.Region.{Region}
use Rattle.rules.specs.declared.Side.TheVariants.{Cpu, Iommu}
use Rattle.zones.specs.Layout.{set_words}
use Rattle.zones.specs.Records.{records_at}

-- a number of pages by which two addresses can lie apart: up to 2^52 either way
abbrev pub Near : ℤ → Type 0
Near z = FromTo (2 ^ 52) (2 ^ 52) z

-- the last fields of a line: rights and shift; with guest start, physical start and size before them
unfoldable pub last_fields : Region → List ℕ
last_fields r = line_of (decimal r.rights.0 ∷ signed (shift limits.page r) ∷ [])

unfoldable pub number_fields : Region → List ℕ
number_fields r =
    line_of (hex r.v.0 ∷ hex r.p.0 ∷ hex r.size ∷ decimal r.rights.0 ∷ signed (shift limits.page r)
    ∷ [])

-- the lines of the zone whose id stands in word k
unfoldable pub lines_at : List ℕ → ℕ → List ℕ
lines_at w k =
    set_lines limits (get_or w k 0) Cpu (records_at w (k + 1 + 1) (get_or w (k + 1) 0))
    ++ set_lines limits (get_or w k 0) Iommu (records_at w (k + 1 + set_words + 1) (get_or w (k + 1 + set_words) 0))

-- a line of any words: two numbers of up to 20 digits, a word of 5, three of 18, a shift of 21, and what stands after
-- each
abbrev pub line_room : ℕ
line_room = 127

abbrev pub zone_room : ℕ
zone_room = most_in_set * line_room + most_in_set * line_room
