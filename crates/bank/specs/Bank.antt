-- What the second library's functions answer, in numbers that C can hold.
use Rattle.std.specs.Prelude.{ℕ, List, [], ◌∷◌}
use Rattle.rules.specs.Limits.{most_regions, most_zones, most_in_set, most_requests, limits}
use Rattle.rules.specs.OwnedSizes.{longest_owned_size}
use Rattle.rules.specs.Owners.{owned_check_place, owned_check_earlier}
use Rattle.rules.specs.declared.OwnedChecked.{OwnedChecked}
use Rattle.zones.specs.Layout.{region_words}

-- what a header must have for the library: the most regions, zones, regions in a set and requests, the words of a
-- region, the longest plan
abbrev pub layout : List ℕ
layout = most_regions ∷ most_zones ∷ most_in_set ∷ most_requests ∷ region_words ∷ longest_owned_size limits ∷ []

-- the two places of the check of a configuration with owners
unfoldable pub owned_places_of : OwnedChecked → List ℕ
owned_places_of f = owned_check_place f ∷ owned_check_earlier f ∷ []
