-- Records of a region each, end to end among words. A word is read by `get_or w k 0`.
use Rattle.std.specs.Prelude.{ℕ, ◌+◌, ◌*◌, Bool, false, cond, List, leb, length, get_or}
use Rattle.std.proofs.lemmas.List.Edits.{sets}
use Rattle.lists.specs.Places.{tab}
use Rattle.rules.specs.Fields.{numbers_of, region_by}
use Rattle.rules.specs.Regions.{region_eq}
use Rattle.rules.specs.declared.Region.{Region}
use Rattle.zones.specs.Layout.{region_words}

-- the region whose record starts at word k
unfoldable pub region_at : List ℕ → ℕ → Region
region_at w k = region_by (λ i. get_or w (k + i) 0)

-- the words of a record
unfoldable pub words_of_region : Region → List ℕ
words_of_region r = numbers_of r

-- record i, and n records, from word b on
unfoldable pub record_at : List ℕ → ℕ → ℕ → Region
record_at w b i = region_at w (b + i * region_words)

unfoldable pub records_at : List ℕ → ℕ → ℕ → List Region
records_at w b n = tab n (record_at w b)

-- the record at word k is r's, where there is room for it
unfoldable pub placed : List ℕ → ℕ → Region → List ℕ
placed w k r = cond (leb (k + region_words) (length w)) (sets w k (words_of_region r)) w

-- the record at word k is wholly there, and r's
unfoldable pub holds_at : List ℕ → ℕ → Region → Bool
holds_at w k r = cond (leb (k + region_words) (length w)) (region_eq (region_at w k) r) false
