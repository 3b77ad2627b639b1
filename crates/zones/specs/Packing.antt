-- The test that words are those of the table that they hold.
use Rattle.std.specs.Prelude.{ℕ, ◌-◌, ◌*◌, Bool, List, [], ◌∷◌, leb, get_or}
use Rattle.lists.specs.First.{all}
use Rattle.lists.specs.Places.{places}
use Rattle.lists.specs.Tests.{all_of}
use Rattle.lists.specs.Words.{is_zero_at}
use Rattle.rules.specs.declared.Side.TheVariants.{Cpu, Iommu}
use Rattle.rules.specs.Limits.{most_zones, most_in_set}
use Rattle.zones.specs.Layout.{region_words, zone_words, set_base, record_base, zone_base}

-- n words from k on are zero
abbrev pub zeros : List ℕ → ℕ → ℕ → Bool
zeros w k n = all (is_zero_at w) (places k n)

-- the set whose count stands at word b
unfoldable pub set_packed : List ℕ → ℕ → Bool
set_packed w b =
    all_of (leb (get_or w b 0) most_in_set ∷ zeros w (record_base b (get_or w b 0)) ((most_in_set - get_or w b 0) * region_words)
    ∷ [])

unfoldable pub zone_packed : List ℕ → ℕ → Bool
zone_packed w z = all_of (set_packed w (set_base z Cpu) ∷ set_packed w (set_base z Iommu) ∷ [])

unfoldable pub packed : List ℕ → Bool
packed w =
    all_of (leb (get_or w 0 0) most_zones ∷ all (zone_packed w) (places 0 (get_or w 0 0))
    ∷ zeros w (zone_base (get_or w 0 0)) ((most_zones - get_or w 0 0) * zone_words) ∷ [])
