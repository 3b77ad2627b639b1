-- Translation: from a guest address of a zone, on one side, to the physical address, and how far that goes on.
use Rattle.std.specs.Prelude.{ℕ, ◌+◌, ◌-◌, Bool, cond, not, List, [], ◌∷◌, ◌++◌, ltb, leb, eqb, get_or}
use Rattle.lists.specs.First.{first_index, any}
use Rattle.lists.specs.Rules.{Rule, ◌when◌, first_rule}
use Rattle.lists.specs.Tests.{all_of}
use Rattle.rules.specs.Changes.{region_set}
use Rattle.rules.specs.Configuration.{StoredConfig}
use Rattle.rules.specs.Limits.{highest_id, Limits}
use Rattle.rules.specs.Regions.{no_region}
use Rattle.rules.specs.Requests.{find, present, standing_rules}
use Rattle.rules.specs.Tables.{table_of, Zone, StoredTable}
use Rattle.rules.specs.declared.Guest.{Guest}
use Rattle.rules.specs.declared.Region.{Region}
use Rattle.rules.specs.declared.Side.{Side}
use Rattle.rules.specs.declared.Translated.{Translated}

-- the region covers the guest address
unfoldable pub covers_guest : ℕ → Region → Bool
covers_guest a r = all_of (leb r.v.0 a ∷ ltb a (r.v.0 + r.size) ∷ [])

-- the region of a set that covers it: in a sound table the only one
unfoldable pub covering_in : ℕ → List Region → Region
covering_in a xs = get_or xs (first_index (covers_guest a) xs) no_region

-- where the region puts it
unfoldable pub phys_in : ℕ → Region → ℕ
phys_in a r = r.p.0 + (a - r.v.0)

-- how many bytes of the region there are from it on
unfoldable pub remaining_in : ℕ → Region → ℕ
remaining_in a r = r.size - (a - r.v.0)

-- the numbers, in the document's order
unfoldable pub translation_rules : List Zone → ℕ → Side → ℕ → List (Rule ℕ)
translation_rules t id s a =
    4 when ltb highest_id id
    ∷ 6 when not (present id t)
    ∷ 18 when not (any (covers_guest a) (region_set t (find id t) s))
    ∷ []

-- a number with physical address 0 and nothing that remains, or 0 with both of the covering region
unfoldable pub translated_as : ℕ → ℕ → Region → Translated
translated_as n a r = record {
  number = n;
  phys = record { 0 = cond (eqb n 0) (phys_in a r) 0 };
  remaining = cond (eqb n 0) (remaining_in a r) 0;
}

-- at a sound table under a sound configuration
unfoldable pub translation : List Zone → ℕ → Side → ℕ → Translated
translation t id s a = translated_as (first_rule (translation_rules t id s a) 0) a (covering_in a (region_set t (find id t) s))

-- from outside: 1 and 2, which these rules tell, come first
abbrev pub translated_after : List (Rule ℕ) → List Zone → ℕ → Side → ℕ → Translated
translated_after rules t id s a =
    translated_as (first_rule (rules ++ translation_rules t id s a) 0) a (covering_in a (region_set t (find id t) s))

unfoldable pub translated : Limits → StoredConfig → StoredTable → ℕ → Side → Guest → Translated
translated l c t id s a = translated_after (standing_rules l c t) (table_of t) id s a.0
