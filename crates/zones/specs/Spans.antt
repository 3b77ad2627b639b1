-- Spans of addresses one after another, and what the quick check of a configuration finds: no span starts before the
-- one in front of it ends.
use Rattle.std.specs.Prelude.{ℕ, ◌+◌, ◌%◌, ◌<◌, Bool, true, not, ◌&&◌, List, [], ◌∷◌, map, ◌≡◌, ltb, leb, get_or}
use Rattle.lists.specs.Orders.{keep, is_below}
use Rattle.lists.specs.Places.{places}
use Rattle.lists.specs.Rules.{first_rule}
use Rattle.lists.specs.Tests.{all_of}
use Rattle.rules.specs.Addresses.{overlaps}
use Rattle.rules.specs.Configuration.{position_rules}
use Rattle.rules.specs.Limits.{page, limits}
use Rattle.rules.specs.Regions.{well_formed, in_reach}
use Rattle.rules.specs.declared.Checked.TheVariants.{Sound}
use Rattle.rules.specs.declared.Region.{Region}
use Rattle.zones.specs.Layout.{config_records}
use Rattle.zones.specs.Records.{record_at}
use Rattle.zones.specs.View.{all_records}

-- ---- spans
-- a start and a size
abbrev pub Span : Type 0
Span = ℕ × ℕ

-- the first starts at e or later, and each other one where the one in front of it ends, or later
unfoldable pub spaced : ℕ → List Span → Bool
spaced e [] = true
spaced e (s ∷ ss) = leb e s.0 && spaced (s.0 + s.1) ss

-- a span has an address; the one starts no later than the other; they share no address
unfoldable pub filled : Span → Bool
filled s = ltb 0 s.1

unfoldable pub starts_by : Span → Span → Bool
starts_by s t = leb s.0 t.0

unfoldable pub spans_apart : Span → Span → Bool
spans_apart s t = not (overlaps s.0 s.1 t.0 t.1)

-- ---- the regions of a configuration
-- the physical span of record i
unfoldable pub span_at : List ℕ → ℕ → Span
span_at w i = ((record_at w config_records i).p.0, (record_at w config_records i).size)

-- a region is well formed and in reach
unfoldable pub fits : Region → Bool
fits r = all_of (well_formed limits.page r ∷ in_reach limits r ∷ [])

-- so is every record below n; and no rule applies at a position below n
unfoldable pub FitBelow : List ℕ → ℕ → Type 0
FitBelow w n = (i : ℕ) → i < n → fits (record_at w config_records i) ≡ true

unfoldable pub ClearBelow : List ℕ → ℕ → Type 0
ClearBelow w n = (i : ℕ) → i < n → first_rule (position_rules limits (all_records w) i) Sound ≡ Sound

-- ---- keys: a start, which is a multiple of the page, and a position, which is below the page, in one number
-- the position that key j names; those below m that n keys from j on name
unfoldable pub position_of : List ℕ → ℕ → ℕ
position_of keys j = get_or keys j 0 % page

unfoldable pub named : List ℕ → ℕ → ℕ → ℕ → List ℕ
named keys m j n = keep (is_below m) (map (position_of keys) (places j n))
