-- Reading into words: what a reader leaves in the lent words as it goes, also where it stops.
use Rattle.std.specs.Prelude.{ℕ, Result, zero, suc, ◌+◌, ◌*◌, ◌≤◌, List, ◌≡◌, Ok, Err, length, drop, set}
use Rattle.std.proofs.lemmas.List.Edits.{sets}
use Rattle.formats.specs.Formats.{Out, got, bad, read_number, read_count}
use Rattle.rules.specs.Limits.{most_in_set, most_zones}
use Rattle.rules.specs.Numbers.{number}
use Rattle.rules.specs.Plan.{region_field}
use Rattle.rules.specs.declared.Region.{Region}
use Rattle.zones.specs.Layout.{region_words, set_words, zone_base}
use Rattle.zones.specs.Records.{words_of_region}
use Rattle.plan.specs.declared.refused.Refused.{Refused}

-- the words and what is left; or the words, a refusal and what is left from the field that it speaks of
pub data Step : Type 0 where
  on : List ℕ → List ℕ → Step
  stop : List ℕ → ℕ → List ℕ → Step

-- ---- how steps are put together
-- what a field says to do, where it is there
unfoldable pub given : {A : Type 0} → List ℕ → Out A → (A → List ℕ → Step) → Step
given w (got x t) f = f x t
given w (bad k t) f = stop w k t

-- one after another
unfoldable pub and_then : Step → (List ℕ → List ℕ → Step) → Step
and_then (on w t) f = f w t
and_then (stop w k t) f = stop w k t

-- n steps, from index i on
unfoldable pub times : (ℕ → List ℕ → List ℕ → Step) → ℕ → ℕ → List ℕ → List ℕ → Step
times f zero i w b = on w b
times f (suc n) i w b = and_then (f i w b) (times f n (suc i))

-- ---- the steps of a plan's sections
-- record i of those from word a on
unfoldable pub put_record : ℕ → ℕ → List ℕ → Region → List ℕ → Step
put_record a i w r t = on (sets w (a + i * region_words) (words_of_region r)) t

unfoldable pub record_into : ℕ → ℕ → List ℕ → List ℕ → Step
record_into a i w b = given w (region_field.read b) (put_record a i w)

-- a set: its count into word k, its records from word a on
unfoldable pub put_set : ℕ → ℕ → List ℕ → ℕ → List ℕ → Step
put_set k a w n t = times (record_into a) n 0 (set w k n) t

unfoldable pub set_into : ℕ → ℕ → ℕ → ℕ → List ℕ → List ℕ → Step
set_into lo hi k a w b = given w (read_count 4 lo hi b) (put_set k a w)

-- the two sets of a zone, from word k on
unfoldable pub sets_into : ℕ → List ℕ → List ℕ → Step
sets_into k w b = and_then (set_into 0 most_in_set k (k + 1) w b) (set_into 0 most_in_set (k + set_words) (k + set_words + 1))

-- zone i
unfoldable pub put_zone : ℕ → List ℕ → ℕ → List ℕ → Step
put_zone i w id t = sets_into (zone_base i + 1) (set w (zone_base i) id) t

unfoldable pub zone_into : ℕ → List ℕ → List ℕ → Step
zone_into i w b = given w (read_number 4 b) (put_zone i w)

-- the zones: their count into word 0
unfoldable pub put_zones : List ℕ → ℕ → List ℕ → Step
put_zones w n t = times zone_into n 0 (set w 0 n) t

unfoldable pub zones_into : List ℕ → List ℕ → Step
zones_into w b = given w (read_count 4 0 most_zones b) (put_zones w)

-- ---- what the code answers of a step on the bytes s: v is what it leaves in the words
unfoldable pub step_of : List ℕ → List ℕ → Result ℕ Refused → Step
step_of s v (Ok e) = on v (drop e s)
step_of s v (Err r) = stop v (number r.why) (drop r.at s)

unfoldable pub section_place : Result ℕ Refused → ℕ
section_place (Ok e) = e
section_place (Err r) = r.at

pub record Reads (s v : List ℕ) (r : Result ℕ Refused) (S : Step) : Type 0 where
  pub step : S ≡ step_of s v r
  pub within : section_place r ≤ length s
