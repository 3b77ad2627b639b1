-- What translation asks of a table, and what it answers.
use Rattle.std.specs.Prelude.{ℕ, ◌<◌, true, List, ◌≡◌, length, get_or, Result, Ok, Err}
use Rattle.rules.specs.Limits.{limits}
use Rattle.rules.specs.Changes.{region_set}
use Rattle.rules.specs.Numbers.{number}
use Rattle.rules.specs.Regions.{in_reach, no_region}
use Rattle.rules.specs.Tables.{Zone}
use Rattle.rules.specs.declared.Side.{Side}
use Rattle.rules.specs.declared.Translated.{Translated}
use Rattle.rules.specs.declared.refusal.Refusal.{Refusal}
use Rattle.zones.specs.Words.{Within}
use Rattle.zones.specs.declared.translation.Stretch.{Stretch}

-- counts within limits, and every region in reach
pub record Near (t : List Zone) : Type 0 where
  pub within : Within t
  pub reach : (z : ℕ) (s : Side) (i : ℕ) → z < length t → i < length (region_set t z s)
      → in_reach limits (get_or (region_set t z s) i no_region) ≡ true

-- a translation's answer as the rules say it: 0 with the stretch, or the number of the refusal with zeros
abbrev pub told : Result Stretch Refusal → Translated
told (Ok s) = record { number = 0; phys = s.phys; remaining = s.remaining }
told (Err r) = record { number = number r; phys = record { 0 = 0 }; remaining = 0 }
