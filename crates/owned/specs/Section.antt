-- The owners' section of a plan, and the owners as they are stored.
use Rattle.std.specs.Prelude.{ℕ, ◌+◌, ◌*◌, List, replicate}
use Rattle.lists.specs.Room.{room}
use Rattle.formats.specs.Formats.{Out, got, bad, Format}
use Rattle.rules.specs.Fields.{short_size}
use Rattle.rules.specs.Limits.{most_regions}
use Rattle.rules.specs.Run.{number_at}
use Rattle.rules.specs.declared.Region.{Region}
use Rattle.plan.specs.Sections.{numbers_section}

-- for n regions: their count, and one id each
abbrev pub owners_section : ℕ → Format (List ℕ)
owners_section n = numbers_section n

-- id i behind the count that the bytes s begin with
abbrev pub id_at : List ℕ → ℕ → ℕ
id_at s i = number_at 4 s (short_size + i * short_size)

-- as they are stored, where they were read behind their regions: zeros in what is free, and in all after a refusal
unfoldable pub owners_in : Out (List Region × List ℕ) → List ℕ
owners_in (got x left) = room most_regions 0 x.1
owners_in (bad k left) = replicate most_regions 0
