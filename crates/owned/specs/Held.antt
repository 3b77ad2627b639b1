-- Bytes from the regions' count on, held against the words of a configuration and its owners.
use Rattle.std.specs.Prelude.{ℕ, Bool, false, List, [], ◌∷◌, eqb, is_some, length, get_or}
use Rattle.lists.specs.Room.{room}
use Rattle.lists.specs.Tests.{all_of}
use Rattle.formats.specs.Formats.{Out, got, bad}
use Rattle.rules.specs.Applying.{same_list}
use Rattle.rules.specs.Limits.{limits}
use Rattle.rules.specs.Plan.{regions_section}
use Rattle.rules.specs.declared.Region.{Region}
use Rattle.plan.specs.Held.{held_answer, config_held}
use Rattle.owned.specs.Section.{owners_section, id_at}

-- owner i of those in the words o is id i behind the count that s begins with
unfoldable pub same_owner : List ℕ → List ℕ → ℕ → Bool
same_owner s o i = eqb (get_or o i 0) (id_at s i)

-- the bytes s are a section of n owners, the first n of the words o
unfoldable pub owners_held : List ℕ → ℕ → List ℕ → Bool
owners_held s n o = is_some (held_answer (length s) (same_list eqb (room n 0 o)) ((owners_section n).read s))

-- as many as regions were read
unfoldable pub owners_behind : List ℕ → Out (List Region) → Bool
owners_behind o (got rs left) = owners_held left (length rs) o
owners_behind o (bad k left) = false

-- the bytes from the regions' count on, and the GIC's position, are those of the configuration c and of its owners o
unfoldable pub owned_held : List ℕ → ℕ → List ℕ → List ℕ → Bool
owned_held s gic c o = all_of (config_held s gic c ∷ owners_behind o ((regions_section limits).read s) ∷ [])
