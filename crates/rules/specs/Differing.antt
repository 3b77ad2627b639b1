-- Where a plan's base differs from a terminal's: the terminal's zones as a plan would hold them, the plan's own zones
-- section, and the part of one stretch of bytes from the first place where another lacks the same byte.
use Rattle.std.specs.Prelude.{ℕ, List, [], ◌∷◌, take, drop}
use Rattle.lists.specs.Alike.{alike}
use Rattle.formats.specs.Formats.{Out, got, bad}
use Rattle.rules.specs.Configuration.{StoredConfig}
use Rattle.rules.specs.Filling.{own_rule, filling, Filled}
use Rattle.rules.specs.Limits.{Limits}
use Rattle.rules.specs.Plan.{zones_section, read_plan, Plan}
use Rattle.rules.specs.Sizes.{zones_size, zones_at}
use Rattle.rules.specs.Tables.{table_of, StoredTable}

-- ---- a terminal's zones as a section, with their count
abbrev pub zones_bytes : Limits → StoredTable → List ℕ
zones_bytes l t = (zones_section l).write (table_of t)

-- into a lent buffer: 1, 2, 28, or 0 and how many bytes there are
unfoldable pub write_zones : Limits → StoredConfig → StoredTable → List ℕ → Filled
write_zones l c t w = filling (own_rule l c t ∷ []) (zones_bytes l t) w

-- ---- a plan's own zones section, from its count on: that part of its bytes. Of bytes that are no plan it is empty
unfoldable pub zones_part : Limits → List ℕ → Out Plan → List ℕ
zones_part l b (got p left) = take (zones_size p.zones) (drop (zones_at l p) b)
zones_part l b (bad k left) = []

unfoldable pub zones_of : Limits → List ℕ → List ℕ
zones_of l b = zones_part l b (read_plan l b)

-- ---- the part of the first stretch from the first place where the second lacks the same byte
unfoldable pub lacking_part : List ℕ → List ℕ → List ℕ
lacking_part b c = drop (alike b c) b
