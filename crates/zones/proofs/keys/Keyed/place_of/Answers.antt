-- A position is told only where the region there was compared.
use Rattle.std.proofs.Common.{rules}
use Rattle.zones.proofs.QuickCheck.{place_told}
use Rattle.zones.proofs.keys.Keyed.place_of.Goals as goal

pub returns-then-region_eq : goal.returns-then-region_eq
returns-then-region_eq c = (search rules, search (place_told, rules))
