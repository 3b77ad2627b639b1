-- A region is configured exactly where the search finds it.
use borrow.Author.Rules.{rules}
use Rattle.rules.specs.Regions.{region_eq}
use Rattle.zones.proofs.ConfigReaders.{configured_is}
use Rattle.zones.proofs.passed.Passed.is_configured.Goals as goal

pub returns : goal.returns
returns c = let found = c.find_record.ensures (region_eq c.args.r) (λ e t k. search rules) in search (configured_is, rules)
