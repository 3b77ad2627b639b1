-- Each return is one rule of the list, and those before it do not apply.
use Rattle.std.proofs.Common.{rules}
use Rattle.plan.proofs.Judging.{base_config, base_edition, base_last, base_zones, base_same}
use Rattle.plan.proofs.base.base_number.Goals as goal

pub returns-then-not-same : goal.returns-then-not-same
returns-then-not-same c = search (base_config, rules)

pub returns-then-edition-base : goal.returns-then-edition-base
returns-then-edition-base c = search (base_edition, rules)

pub returns-then-edition-eq-LAST_EDITION : goal.returns-then-edition-eq-LAST_EDITION
returns-then-edition-eq-LAST_EDITION c = search (base_last, rules)

pub returns-then-not-same_zones : goal.returns-then-not-same_zones
returns-then-not-same_zones c = search (base_zones, rules)

pub returns : goal.returns
returns c = search (base_same, rules)
