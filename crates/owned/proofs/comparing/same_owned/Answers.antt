-- The configuration first, then the owners behind its regions.
use Rattle.std.proofs.Common.{rules}
use Rattle.owned.proofs.Holding.{behind_within, owners_few, owned_config, owned_none, owned_behind}
use Rattle.owned.proofs.comparing.same_owned.Goals as goal

pub returns-then-not-same_config : goal.returns-then-not-same_config
returns-then-not-same_config c = search (owned_config, rules)

pub returns-in_default : goal.returns-in_default
returns-in_default c = owned_none _ _ _ _ _ c.same_config.ensures _ c.in_default.ensures

pub slice_bounds-same_owners-count : goal.slice_bounds-same_owners-count
slice_bounds-same_owners-count c = behind_within _ _ c.in-Ok.ensures

pub slice_bounds-same_owners-start : goal.slice_bounds-same_owners-start
slice_bounds-same_owners-start c = behind_within _ _ c.in-Ok.ensures

pub same_owners-requires : goal.same_owners-requires
same_owners-requires c = owners_few _ _ c.in-Ok.ensures _ c.u32_at.ensures

pub returns : goal.returns
returns c =
    owned_behind _ _ _ _ _ c.same_config.ensures _ c.in-Ok.ensures _ c.u32_at.ensures (search rules) _ c.same_owners.ensures
