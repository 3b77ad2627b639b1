-- By where the section ends: it does not read, or its ids are compared.
use Rattle.owned.proofs.Holding.{owners_other, owners_same}
use Rattle.owned.proofs.comparing.same_owners.Goals as goal

pub returns-in_default : goal.returns-in_default
returns-in_default c = owners_other _ _ _ _ c.in_default.ensures

pub returns : goal.returns
returns c = owners_same _ _ _ _ c.in-Ok.ensures _ c.same_ids.ensures
