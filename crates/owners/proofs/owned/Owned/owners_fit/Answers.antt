use Rattle.owners.proofs.Fitting.{fits_told}
use Rattle.owners.proofs.owned.Owned.owners_fit.Goals as goal

pub returns : goal.returns
returns c = fits_told _ _ _ _ c.args.self.now.ranged c.first_unfit.ensures c.is_none.ensures
