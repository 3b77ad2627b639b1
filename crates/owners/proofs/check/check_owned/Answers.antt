-- C1 and C2 are the first machine's; past them the owners are asked.
use Rattle.owners.proofs.Checking.{early_plain}
use Rattle.owners.proofs.check.check_owned.Goals as goal

pub returns-in-None : goal.returns-in-None
returns-in-None c = early_plain _ _ _ c.in-None.ensures.none c.check_words-found.ensures
