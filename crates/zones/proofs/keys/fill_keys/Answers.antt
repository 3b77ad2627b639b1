use mathlib.Core.Path.{refl}
use borrow.Author.Rules.{rules}
use Rattle.zones.proofs.Moves.{set_kept}
use Rattle.zones.proofs.QuickCheck.{fit_none, fit_more, key_fits}
use Rattle.zones.proofs.keys.fill_keys.Goals as goal

pub loop-i-init : goal.loop-i-init
loop-i-init c = (search fit_none, refl)

pub overflow_add-keys : goal.overflow_add-keys
overflow_add-keys c = search (key_fits, rules)

pub loop-i-preserved : goal.loop-i-preserved
loop-i-preserved c = (search (fit_more, rules), search (set_kept, rules))
