-- The closure answers each place alike, whatever it answered before.
use Rattle.std.proofs.Common.{rules, arith, get_or, refl}
use Rattle.fields.proofs.Numbers.{made_same}
use Rattle.fields.proofs.filled_up.Goals as goal

pub returns : goal.returns
returns g c = λ i h. made_same _ _ (λ k. get_or c.args.rest.now k 0) (λ k y q r. search rules) _ _ 0 _ refl c.from_fn.ensures.items.each i i 0 (omega arith) h
