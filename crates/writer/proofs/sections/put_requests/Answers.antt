-- The count, and then the lent bytes of the requests that are wholly there, where the pen then is.
use lib.ListN.{length-take}
use Rattle.std.proofs.Common.{ℕ, arith, refl}
use Rattle.puts.proofs.Pens.{wrote_moved}
use Rattle.writer.proofs.Putting.{requests_put}
use Rattle.writer.proofs.sections.put_requests.Goals as goal

pub returns : goal.returns
returns c = requests_put _ _ _ c.args.requests.now _ (λ i. omega (arith, c.type_inv.requests i)) refl
    (c.u32.ensures.wrote (omega arith))
    (wrote_moved _ _ _ _ _ (c.bytes.ensures.wrote (omega (arith, length-take {A = ℕ}))) refl (omega arith) refl (omega arith))
