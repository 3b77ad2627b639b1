-- The count, and then the words of its regions.
use native.Mathlib.Omega.{arith}
use Rattle.std.proofs.Common.{refl}
use Rattle.writer.proofs.Putting.{set_put}
use Rattle.writer.proofs.sections.put_set.Goals as goal

pub returns-clause-wrote : goal.returns-clause-wrote
returns-clause-wrote c = set_put _ _ _ c.args.w.now c.args.k c.args.a _ c.requires.1 refl (c.u32.ensures.wrote (omega arith)) c.put_longs.ensures.wrote
