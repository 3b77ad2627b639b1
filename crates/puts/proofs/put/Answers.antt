-- Past the end nothing is put; and where all of them fit, the part of the whole that is as long became them.
use Rattle.std.proofs.Common.{rules, arith, sym}
use Rattle.puts.proofs.Puts.{put_past, put_whole}
use Rattle.puts.proofs.put.Goals as goal

pub returns-then-s-at : goal.returns-then-s-at
returns-then-s-at g c = sym (put_past _ _ _ (omega (arith, c.if-s-at.true)))

pub returns-then-s-at-2 : goal.returns-then-s-at-2
returns-then-s-at-2 g c = put_whole _ _ _ _ _ c.copy_from_slice.ensures.after (search rules) (omega (arith, c.if-s-at-2.true, c.if-s-at.false))
