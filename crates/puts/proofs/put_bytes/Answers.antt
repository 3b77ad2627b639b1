-- Past the end nothing is put.
use Rattle.std.proofs.Common.{arith, sym}
use Rattle.puts.proofs.Puts.{put_past}
use Rattle.puts.proofs.put_bytes.Goals as goal

pub returns-else-at-s : goal.returns-else-at-s
returns-else-at-s c = sym (put_past c.args.at c.args.from.now c.args.s.now (omega (arith, c.if-at-s.false)))
