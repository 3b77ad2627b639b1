use Rattle.std.proofs.Common.{rules}
use Rattle.receiver.proofs.Calls.{put_step}
use Rattle.receiver.proofs.put_bytes.Goals as goal

pub loop-i-preserved : goal.loop-i-preserved
loop-i-preserved c = search (put_step, rules)
