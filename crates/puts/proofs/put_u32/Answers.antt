-- The number's bytes are the array's.
use Rattle.std.proofs.Common.{arith}
use Rattle.puts.proofs.Puts.{put_low_32}
use Rattle.puts.proofs.put_u32.Goals as goal

pub returns : goal.returns
returns c = put_low_32 _ _ _ _ _ _ c.to_le_bytes.ensures c.put.ensures (omega arith)
