-- Invariant: the bytes that are left to put, at what stands there now, give the whole.
use Rattle.std.proofs.Common.{◌≡◌, ◌+◌, length, drop}
use Rattle.puts.specs.Puts.{put_at}
use Rattle.puts.proofs.put_each.Given as goal

abbrev pub invariant-loop-to : goal.invariant-loop-to
invariant-loop-to l = put_at (l.at + length l.yielded) (drop (length l.yielded) l.from) l.s ≡ put_at l.at l.from l.initial.s
