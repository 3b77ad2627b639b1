-- The byte is the first that is put, and the last; past the end nothing is.
use Rattle.std.proofs.Common.{rules, arith, refl, sym, [], ◌∷◌}
use Rattle.puts.specs.Puts.{put_at}
use Rattle.puts.proofs.Puts.{put_past}
use Rattle.puts.proofs.put_byte.Goals as goal

pub returns-then-at-s : goal.returns-then-at-s
unfolding put_at
returns-then-at-s c = refl

pub returns-else-at-s : goal.returns-else-at-s
returns-else-at-s c = sym (put_past c.args.at (c.args.byte ∷ []) c.args.s.now (omega (arith, c.if-at-s.false)))
