-- Invariant: what is left to put gives the whole.
use Rattle.std.proofs.Common.{◌≡◌, ◌-◌}
use Rattle.formats.specs.Texts.{digits}
use Rattle.puts.specs.Puts.{put_at}
use Rattle.listing.proofs.text.put_digits.Given as goal

abbrev pub invariant-loop-i : goal.invariant-loop-i
invariant-loop-i g l = put_at l.at (digits g.row.BASE (l.k - l.i) l.rest) l.b ≡ put_at l.at (digits g.row.BASE l.k l.n) l.initial.b
