-- Two cases: the buffer is too short, or the piece is put behind what is stored.
use Rattle.std.proofs.Common.{rules}
use Rattle.receiver.proofs.Calls.{takes_short, takes_piece, piece_room, piece_part}
use Rattle.receiver.proofs.take_piece.Goals as goal

pub returns-then-buffer-lt-LONGEST_PLAN : goal.returns-then-buffer-lt-LONGEST_PLAN
returns-then-buffer-lt-LONGEST_PLAN c = search (takes_short, rules)

pub slice_bounds-put_bytes-end : goal.slice_bounds-put_bytes-end
slice_bounds-put_bytes-end c = search (piece_part, rules)

pub put_bytes-requires : goal.put_bytes-requires
put_bytes-requires c = search (piece_room, rules)

pub returns : goal.returns
returns c = search (takes_piece, rules)
