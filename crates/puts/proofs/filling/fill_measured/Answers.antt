-- There is too little room for them, or room for all.
use Rattle.std.proofs.Common.{refl}
use Rattle.puts.proofs.Room.{room_short, room_there}
use Rattle.puts.proofs.filling.fill_measured.Goals as goal

pub returns-then-buffer-measured : goal.returns-then-buffer-measured
returns-then-buffer-measured g c = λ b puts e. room_short b _ _ e c.if-buffer-measured.true

pub returns : goal.returns
returns g c = λ b puts e.
    let filled = puts.at _ _ _ (record { shown = _; shows = refl; left = _; met = c.put.ensures; leaves = refl }) in
    room_there b _ _ e c.if-buffer-measured.false _ _ filled
