-- Where nothing is there, it ends behind as many bytes as it puts.
use Rattle.std.proofs.Common.{arith, refl}
use Rattle.puts.proofs.filling.fill.Goals as goal

pub returns : goal.returns
returns g c = λ b puts.
    let measured = puts.at _ _ _ (record { shown = _; shows = refl; left = _; met = c.put-length.ensures; leaves = refl }) in
    c.fill_measured.ensures b puts (omega (arith, measured.end))
