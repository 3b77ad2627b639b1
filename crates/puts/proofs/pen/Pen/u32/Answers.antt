-- The bytes of the number, which are 4.
use Rattle.std.proofs.Common.{ℕ, ◌+◌, ◌≡◌, rules, arith, refl}
use Rattle.puts.proofs.Puts.{put_number}
use Rattle.puts.proofs.pen.Pen.u32.Goals as goal

pub returns-clause-wrote : goal.returns-clause-wrote
returns-clause-wrote c = λ h.
    let e : c.saturating_add-self.result ≡ c.args.self.now.at + 4 = omega (arith, h) in
    record { same = refl; put = search (put_number, rules) }
