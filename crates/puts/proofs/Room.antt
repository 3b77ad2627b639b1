-- Bytes that are measured first: there is room for them at the start, or too little.
use Prim.Native.Nat.{ℕ, ◌+◌, ◌≤◌, ◌<◌}
use native.Mathlib.Omega.{arith}
use mathlib.Core.List.{List, ◌++◌}
use mathlib.Core.Path.{◌≡◌, refl, ap, ◌∙◌}
use lib.ListN.{length, drop}
use Rattle.std.specs.Prelude.{Some, None}
use Rattle.puts.specs.Filling.{fill_in}
use Rattle.puts.specs.Puts.{Put}
use Rattle.puts.proofs.Puts.{put_fits}

module _ (b s : List ℕ) (n : ℕ) (e : n ≡ length b) where
  pub room_short : length s < n → fill_in b s None s
  unfolding fill_in
  room_short h = (omega arith, refl)

  pub room_there : n ≤ length s → (v : List ℕ) (k : ℕ) → Put s 0 b v k → fill_in b s (Some n) v
  unfolding fill_in
  room_there h v k p =
      let z : 0 + length b ≡ length b = omega arith in
      (omega arith, omega arith, p.bytes ∙ put_fits 0 b s (omega arith) ∙ ap (λ (j : ℕ). b ++ drop j s) z)
