-- The loop that moves words down, and clearing: up to a place the work is done, and from there on the words are as
-- they were.
use Prim.Native.Nat.{ℕ, ◌+◌, ◌-◌, ◌≤◌, ◌<◌}
use native.Mathlib.Omega.{arith}
use mathlib.Core.List.{List, ◌++◌, append-nil}
use mathlib.Core.Path.{◌≡◌, ap, ap₂, ◌∙◌}
use lib.ListN.{length, get_or, take, drop, set, length-set, length-take, length-drop, replicate, drop_of_length-le}
use lib.Seq.{paste, drop-drop}
use Rattle.lists.specs.Words.{closed, cleared}
use Rattle.lists.proofs.Words.{move_on, move_clear}

-- ---- the loop of `move_down`; the moved words are as many
module _ (d t : List ℕ) (at m e k : ℕ) where
  pub move_step : t ≡ paste d at (drop (at + m) d) (k - at) → at ≤ k → k < e - m → e ≤ length d
      → set t k (get_or t (k + m) 0) ≡ paste d at (drop (at + m) d) (k + 1 - at)
  move_step inv h b q = move_on d t at m k inv h (omega arith)

  pub move_end : t ≡ paste d at (drop (at + m) d) (k - at) → k ≤ e - m → e - m ≤ k
      → t ≡ paste d at (drop (at + m) d) (e - m - at)
  move_end inv h b = let f : k - at ≡ e - m - at = omega arith in inv ∙ ap (paste d at (drop (at + m) d)) f

-- a part that is filled with zeros
pub part_cleared : (d v : List ℕ) (at e : ℕ) → at ≤ e → e ≤ length d
    → v ≡ replicate (length (take (e - at) (drop at d))) 0
    → take at d ++ (v ++ drop (e - at) (drop at d)) ≡ cleared d at e
unfolding cleared
part_cleared d v at e h b q =
    let m : length (take (e - at) (drop at d)) ≡ e - at = omega (arith, length-take (e - at) (drop at d), length-drop at d) in
    let f : at + (e - at) ≡ e = omega arith in
    ap₂ (λ (x y : List ℕ). take at d ++ (x ++ y)) (q ∙ ap (λ (n : ℕ). replicate n 0) m)
    (drop-drop (e - at) at d ∙ ap (λ (n : ℕ). drop n d) f)

pub gap_closed : (w u v : List ℕ) (at m e : ℕ) → at + m ≤ e → e ≤ length w
    → u ≡ paste w at (drop (at + m) w) (e - m - at) → v ≡ cleared u (e - m) e → v ≡ closed w at m e
gap_closed w u v at m e h b p q = q ∙ ap (λ (l : List ℕ). cleared l (e - m) e) p ∙ move_clear w at m e h b

pub set_kept : (d t : List ℕ) (k x : ℕ) → length t ≡ length d → length (set t k x) ≡ length d
set_kept d t k x e = length-set t k x ∙ e

-- zeros from the start to the end
pub all_clear : (w v : List ℕ) → v ≡ cleared w 0 (length w) → v ≡ replicate (length w) 0
unfolding cleared
all_clear w v e =
    let z : length w - 0 ≡ length w = omega arith in
    e ∙ ap₂ (λ (n : ℕ) (l : List ℕ). replicate n 0 ++ l) z (drop_of_length-le w {i = length w} (omega arith))
    ∙ append-nil (replicate (length w) 0)
