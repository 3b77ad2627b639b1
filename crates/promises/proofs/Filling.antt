-- A filler that answers 0 has filled the buffer: none of its refusals applied and its bytes fit, so they stand at the start.
use Prim.Native.Nat.{ℕ}
use native.Mathlib.Omega.{arith}
use mathlib.Core.List.{List, ◌++◌}
use mathlib.Core.Path.{◌≡◌, refl, ap, ◌∙◌}
use lib.ListN.{length, take, drop, length-append, length-drop}
use lib.Seq.{take_at, drop_at}
use Rattle.lists.specs.Rules.{Rule}
use Rattle.rules.specs.Filling.{fill_answer, fill_leaves, filling}
use Rattle.rules.specs.declared.Outcome.{Outcome}
use Rattle.rules.proofs.Filling.{zero_fits, fits_zero, leaves_filled, Refusing}
use Rattle.promises.specs.Filling.{Fills}

module _ (rs : List (Rule Outcome)) (b w : List ℕ) where
  pub filled : Refusing rs → (filling rs b w).outcome.number ≡ 0 → Fills b w (filling rs b w).outcome (filling rs b w).buffer
  filled none e =
      let (q, room) = zero_fits b (length w) rs none e in
      let v : fill_leaves (fill_answer rs b (length w)) b w ≡ b ++ drop (length b) w = leaves_filled _ b w e in
      record {
        place = fits_zero b (length w) rs q room;
        room = room;
        front = ap (take (length b)) v ∙ take_at b (drop (length b) w) (length b) refl;
        behind = ap (drop (length b)) v ∙ drop_at b (drop (length b) w) (length b) refl;
        long = ap length v ∙ omega (arith, length-append b (drop (length b) w), length-drop (length b) w);
      }
