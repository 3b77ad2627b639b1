-- A walker's step is a number read at its place: there where four bytes are left, missing where not, also past the end.
use Prim.Native.Nat.{ℕ, ◌+◌, ◌-◌, ◌≤◌, ◌<◌}
use native.Mathlib.Omega.{arith}
use Rattle.std.specs.Prelude.{Option, Some, None}
use mathlib.Core.List.{List}
use mathlib.Core.Path.{◌≡◌, sym, ap, ◌∙◌}
use lib.ListN.{length, take, drop, length-drop}
use lib.Seq.{drop-drop}
use Rattle.lists.specs.Bytes.{little}
use Rattle.lists.specs.Words.{part}
use Rattle.formats.specs.Formats.{Out, got, bad, read_number}
use Rattle.formats.proofs.Widths.{number_there, number_short}
use Rattle.walker.specs.Walker.{found_of, place_behind, step_at, next_of}
use Rattle.walker.specs.declared.Walker.{Walker}

abbrev standing : Walker → ℕ → Walker
standing w at = record { plan = w.plan; at = at }

module _ (s : List ℕ) (at : ℕ) where
  abbrev step_of : Out ℕ → Option ℕ × ℕ
  step_of o = (found_of o, place_behind at o)

  -- also where the place is past the end
  pub no_number : length s < at + 4 → read_number 4 (drop at s) ≡ bad 20 (drop at s)
  no_number l = number_short 4 (drop at s) (omega (arith, length-drop at s))

  pub a_number : at + 4 ≤ length s → read_number 4 (drop at s) ≡ got (little (part at 4 s)) (drop (at + 4) s)
  unfolding part
  a_number l =
      number_there 4 (drop at s) (omega (arith, length-drop at s))
      ∙ ap (got (little (take 4 (drop at s)))) (drop-drop 4 at s)

  step_short : length s < at + 4 → step_at s at ≡ (None, at)
  unfolding step_at found_of place_behind
  step_short l = ap step_of (no_number l)

  step_there : at + 4 ≤ length s → step_at s at ≡ (Some (little (part at 4 s)), at + 4)
  unfolding step_at found_of place_behind
  step_there l = ap step_of (a_number l)

-- what a walker finds, and where it stands then
module _ (w : Walker) where
  pub next_past : (r : Option ℕ) → r ≡ None → (w.at ≤ length w.plan.now → ⊥) → (r ≡ (next_of w).0) × (w ≡ (next_of w).1)
  next_past r e h =
      let s = step_short w.plan.now w.at (omega arith) in
      (e ∙ sym (ap (λ (x : Option ℕ × ℕ). x.0) s), ap (standing w) (sym (ap (λ (x : Option ℕ × ℕ). x.1) s)))

  pub next_short : (left : ℕ) → (w.at ≤ length w.plan.now) × (left ≡ length w.plan.now - w.at) → left < 4
      → (None ≡ (next_of w).0) × (w ≡ (next_of w).1)
  next_short left i h =
      let s = step_short w.plan.now w.at (omega (arith, i)) in
      (sym (ap (λ (x : Option ℕ × ℕ). x.0) s), ap (standing w) (sym (ap (λ (x : Option ℕ × ℕ). x.1) s)))

  pub next_there : (left n : ℕ) → (w.at ≤ length w.plan.now) × (left ≡ length w.plan.now - w.at) → 4 ≤ left
      → n ≡ little (part w.at 4 w.plan.now) → (Some n ≡ (next_of w).0) × (standing w (w.at + 4) ≡ (next_of w).1)
  next_there left n i h e =
      let s = step_there w.plan.now w.at (omega (arith, i)) in
      (ap (λ (x : ℕ). Some x) e ∙ sym (ap (λ (x : Option ℕ × ℕ). x.0) s), ap (standing w) (sym (ap (λ (x : Option ℕ × ℕ). x.1) s)))
