-- Offsets: a reader leaves the end of the bytes that it was lent, so the offset of what it leaves is a difference of
-- lengths.
use Prim.Native.Nat.{ℕ, ◌-◌, ◌≤◌}
use native.Mathlib.Omega.{arith}
use mathlib.Core.List.{List}
use mathlib.Core.Path.{◌≡◌, sym, ap, ◌∙◌}
use lib.ListN.{length, take, drop, length-append, length-drop, take-append-drop}
use lib.Seq.{take_all, drop_at}
use Rattle.formats.specs.Formats.{Out, got, bad, left}
use Rattle.formats.proofs.Formats.{Part, part_trans}
use Rattle.std.proofs.Common.{Ok, Err}
use Rattle.plan.specs.Told.{answer_by}
use Rattle.plan.specs.Sections.{section_answer}

-- an offset, and what is left from there
pub place : (s : List ℕ) (k : ℕ) → k ≤ length s → k ≡ length s - length (drop k s)
place s k h = omega (arith, length-drop k s)

-- (the code's `&s[e..]` is `take (length s - e) (drop e s)`)
pub rest_of : (s : List ℕ) (e : ℕ) → take (length s - e) (drop e s) ≡ drop e s
rest_of s e = take_all (length s - e) (drop e s) (omega (arith, length-drop e s))

-- the end of a part that goes to the end
pub part_in : (s t : List ℕ) (at : ℕ) → Part t (drop at s) → Part t s
part_in s t at p = part_trans t (drop at s) s p (take at s, sym (take-append-drop at s))

-- ---- a section that reads o, in bytes of which what o leaves is the end
module _ {A : Type 0} (s : List ℕ) (o : Out A) (part : Part (left o) s) where
  pub left_within : length (left o) ≤ length s
  left_within = omega (arith, ap length part.1, length-append part.0 (left o))

  -- what it reads, where it ends
  pub ends_with : (e : ℕ) → Ok e ≡ section_answer (length s) o → (x : A) × (o ≡ got x (drop e s))
  unfolding answer_by left
  ends_with e f = by o part f
    where
      by : (o : Out A) → Part (left o) s → Ok e ≡ section_answer (length s) o → (x : A) × (o ≡ got x (drop e s))
      by (got x t) p g =
          let m : e ≡ length s - length t = cc in
          let n : length p.0 ≡ e = omega (arith, ap length p.1, length-append p.0 t) in
          (x, ap (got x) (sym (ap (drop e) p.1 ∙ drop_at p.0 t e n)))
      by (bad k t) p g = absurd (cc)

  pub end_within : (e : ℕ) → Ok e ≡ section_answer (length s) o → e ≤ length s
  unfolding answer_by
  end_within e f = by o f
    where
      by : (o : Out A) → Ok e ≡ section_answer (length s) o → e ≤ length s
      by (got x t) g = let m : e ≡ length s - length t = cc in omega arith
      by (bad k t) g = absurd (cc)

  -- and the place of a refusal lies within the bytes, or where they end
  pub bad_within : (k a : ℕ) → Err (k, a) ≡ section_answer (length s) o → a ≤ length s
  unfolding answer_by
  bad_within k a f = by o f
    where
      by : (o : Out A) → Err (k, a) ≡ section_answer (length s) o → a ≤ length s
      by (got x t) g = absurd (cc)
      by (bad j t) g =
          let m : ◌≡◌ {A = ℕ × ℕ} (k, a) (j, length s - length t) = cc in
          omega (arith, ap (λ (x : ℕ × ℕ). x.1) m)
