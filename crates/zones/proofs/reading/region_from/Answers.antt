-- The words from k on, of which those past the end are zeros.
use Prim.Native.Nat.{ℕ, ◌+◌, ◌-◌, min}
use native.Mathlib.Decide.{dec_lt}
use native.Mathlib.Omega.{arith}
use mathlib.Core.List.{List}
use mathlib.Core.Path.{◌≡◌, sym, ap, ◌∙◌}
use borrow.Author.Rules.{rules}
use lib.ListN.{length, get_or, take, drop, length-drop, get_or-eq_default}
use Rattle.std.proofs.lemmas.List.{get_or-drop, take_all}
use Rattle.rules.specs.Fields.{region_of}
use Rattle.rules.specs.declared.Region.{Region}
use Rattle.zones.specs.Records.{region_at}
use Rattle.zones.proofs.reading.region_from.Goals as goal

module _ (w : List ℕ) (k m : ℕ) (e : m ≡ min k (length w)) where
  abbrev left : List ℕ
  left = take (length w - m) (drop m w)

  word : (i : ℕ) → get_or left i 0 ≡ get_or w (k + i) 0
  word i =
      ap (λ (l : List ℕ). get_or l i 0) (take_all (length w - m) (drop m w) (omega (arith, length-drop m w)))
      ∙ get_or-drop m w i 0
      ∙ elim (dec_lt k (length w)) [
        | yes h ↦ let q : m + i ≡ k + i = omega arith in ap (λ (j : ℕ). get_or w j 0) q
        | no h ↦ get_or-eq_default w 0 (omega arith) ∙ sym (get_or-eq_default w 0 (omega arith))
      ]

  record_from : (r : Region) → r ≡ region_of (get_or left 0 0) (get_or left 1 0) (get_or left 2 0) (get_or left 3 0)
      → r ≡ region_at w k
  unfolding region_at
  record_from r h = h ∙ (λ i. region_of (word 0 i) (word 1 i) (word 2 i) (word 3 i))

pub returns-in-len4-up : goal.returns-in-len4-up
returns-in-len4-up c = record_from _ _ _ c.min.ensures _ c.region_of.ensures

pub returns : goal.returns
returns c = record_from _ _ _ c.min.ensures _ (search rules)
