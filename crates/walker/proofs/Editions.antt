-- Four steps of a walker are what the marks section reads: by how far the bytes go, and whether the count is 3 and the
-- format's mark 2.
use Prim.Native.Nat.{ℕ, ◌≤◌, ◌<◌}
use native.Mathlib.Omega.{arith}
use mathlib.Core.Bool.{true, false}
use mathlib.Core.List.{List}
use mathlib.Core.Logic.{⊎_elim}
use mathlib.Core.Path.{◌≡◌, ap}
use borrow.Author.Tests.{leb-true, leb-false}
use lib.Dec.{leb, eqb}
use lib.ListN.{length}
use Rattle.std.specs.Prelude.{Err}
use Rattle.lists.specs.Bytes.{little}
use Rattle.lists.specs.Words.{part}
use Rattle.lists.proofs.Tests.{holds_or_fails}
use Rattle.formats.specs.Formats.{then, when, read_count, read_both, read_as, read_headed}
use Rattle.formats.proofs.Formats.{only_one}
use Rattle.plan.proofs.Offsets.{place}
use Rattle.walker.specs.Walker.{found_of, place_behind, step_at}
use Rattle.walker.specs.Edition.{edition_of, or_cut, judged}
use Rattle.plan.specs.Told.{Told, answer_by}
use Rattle.walker.proofs.Steps.{a_number, no_number}

-- ---- four steps from the start
-- to unfold this name is to unfold what a step and the reading of the marks are made of
mark_parts : Unit {0}
unfolding step_at found_of place_behind judged or_cut answer_by read_headed read_count read_as read_both then when
mark_parts = tt

abbrev cut : ℕ → ℕ → Told ℕ
cut k at = Err (k, at)

by_size : {P : Type 0} (k n : ℕ) → (k ≤ n → P) → (n < k → P) → P
by_size k n most less = ⊎_elim (λ h. most (leb-true k n h)) (λ h. less (leb-false k n h)) (holds_or_fails (leb k n))

module _ (b : List ℕ) where
  abbrev pub walked : Told ℕ
  walked =
      judged (step_at b 0).0 (step_at b (step_at b 0).1).0 (step_at b (step_at b (step_at b 0).1).1).0
      (step_at b (step_at b (step_at b (step_at b 0).1).1).1).0

  abbrev count : ℕ
  count = little (part 0 4 b)

  abbrev mark : ℕ
  mark = little (part 12 4 b)

  no_count : length b < 4 → walked ≡ edition_of b
  unfolding mark_parts
  no_count l = rw (no_number b 0 l) (ap (cut 20) (place b 0 (omega arith)))

  other_count : 4 ≤ length b → eqb count 3 ≡ false → walked ≡ edition_of b
  unfolding mark_parts
  other_count l f = rw (a_number b 0 l, only_one 3 count, f) (ap (cut 21) (place b 0 (omega arith)))

  module _ (l : 4 ≤ length b) (t : eqb count 3 ≡ true) where
    no_gic : length b < 8 → walked ≡ edition_of b
    unfolding mark_parts
    no_gic m = rw (a_number b 0 l, only_one 3 count, t, no_number b 4 m) (ap (cut 20) (place b 4 l))

    no_edition : 8 ≤ length b → length b < 12 → walked ≡ edition_of b
    unfolding mark_parts
    no_edition m n =
        rw (a_number b 0 l, only_one 3 count, t, a_number b 4 m, no_number b 8 n) (ap (cut 20) (place b 8 m))

    module _ (n : 12 ≤ length b) where
      no_format : length b < 16 → walked ≡ edition_of b
      unfolding mark_parts
      no_format o =
          rw (a_number b 0 l, only_one 3 count, t, a_number b 4 (omega arith), a_number b 8 n, no_number b 12 o)
          (ap (cut 20) (place b 12 n))

      module _ (o : 16 ≤ length b) where
        other_format : eqb mark 2 ≡ false → walked ≡ edition_of b
        unfolding mark_parts
        other_format f =
            rw (
              a_number b 0 l,
              only_one 3 count,
              t,
              a_number b 4 (omega arith),
              a_number b 8 n,
              a_number b 12 o,
              only_one 2 mark,
              f,
            )
            (ap (cut 21) (place b 12 n))

        named : eqb mark 2 ≡ true → walked ≡ edition_of b
        unfolding mark_parts
        named f =
            rw (
              a_number b 0 l,
              only_one 3 count,
              t,
              a_number b 4 (omega arith),
              a_number b 8 n,
              a_number b 12 o,
              only_one 2 mark,
              f,
            )

      with_edition : walked ≡ edition_of b
      with_edition =
          by_size 16 (length b) (λ o. ⊎_elim (named o) (other_format o) (holds_or_fails (eqb mark 2))) no_format

    three_marks : walked ≡ edition_of b
    three_marks = by_size 8 (length b) (λ m. by_size 12 (length b) with_edition (no_edition m)) no_gic

  pub walked_is : walked ≡ edition_of b
  walked_is = by_size 4 (length b) (λ l. ⊎_elim (three_marks l) (other_count l) (holds_or_fails (eqb count 3))) no_count
