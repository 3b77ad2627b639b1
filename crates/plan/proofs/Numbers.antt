-- Numbers after a count that is given: each is refused at its own start, so as fields they read alike, and all have one
-- width.
use Prim.Native.Nat.{ℕ, ◌≤◌}
use native.Mathlib.Omega.{arith}
use mathlib.Core.Bool.{Bool, true, false}
use mathlib.Core.List.{List}
use mathlib.Core.Path.{◌≡◌, refl, ap, ◌∙◌}
use lib.Dec.{leb}
use lib.ListN.{length, take, drop}
use Rattle.lists.specs.Bytes.{little}
use Rattle.formats.specs.Formats.{got, bad, when, read_number, read_count, start_at, field, listed}
use Rattle.formats.specs.Formats.{Format, ListFits}
use Rattle.formats.proofs.Formats.{Lawful, lawful_number}
use Rattle.formats.proofs.Widths.{wide_number}
use Rattle.rules.specs.Plan.{short, Short}
use Rattle.rules.proofs.Plan.{lawful_list}
use Rattle.plan.specs.Sections.{section_answer, fields_answer, numbers_section}
use Rattle.plan.proofs.Passing.{Listed, list_read_law, fields_law}

alike : (k : ℕ) (b : List ℕ) → start_at b (read_number k b) ≡ read_number k b
unfolding read_number when start_at
alike k b = by (leb k (length b))
  where
    by : (x : Bool) → start_at b (when x (got (little (take k b)) (drop k b)) (bad 20 b))
        ≡ when x (got (little (take k b)) (drop k b)) (bad 20 b)
    by true = refl
    by false = refl

as_field : field short ≡ short
as_field = λ i. record { read = λ b. alike 4 b i; write = short.write }

abbrev pub number_in : List ℕ → ℕ
number_in b = little (take 4 b)

pub lawful_numbers : (n : ℕ) → Lawful (numbers_section n) (ListFits 4 n n Short)
lawful_numbers n = lawful_list n n short Short (lawful_number 4)

-- what was read
pub numbers_read : (n : ℕ) (s ns t : List ℕ) → (numbers_section n).read s ≡ got ns t
    → Listed short 4 number_in (wide_number 4) n n s ns t
numbers_read n s ns t e =
    list_read_law short 4 number_in (wide_number 4) n n s ns t (ap (λ (F : Format ℕ). (listed 4 n n F).read s) as_field ∙ e)

pub numbers_pass : (s : List ℕ) (at n : ℕ) → at ≤ length s
    → fields_answer 4 (length s) at (read_count 4 n n (drop at s))
    ≡ section_answer (length s) ((numbers_section n).read (drop at s))
numbers_pass s at n h =
    fields_law short 4 number_in (wide_number 4) n n s at h (omega arith)
    ∙ ap (λ (F : Format ℕ). section_answer (length s) ((listed 4 n n F).read (drop at s))) as_field
