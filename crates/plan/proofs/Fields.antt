-- Fields, by how many bytes are there: a field is read where its bytes are, and refused with 20 where not.
use Prim.Native.Nat.{ℕ, ◌+◌, ◌-◌, ◌*◌, ◌≤◌, ◌<◌}
use native.Mathlib.Omega.{arith}
use mathlib.Core.Bool.{true, false, ◌&&◌}
use mathlib.Core.List.{List}
use mathlib.Core.Path.{◌≡◌, refl, sym, ap, ap₂, ◌∙◌}
use lib.ListN.{length, take, drop, length-drop}
use lib.Seq.{drop-drop}
use Rattle.lists.specs.Bytes.{little}
use Rattle.lists.specs.Places.{places, tab}
use Rattle.lists.specs.Words.{part}
use Rattle.lists.specs.Tests.{all_of}
use Rattle.std.proofs.Common.{Ok, Err}
use Rattle.std.proofs.Common.{is_le, nat_cmp}
use Rattle.std.proofs.lemmas.Bool.Decides.{nat_tests}
use Rattle.formats.specs.Formats.{Out, got, when, then, read_number, read_count, within, both, as_type, many, Format}
use Rattle.formats.proofs.Widths.{Wide, number_there, number_short, wide_number, wide_both, wide_as, field_there}
use Rattle.formats.proofs.Widths.{wide_many, field_short}
use Rattle.rules.specs.Fields.{region_numbers, numbers_of, region_by, region_to, short_size, long_size, region_size}
use Rattle.rules.specs.Plan.{short, long, region_format, region_field, asked_to, asked_from, Asked}
use Rattle.rules.specs.Run.{request_size, region_in}
use Rattle.rules.specs.declared.Region.{Region}
use Rattle.zones.proofs.Running.{region_within}
use Rattle.rules.specs.Numbers.{number}
use Rattle.rules.specs.declared.refusal.Refusal.TheVariants.{Cut, Count}
use Rattle.plan.specs.Fields.{field_out, field_end, FieldRead}
use Rattle.plan.specs.Told.{answer_by}
use Rattle.plan.specs.declared.refused.Refused.{Refused}
use Rattle.plan.proofs.Offsets.{place}

-- ---- regions and requests have one width
abbrev longs_in : List ℕ → List ℕ
longs_in b = tab region_numbers (λ i. little (take long_size (drop (i * long_size) b)))

unfoldable pub region_value : List ℕ → Region
region_value b = region_to (longs_in b)

abbrev pub asked_in : List ℕ → Asked
asked_in b = asked_to (little (take 4 b), (little (take 4 (drop 4 b)), region_value (drop 4 (drop 4 b))))

pub wide_region : Wide region_format region_size region_value
unfolding region_value
wide_region =
    wide_as (many long region_numbers) region_to numbers_of region_size longs_in
    (wide_many long long_size (λ b. little (take long_size b)) (wide_number long_size) region_numbers)

abbrev pub asked_format : Format Asked
asked_format = as_type (both short (both short region_format)) asked_to asked_from

pub wide_asked : Wide asked_format request_size asked_in
wide_asked =
    wide_as (both short (both short region_format)) asked_to asked_from request_size
    (λ b. (little (take 4 b), (little (take 4 (drop 4 b)), region_value (drop 4 (drop 4 b)))))
    (wide_both short (both short region_format) 4 (4 + region_size) (λ b. little (take 4 b))
    (λ b. (little (take 4 b), region_value (drop 4 b))) (wide_number 4)
    (wide_both short region_format 4 region_size (λ b. little (take 4 b)) region_value (wide_number 4) wide_region))

-- a region at a place is that of the bytes from there on
pub in_bytes : (s : List ℕ) (at : ℕ) → region_in s at ≡ region_value (drop at s)
unfolding region_in region_value part tab places
in_bytes s at = λ j. region_by (λ i. little (take long_size (sym (drop-drop (i * long_size) at s) j)))

-- ---- the code's number, count and region
abbrev cut : ℕ → Refused
cut at = record { why = Cut; at = at }

module _ (s : List ℕ) (at : ℕ) (h : at ≤ length s) where
  pub number_none : length s - at < 4 → FieldRead short_size s at (read_number 4 (drop at s)) (Err (cut at))
  unfolding field_out field_end
  number_none l = record { read = number_short 4 (drop at s) (omega (arith, length-drop at s)); within = h }

  pub number_is : 4 ≤ length s - at → (n : ℕ) → n ≡ little (part at 4 s)
      → FieldRead short_size s at (read_number 4 (drop at s)) (Ok n)
  unfolding field_out field_end part
  number_is l n e = record {
    read =
        number_there 4 (drop at s) (omega (arith, length-drop at s))
        ∙ ap₂ (λ (m : ℕ) (t : List ℕ). got m t) (sym e) (drop-drop 4 at s);
    within = omega arith;
  }

  pub region_missing : length s - at < region_size → FieldRead region_size s at (region_field.read (drop at s)) (Err (cut at))
  unfolding field_out field_end
  region_missing l = record {
    read = field_short region_format region_size region_value wide_region (drop at s) (omega (arith, length-drop at s));
    within = h;
  }

  pub region_is : region_size ≤ length s - at → (e : ℕ) (r : Region) → at + region_size ≤ e
      → r ≡ region_in (take (e - at) (drop at s)) 0 → FieldRead region_size s at (region_field.read (drop at s)) (Ok r)
  unfolding field_out field_end
  region_is l e r w q = record {
    read =
        field_there region_format region_size region_value wide_region (drop at s) (omega (arith, length-drop at s))
        ∙ ap₂ (λ (x : Region) (t : List ℕ). got x t) (sym (q ∙ region_within s at e w ∙ in_bytes s at))
        (drop-drop region_size at s);
    within = omega arith;
  }

  -- a count is a number that is judged
  module _ (lo hi : ℕ) where
    pub count_none : (r : Refused) → FieldRead short_size s at (read_number 4 (drop at s)) (Err r)
        → FieldRead short_size s at (read_count 4 lo hi (drop at s)) (Err r)
    unfolding read_count then field_out field_end
    count_none r read = record { read = rw read.read refl; within = read.within }

    module _ (n : ℕ) (read : FieldRead short_size s at (read_number 4 (drop at s)) (Ok n)) where
      pub count_out : within lo hi n ≡ false
          → FieldRead short_size s at (read_count 4 lo hi (drop at s)) (Err (record { why = Count; at = at }))
      unfolding read_count then when field_out field_end
      count_out e = record { read = rw (read.read, e) refl; within = h }

      pub count_in : within lo hi n ≡ true → FieldRead short_size s at (read_count 4 lo hi (drop at s)) (Ok n)
      unfolding read_count then when field_out field_end
      count_in e = record { read = rw (read.read, e) refl; within = read.within }

-- the code's test of a count
pub within_tests : (lo hi n : ℕ) → within lo hi n ≡ (is_le (nat_cmp lo n) && is_le (nat_cmp n hi))
unfolding within all_of
within_tests lo hi n = grind (arith, nat_tests)

-- ---- what a field's reader answered
module _ {A : Type 0} (w : ℕ) (s : List ℕ) (at : ℕ) (o : Out A) where
  pub field_is : (x : A) → FieldRead w s at o (Ok x) → o ≡ got x (drop (at + w) s)
  unfolding field_out
  field_is x read = read.read

  pub field_there_law : (x : A) → FieldRead w s at o (Ok x) → at + w ≤ length s
  unfolding field_end
  field_there_law x read = read.within

  -- a field that is refused is where the whole is
  pub field_stops : {B C : Type 0} (g : A → List ℕ → Out B) (f : B → List ℕ → C) (r : Refused) → FieldRead w s at o (Err r)
      → Err (number r.why, r.at) ≡ answer_by f (length s) (then o g)
  unfolding field_out field_end answer_by then
  field_stops g f r read =
      rw read.read (ap (λ (p : ℕ). Err (number r.why, p)) (place s r.at read.within))
