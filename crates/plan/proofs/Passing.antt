-- Lists of fields of one width: where the bytes of all are there, the list ends after them; else the first field that
-- is cut is refused.
use Prim.Native.Nat.{ℕ, zero, suc, ◌+◌, ◌-◌, ◌*◌, ◌/◌, ◌≤◌, ◌<◌}
use native.Mathlib.Nat.{suc-mul, zero-mul}
use native.Mathlib.Omega.{arith}
use mathlib.Core.Bool.{Bool, true, false, cond}
use mathlib.Core.List.{List, ◌∷◌}
use mathlib.Core.Path.{◌≡◌, refl, sym, ap, ap₂, ◌∙◌}
use borrow.Author.Tests.{lt-ltb, le-ltb, ltb-true, ltb-false}
use lib.Dec.{ltb}
use Rattle.std.proofs.Common.{Ok, Err}
use Rattle.std.proofs.Math.Nat.{div-mul-le_self, le-div_iff_mul-le, mod-eq-sub-div-mul, mod-lt}
use lib.ListN.{length, take, drop, length-drop}
use lib.Seq.{drop-drop}
use Rattle.lists.specs.Bytes.{little}
use Rattle.lists.specs.Places.{tab}
use Rattle.lists.proofs.Places.{length_tab}
use Rattle.formats.specs.Formats.{Out, got, bad, then, Format, field, read_many, read_count}
use Rattle.formats.specs.Formats.{read_headed, listed, number}
use Rattle.formats.proofs.Formats.{then_got, count_got}
use Rattle.formats.proofs.Widths.{Wide, number_there, wide_number, wide_got, wide_field, fields_there, fields_cut}
use Rattle.rules.specs.Fields.{region_size, short_size}
use Rattle.rules.specs.Limits.{most_requests, limits}
use Rattle.rules.specs.Numbers.{number as number_of}
use Rattle.rules.specs.Run.{request_size}
use Rattle.plan.specs.Fields.{field_out, field_end, FieldRead}
use Rattle.plan.specs.Told.{answer_by}
use Rattle.plan.specs.declared.refused.Refused.{Refused}
use Rattle.plan.specs.Sections.{section_answer, fields_answer}
use Rattle.rules.specs.Plan.{region_format, region_field, requests_section}
use Rattle.plan.proofs.Fields.{asked_in, asked_format, wide_asked, region_value, wide_region}
use Rattle.plan.proofs.Offsets.{place}

-- what is there of fields of k bytes ends before the next
next_over : (n k : ℕ) → 0 < k → n < suc (n / k) * k
next_over n k z = omega (arith, suc-mul (n / k) k, mod-eq-sub-div-mul n k, div-mul-le_self n k, mod-lt n {m = k} z)

module _ {A : Type 0} (F : Format A) (k : ℕ) (f : List ℕ → A) (wide : Wide F k f) where
  -- ---- what was read was all there
  fields_enough : (n : ℕ) (b : List ℕ) (xs : List A) (t : List ℕ) → read_many (field F) n b ≡ got xs t → n * k ≤ length b
  unfolding read_many
  fields_enough zero b xs t e = omega (arith, zero-mul k)
  fields_enough (suc n) b xs t e =
      let (x, s, ex, er) =
      then_got ((field F).read b) (λ x s. then (read_many (field F) n s) (λ ys u. got (x ∷ ys) u)) xs t e in
      let (ys, u, ey, eu) = then_got (read_many (field F) n s) (λ ys u. got (x ∷ ys) u) xs t er in
      let (l, es) = wide_got (field F) k f (wide_field F k f wide) b x s ex in
      omega (arith, suc-mul n k, fields_enough n s ys u ey, ap length es, length-drop k b)

  pub record Listed (lo hi : ℕ) (b : List ℕ) (xs : List A) (t : List ℕ) : Type 0 where
    pub count : length xs ≡ little (take 4 b)
    pub least : lo ≤ length xs
    pub most : length xs ≤ hi
    pub there : 4 + length xs * k ≤ length b
    pub rest : t ≡ drop (4 + length xs * k) b
    pub each : xs ≡ tab (length xs) (λ i. f (drop (i * k) (drop 4 b)))

  pub list_read_law : (lo hi : ℕ) (b : List ℕ) (xs : List A) (t : List ℕ) → (listed 4 lo hi (field F)).read b ≡ got xs t
      → Listed lo hi b xs t
  unfolding read_headed
  list_read_law lo hi b xs t e =
      let (n, u, ec, em) = then_got (read_count 4 lo hi b) (λ c s. read_many (field F) c s) xs t e in
      let counted = count_got 4 lo hi b n u ec in
      let (l, eu) = wide_got (number 4) 4 (λ b. little (take 4 b)) (wide_number 4) b n u counted.0 in
      let q : got (little (take 4 b)) (drop 4 b) ≡ got n u = sym (number_there 4 b l) ∙ counted.0 in
      let c : n ≡ little (take 4 b) = cc in
      let enough : n * k ≤ length u = fields_enough n u xs t em in
      let m : got (tab n (λ i. f (drop (i * k) u))) (drop (n * k) u) ≡ got xs t =
      sym (fields_there F k f wide n u enough) ∙ em in
      let v : xs ≡ tab n (λ i. f (drop (i * k) u)) = cc in
      let r : t ≡ drop (n * k) u = cc in
      let w : length xs ≡ n = ap length v ∙ length_tab n (λ i. f (drop (i * k) u)) in
      record {
        count = w ∙ c;
        least = omega (arith, w, counted.1.0);
        most = omega (arith, w, counted.1.1);
        there = omega (arith, ap (λ (j : ℕ). j * k) w, enough, ap length eu, length-drop 4 b);
        rest = r ∙ ap (drop (n * k)) eu ∙ drop-drop (n * k) 4 b ∙ ap (λ (j : ℕ). drop (4 + j * k) b) (sym w);
        each = v ∙ ap₂ (λ (j : ℕ) (d : List ℕ). tab j (λ i. f (drop (i * k) d))) (sym w) eu;
      }

  -- ---- passing over them: by the count, and how many are there
  pub fields_law : (lo hi : ℕ) (s : List ℕ) (at : ℕ) → at ≤ length s → 0 < k
      → fields_answer k (length s) at (read_count 4 lo hi (drop at s))
      ≡ section_answer (length s) ((listed 4 lo hi (field F)).read (drop at s))
  unfolding fields_answer answer_by read_headed then
  fields_law lo hi s at h z = by (read_count 4 lo hi (drop at s)) refl
    where
      there : ℕ
      there = (length s - (at + 4)) / k

      told : (n : ℕ) → at + 4 ≤ length s → (x : Bool) → ltb there n ≡ x
          → cond x (Err (20, at + 4 + there * k)) (Ok (at + 4 + n * k))
          ≡ section_answer (length s) (read_many (field F) n (drop (at + 4) s))
      told n l true e =
          let m : there * k ≤ length s - (at + 4) = div-mul-le_self (length s - (at + 4)) k in
          let q : read_many (field F) n (drop (at + 4) s) ≡ bad 20 (drop (at + 4 + there * k) s) =
          fields_cut F k f wide n there (drop (at + 4) s) (ltb-true there n e) (omega (arith, length-drop (at + 4) s))
          (omega (arith, length-drop (at + 4) s, next_over (length s - (at + 4)) k z))
          ∙ ap (bad 20) (drop-drop (there * k) (at + 4) s) in
          ap (λ (p : ℕ). Err (20, p)) (place s (at + 4 + there * k) (omega arith))
          ∙ ap (section_answer (length s)) (sym q)
      told n l false e =
          let m : n * k ≤ length s - (at + 4) =
          (le-div_iff_mul-le {k = k} {x = n} {y = length s - (at + 4)} z).0 (ltb-false there n e) in
          let q : read_many (field F) n (drop (at + 4) s)
          ≡ got (tab n (λ i. f (drop (i * k) (drop (at + 4) s)))) (drop (at + 4 + n * k) s) =
          fields_there F k f wide n (drop (at + 4) s) (omega (arith, length-drop (at + 4) s))
          ∙ ap (got (tab n (λ i. f (drop (i * k) (drop (at + 4) s))))) (drop-drop (n * k) (at + 4) s) in
          ap (λ (p : ℕ). Ok p) (place s (at + 4 + n * k) (omega arith)) ∙ ap (section_answer (length s)) (sym q)

      by : (o : Out ℕ) → read_count 4 lo hi (drop at s) ≡ o
          → fields_answer k (length s) at o ≡ section_answer (length s) (then o (λ c t. read_many (field F) c t))
      by (bad j t) e = refl
      by (got n t) e =
          let (l, et) =
          wide_got (number 4) 4 (λ b. little (take 4 b)) (wide_number 4) (drop at s) n t (count_got 4 lo hi (drop at s) n t e).0 in
          let d : t ≡ drop (at + 4) s = et ∙ drop-drop 4 at s in
          told n (omega (arith, length-drop at s)) (ltb there n) refl
          ∙ ap (λ (u : List ℕ). section_answer (length s) (read_many (field F) n u)) (sym d)

-- ---- as the code goes about it: the count was read
module _ (w : ℕ) (s : List ℕ) (at lo hi : ℕ) where
  pub fields_stop : (e : Refused) → FieldRead short_size s at (read_count 4 lo hi (drop at s)) (Err e)
      → Err (number_of e.why, e.at) ≡ fields_answer w (length s) at (read_count 4 lo hi (drop at s))
  unfolding fields_answer field_out field_end
  fields_stop e read = rw read.read (ap (λ (p : ℕ). Err (number_of e.why, p)) (place s e.at read.within))

  module _ (n : ℕ) (read : FieldRead short_size s at (read_count 4 lo hi (drop at s)) (Ok n)) where
    pub fields_short : (length s - (at + 4)) / w < n
        → Err (20, at + 4 + (length s - (at + 4)) / w * w) ≡ fields_answer w (length s) at (read_count 4 lo hi (drop at s))
    unfolding fields_answer field_out
    fields_short h = rw (read.read, lt-ltb _ _ h) refl

    pub fields_end : n ≤ (length s - (at + 4)) / w
        → Ok (at + 4 + n * w) ≡ fields_answer w (length s) at (read_count 4 lo hi (drop at s))
    unfolding fields_answer field_out
    fields_end h = rw (read.read, le-ltb _ _ h) refl

-- regions
pub regions_pass : (lo hi : ℕ) (s : List ℕ) (at : ℕ) → at ≤ length s
    → fields_answer region_size (length s) at (read_count 4 lo hi (drop at s))
    ≡ section_answer (length s) ((listed 4 lo hi region_field).read (drop at s))
regions_pass lo hi s at h = fields_law region_format region_size region_value wide_region lo hi s at h (omega arith)

-- requests
pub requests_pass : (s : List ℕ) (at : ℕ) → at ≤ length s
    → fields_answer request_size (length s) at (read_count 4 0 most_requests (drop at s))
    ≡ section_answer (length s) ((requests_section limits).read (drop at s))
requests_pass s at h = fields_law asked_format request_size asked_in wide_asked 0 most_requests s at h (omega arith)
