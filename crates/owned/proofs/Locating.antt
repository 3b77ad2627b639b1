-- The sections of a plan with owners, one after another: each begins where the one before it ends.
use Prim.Native.Nat.{ℕ, ◌+◌, ◌*◌, ◌≤◌}
use native.Mathlib.Omega.{arith}
use mathlib.Core.List.{List}
use mathlib.Core.Path.{◌≡◌, refl, sym, ap, ap₂, ◌∙◌}
use lib.ListN.{length, drop, length-append, length-drop}
use Rattle.std.proofs.Common.{Ok, Err}
use Rattle.lists.specs.Bytes.{little}
use Rattle.lists.specs.Words.{part}
use Rattle.formats.specs.Formats.{Out, got, bad, left, then, read_with, read_both, read_as, read_file, both}
use Rattle.formats.proofs.Formats.{Part}
use Rattle.rules.specs.Fields.{region_size}
use Rattle.rules.specs.Limits.{most_regions, limits}
use Rattle.rules.specs.OwnedPlan.{owned_regions, owned_to, owned_format, read_owned, OwnedPlan}
use Rattle.rules.proofs.OwnedPlan.{lawful_owned}
use Rattle.rules.specs.OwnedSizes.{owners_size}
use Rattle.rules.specs.Plan.{region_format, marks_section, regions_section, zones_section, requests_section, Asked, Marks}
use Rattle.rules.specs.Tables.{Zone}
use Rattle.rules.specs.declared.Region.{Region}
use Rattle.rules.proofs.Plan.{lawful_regions}
use Rattle.plan.specs.Found.{marks_bytes, whole_of, leading, after_requests, after_zones, zones_found}
use Rattle.plan.specs.Sections.{marks_answer, section_answer}
use Rattle.plan.specs.Told.{Told, answer_by}
use Rattle.plan.specs.declared.finding.Found.{Found}
use Rattle.plan.specs.declared.finding.Four.{Four}
use Rattle.plan.specs.declared.sections.Marks.{Marks as MarksAre}
use Rattle.plan.proofs.Fields.{region_value, wide_region}
use Rattle.plan.proofs.Locating.{leads_bad, leads_on, marks_bad, marks_are, whole_of_law}
use Rattle.plan.proofs.Numbers.{lawful_numbers, numbers_read}
use Rattle.plan.proofs.Offsets.{part_in, end_within, ends_with}
use Rattle.plan.proofs.Passing.{list_read_law}
use Rattle.owned.specs.Found.{owned_zones_at, found_owned, four_owned, after_owners, owners_found, after_regions, regions_found, after_marks}
use Rattle.owned.specs.Section.{owners_section}

-- ---- a plan with owners is its sections, one after another
module _ (n : ℕ) where
  abbrev at : List Region → ℕ
  at rs = marks_bytes + (4 + length rs * region_size)

  with_requests : (m : Marks) (rs : List Region) (os : List ℕ) (zs : List Zone) (o : Out (List Asked))
      → leading (after_requests m.gic m.edition (at rs + owners_size (length os)) n) n o
      ≡ four_owned n (then (then (then (then o (λ qs t. got (zs, qs) t)) (λ y t. got ((rs, os), y) t))
      (λ y t. got (m, y) t)) (λ x t. got (owned_to x) t))
  unfolding then leading after_requests answer_by
  with_requests m rs os zs (got qs u) = refl
  with_requests m rs os zs (bad k u) = refl

  with_zones_law : (m : Marks) (rs : List Region) (os : List ℕ) (o : Out (List Zone))
      → leading (after_zones m.gic m.edition (at rs + owners_size (length os)) n) n o
      ≡ four_owned n (then (then (then (then o
      (λ zs s. then ((requests_section limits).read s) (λ qs t. got (zs, qs) t))) (λ y t. got ((rs, os), y) t))
      (λ y t. got (m, y) t)) (λ x t. got (owned_to x) t))
  unfolding then leading after_zones answer_by
  with_zones_law m rs os (got zs u) = with_requests m rs os zs ((requests_section limits).read u)
  with_zones_law m rs os (bad k u) = refl

  with_owners_law : (m : Marks) (rs : List Region) (o : Out (List ℕ))
      → leading (after_owners m.gic m.edition (at rs) n) n o
      ≡ four_owned n (then (then (then (then o (λ os t. got (rs, os) t))
      (λ x s. then ((both (zones_section limits) (requests_section limits)).read s) (λ y t. got (x, y) t)))
      (λ y t. got (m, y) t)) (λ x t. got (owned_to x) t))
  unfolding then leading after_owners read_both answer_by
  with_owners_law m rs (got os u) = with_zones_law m rs os ((zones_section limits).read u)
  with_owners_law m rs (bad k u) = refl

  with_regions_law : (m : Marks) (o : Out (List Region)) → leading (after_regions m.gic m.edition n) n o
      ≡ four_owned n (then (then (then
      (then o (λ rs s. then ((owners_section (length rs)).read s) (λ os t. got (rs, os) t)))
      (λ x s. then ((both (zones_section limits) (requests_section limits)).read s) (λ y t. got (x, y) t)))
      (λ y t. got (m, y) t)) (λ x t. got (owned_to x) t))
  unfolding then leading after_regions answer_by
  with_regions_law m (got rs u) = with_owners_law m rs ((owners_section (length rs)).read u)
  with_regions_law m (bad k u) = refl

  with_marks : (o : Out Marks) → leading (after_marks n) n o
      ≡ four_owned n (then (then o (λ m s. then
      ((both (owned_regions limits) (both (zones_section limits) (requests_section limits))).read s)
      (λ y t. got (m, y) t))) (λ x t. got (owned_to x) t))
  unfolding then leading after_marks read_both read_with answer_by
  with_marks (got m u) = with_regions_law m ((regions_section limits).read u)
  with_marks (bad k u) = refl

  whole_owned : (b : List ℕ) → leading (after_marks n) n ((marks_section limits).read b) ≡ four_owned n ((owned_format limits).read b)
  unfolding read_as read_both read_with
  whole_owned b = with_marks ((marks_section limits).read b)

-- ---- bytes that begin with such a plan
module _ (s : List ℕ) where
  pub marks_refused : (e : ℕ × ℕ) → Err e ≡ marks_answer (length s) ((marks_section limits).read s)
      → Err e ≡ four_owned (length s) ((owned_format limits).read s)
  marks_refused e f = marks_bad 2 s (after_marks (length s)) e f ∙ whole_owned (length s) s

  module _ (m : MarksAre) (f : Ok m ≡ marks_answer (length s) ((marks_section limits).read s)) where
    behind_marks : regions_found m.gic m.edition (length s) (drop 16 s) ≡ four_owned (length s) ((owned_format limits).read s)
    unfolding leading after_marks
    behind_marks =
        sym (ap (leading (after_marks (length s)) (length s)) (marks_are 2 s m f)) ∙ whole_owned (length s) s

    pub regions_refused : (e : ℕ × ℕ) → Err e ≡ section_answer (length s) ((regions_section limits).read (drop 16 s))
        → Err e ≡ four_owned (length s) ((owned_format limits).read s)
    regions_refused e g =
        leads_bad (length s) ((regions_section limits).read (drop 16 s)) (after_regions m.gic m.edition (length s)) e g
        ∙ behind_marks

    -- the owners begin at byte a, and are n
    module _ (a : ℕ) (g : Ok a ≡ section_answer (length s) ((regions_section limits).read (drop 16 s))) (n : ℕ)
        (en : n ≡ little (part 16 4 s)) where
      regions_part : Part (left ((regions_section limits).read (drop 16 s))) s
      regions_part =
          part_in s (left ((regions_section limits).read (drop 16 s))) 16 ((lawful_regions limits).part (drop 16 s))

      pub owners_there : a ≤ length s
      owners_there = end_within s _ regions_part a g

      behind_regions : owners_found m.gic m.edition a n (length s) (drop a s)
          ≡ four_owned (length s) ((owned_format limits).read s)
      unfolding part after_regions
      behind_regions =
          let (rs, o) = ends_with s _ regions_part a g in
          let read = list_read_law region_format region_size region_value wide_region 1 most_regions (drop 16 s) rs (drop a s) o in
          let l : a ≤ length s = owners_there in
          let at : a ≡ marks_bytes + (4 + length rs * region_size) =
          omega (
            arith,
            read.there,
            ap length read.rest,
            length-drop a s,
            length-drop 16 s,
            length-drop (4 + length rs * region_size) (drop 16 s),
          ) in
          ap₂ (λ (b k : ℕ). owners_found m.gic m.edition b k (length s) (drop a s)) at (en ∙ sym read.count)
          ∙ leads_on (length s) ((regions_section limits).read (drop 16 s)) (after_regions m.gic m.edition (length s)) rs
          (drop a s) o
          ∙ behind_marks

      pub owners_refused : (e : ℕ × ℕ) → Err e ≡ section_answer (length s) ((owners_section n).read (drop a s))
          → Err e ≡ four_owned (length s) ((owned_format limits).read s)
      owners_refused e h =
          leads_bad (length s) ((owners_section n).read (drop a s)) (after_owners m.gic m.edition a (length s)) e h
          ∙ behind_regions

      -- the zones begin at byte z
      pub zones_lead : (z : ℕ) → Ok z ≡ section_answer (length s) ((owners_section n).read (drop a s)) → (v : Told Four)
          → v ≡ zones_found m.gic m.edition z (length s) (drop z s)
          → v ≡ four_owned (length s) ((owned_format limits).read s)
      unfolding after_owners
      zones_lead z h v q =
          let owners : Part (left ((owners_section n).read (drop a s))) s =
          part_in s (left ((owners_section n).read (drop a s))) a ((lawful_numbers n).part (drop a s)) in
          let (os, o) = ends_with s _ owners z h in
          let read = numbers_read n (drop a s) os (drop z s) o in
          let l : z ≤ length s = end_within s _ owners z h in
          let k : a ≤ length s = owners_there in
          let at : z ≡ a + owners_size (length os) =
          omega (
            arith,
            read.there,
            ap length read.rest,
            length-drop z s,
            length-drop a s,
            length-drop (4 + length os * 4) (drop a s),
          ) in
          q ∙ ap (λ (b : ℕ). zones_found m.gic m.edition b (length s) (drop z s)) at
          ∙ leads_on (length s) ((owners_section n).read (drop a s)) (after_owners m.gic m.edition a (length s)) os (drop z s) o
          ∙ behind_regions

-- a plan that was found whole
pub owned_found : (s : List ℕ) (r : Told Four) (v : Told Found) → r ≡ four_owned (length s) ((owned_format limits).read s)
    → v ≡ whole_of (length s) r → v ≡ found_owned (length s) (read_owned limits s)
unfolding read_owned read_file
owned_found s r v er e =
    let (w, q) = (lawful_owned limits).part s in
    e ∙ ap (whole_of (length s)) er
    ∙ whole_of_law (λ (p : OwnedPlan). p.plan) owned_zones_at (length s) ((owned_format limits).read s)
    (omega (arith, ap length q, length-append w (left ((owned_format limits).read s))))
