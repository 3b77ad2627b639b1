-- A plan that is cut is 20: what a reader says of bytes, 20 aside, does not change where more bytes follow; so no other
-- answer to a beginning goes with the whole plan's.
use Prim.Native.Nat.{ℕ, zero, suc, ◌≤◌, ◌<◌}
use native.Mathlib.Omega.{arith}
use mathlib.Core.Bool.{Bool, true, false, true≢false}
use mathlib.Core.List.{List, [], ◌∷◌, ◌++◌, append-nil}
use mathlib.Core.Path.{◌≡◌, refl, sym, ap, subst, ◌∙◌}
use borrow.Author.Tests.{leb-true, eqb-true}
use lib.Dec.{leb, eqb}
use lib.ListN.{length, take, drop, length-append, length-drop, length-take, take-append-drop}
use Rattle.lists.specs.Bytes.{little}
use Rattle.formats.specs.Formats.{Out, got, bad, left, when, then, read_number, number, read_with, with, read_both, both}
use Rattle.formats.specs.Formats.{start_at, field, read_as, as_type, read_many, many, within, read_count, read_headed, headed}
use Rattle.formats.specs.Formats.{listed, exactly, at_end, read_file, Format}
use Rattle.formats.proofs.Formats.{part_at, Part, Lawful}
use Rattle.formats.proofs.Most.{onto, most_number}
use Rattle.rules.specs.Limits.{mark_count, Limits}
use Rattle.rules.specs.Logs.{claims_section, log_format, log_from, log_limits, log_to, read_log, encode_log, LogFits}
use Rattle.rules.specs.OwnedPlan.{owned_regions, owned_to, owned_from, owned_format, read_owned, encode_owned, OwnedPlanFits}
use Rattle.rules.specs.Fields.{long_size, region_numbers, numbers_of, region_to}
use Rattle.rules.specs.Plan.{short, long, region_format, region_field, asked_to, asked_from, asked_field, marks_format, marks_to, marks_from, marks_section, regions_section}
use Rattle.rules.specs.Plan.{set_format, zone_to, zone_from, zone_format, zones_section, requests_section, sections_with, plan_to}
use Rattle.rules.specs.Plan.{plan_from, plan_format, read_plan, encode, PlanFits}
use Rattle.rules.proofs.Logs.{lawful_log}
use Rattle.rules.proofs.OwnedPlan.{lawful_owned}
use Rattle.rules.proofs.Plan.{lawful_plan}
use Rattle.promises.specs.Plans.{CutIsTwenty, LogCutIsTwenty, OwnedCutIsTwenty}

-- ---- 20, and what follows a reader
is_cut : {A : Type 0} → Out A → Bool
is_cut (got x t) = false
is_cut (bad k t) = eqb k 20

-- what it says of bytes is said as well where more follow, unless it is 20
Stable : {A : Type 0} → Format A → Type 0
Stable F = (b v : List ℕ) → is_cut (F.read b) ≡ false → F.read (b ++ v) ≡ onto v (F.read b)

whole_first_law : {A B : Type 0} (o : Out A) (f : A → List ℕ → Out B) → is_cut (then o f) ≡ false → is_cut o ≡ false
unfolding is_cut then
whole_first_law (got x t) f e = refl
whole_first_law (bad k t) f e = e

then_on : {A B : Type 0} (v : List ℕ) (o : Out A) (f g : A → List ℕ → Out B) → is_cut (then o f) ≡ false
    → ((x : A) (t : List ℕ) → is_cut (f x t) ≡ false → g x (t ++ v) ≡ onto v (f x t))
    → then (onto v o) g ≡ onto v (then o f)
unfolding then onto
then_on v (got x t) f g e h = h x t e
then_on v (bad k t) f g e h = refl

-- ---- each kind of format
stable_number : (k : ℕ) → Stable (number k)
unfolding Stable is_cut read_number when
stable_number k b v e = (most_number k).past b v (by (leb k (length b)) refl e)
  where
    by : (t : Bool) → leb k (length b) ≡ t → is_cut (read_number k b) ≡ false → k ≤ length b
    by true q h = leb-true _ _ q
    by false q h =
        absurd (true≢false (sym (ap (λ (t : Bool). is_cut (when t (got (little (take k b)) (drop k b)) (bad 20 b))) q) ∙ h))

module _ {A B : Type 0} (F : Format A) (G : A → Format B) (f : Stable F) (g : (x : A) → Stable (G x)) where
  stable_with : Stable (with F G)
  unfolding Stable read_with onto
  stable_with b v e =
      let second : A → List ℕ → Out (A × B) = λ x s. then ((G x).read s) (λ y t. got (x, y) t) in
      ap (λ (o : Out A). then o second) (f b v (whole_first_law (F.read b) second e))
      ∙ then_on v (F.read b) second second e (λ x s h.
      ap (λ (o : Out B). then o (λ y t. got (x, y) t)) (g x s v (whole_first_law ((G x).read s) (λ y t. got (x, y) t) h))
      ∙ then_on v ((G x).read s) (λ y t. got (x, y) t) (λ y t. got (x, y) t) h (λ y t k. refl))

stable_both : {A B : Type 0} (F : Format A) (G : Format B) → Stable F → Stable G → Stable (both F G)
unfolding Stable read_both
stable_both F G f g = stable_with F (λ x. G) f (λ x. g)

module _ {A : Type 0} (F : Format A) (f : Stable F) where
  stable_field : Stable (field F)
  unfolding Stable is_cut start_at onto
  stable_field b v e = ap (start_at (b ++ v)) (f b v (same (F.read b) e)) ∙ by (F.read b)
    where
      same : (o : Out A) → is_cut (start_at b o) ≡ false → is_cut o ≡ false
      same (got x t) h = refl
      same (bad k t) h = h

      by : (o : Out A) → start_at (b ++ v) (onto v o) ≡ onto v (start_at b o)
      by (got x t) = refl
      by (bad k t) = refl

  stable_as : {B : Type 0} (to : A → B) (from : B → A) → Stable (as_type F to from)
  unfolding Stable read_as onto
  stable_as to from b v e =
      ap (λ (o : Out A). then o (λ x t. got (to x) t)) (f b v (whole_first_law (F.read b) (λ x t. got (to x) t) e))
      ∙ then_on v (F.read b) (λ x t. got (to x) t) (λ x t. got (to x) t) e (λ x t h. refl)

  stable_many : (n : ℕ) → Stable (many F n)
  unfolding Stable read_many onto
  stable_many zero b v e = refl
  stable_many (suc n) b v e =
      let rest : A → List ℕ → Out (List A) = λ x s. then (read_many F n s) (λ xs t. got (x ∷ xs) t) in
      ap (λ (o : Out A). then o rest) (f b v (whole_first_law (F.read b) rest e))
      ∙ then_on v (F.read b) rest rest e (λ x s h.
      ap (λ (o : Out (List A)). then o (λ xs t. got (x ∷ xs) t))
      (stable_many n s v (whole_first_law (read_many F n s) (λ xs t. got (x ∷ xs) t) h))
      ∙ then_on v (read_many F n s) (λ xs t. got (x ∷ xs) t) (λ xs t. got (x ∷ xs) t) h (λ xs t k. refl))

stable_count : (w lo hi : ℕ) (b v : List ℕ) → is_cut (read_count w lo hi b) ≡ false
    → read_count w lo hi (b ++ v) ≡ onto v (read_count w lo hi b)
unfolding Stable read_count onto when
stable_count w lo hi b v e =
    let judge : List ℕ → ℕ → List ℕ → Out ℕ = λ at c s. when (within lo hi c) (got c s) (bad 21 at) in
    ap (λ (o : Out ℕ). then o (judge (b ++ v))) (stable_number w b v (whole_first_law (read_number w b) (judge b) e))
    ∙ then_on v (read_number w b) (judge b) (judge (b ++ v)) e (λ c s h. by c s (within lo hi c))
  where
    by : (c : ℕ) (s : List ℕ) (t : Bool) → when t (got c (s ++ v)) (bad 21 (b ++ v)) ≡ onto v (when t (got c s) (bad 21 b))
    by c s true = refl
    by c s false = refl

module _ {A : Type 0} (w lo hi : ℕ) (F : ℕ → Format A) (size : A → ℕ) (f : (c : ℕ) → Stable (F c)) where
  stable_headed : Stable (headed w lo hi F size)
  unfolding Stable read_headed
  stable_headed b v e =
      ap (λ (o : Out ℕ). then o (λ c s. (F c).read s))
      (stable_count w lo hi b v (whole_first_law (read_count w lo hi b) (λ c s. (F c).read s) e))
      ∙ then_on v (read_count w lo hi b) (λ c s. (F c).read s) (λ c s. (F c).read s) e (λ c s h. f c s v h)

stable_listed : {A : Type 0} (w lo hi : ℕ) (F : Format A) → Stable F → Stable (listed w lo hi F)
stable_listed w lo hi F f = stable_headed w lo hi (many F) length (stable_many F f)

stable_exactly : (w : ℕ) (ns : List ℕ) → Stable (exactly w ns)
unfolding Stable onto
stable_exactly w [] b v e = refl
stable_exactly w (n ∷ ns) b v e = stable_headed w n n (λ c. exactly w ns) (λ u. n) (λ c. stable_exactly w ns) b v e

-- ---- a lawful and stable format: every proper beginning of what is written is 20
is_got : {A : Type 0} → Out A → Bool
is_got (got x t) = true
is_got (bad k t) = false

module _ {A : Type 0} (F : Format A) (Fits : A → Type 0) (law : Lawful F Fits) (stable : Stable F) (x : A) (fits : Fits x)
    (n : ℕ) (h : n < length (F.write x)) where
  abbrev begun : List ℕ
  begun = take n (F.write x)

  abbrev rest : List ℕ
  rest = drop n (F.write x)

  whole : F.read (begun ++ rest) ≡ got x []
  whole =
      ap F.read (take-append-drop n (F.write x) ∙ sym (append-nil (F.write x)))
      ∙ law.back x [] fits

  -- what is not 20 would be the answer to the whole
  goes_on : is_cut (F.read begun) ≡ false → onto rest (F.read begun) ≡ got x []
  unfolding Stable
  goes_on e = sym (stable begun rest e) ∙ whole

  cut_by : (o : Out A) → F.read begun ≡ o
      → (at : ℕ) × (at ≤ n) × (then (F.read begun) at_end ≡ bad 20 (drop at begun))
  unfolding then is_cut is_got left onto
  cut_by (got y t) e =
      let q : got y (t ++ rest) ≡ got x [] = ap (onto rest) (sym e) ∙ goes_on (ap is_cut e) in
      absurd (omega (arith, ap length (ap left q), length-append t rest, length-drop n (F.write x), h))
  cut_by (bad k t) e = by (eqb k 20) refl
    where
      by : (c : Bool) → eqb k 20 ≡ c → (at : ℕ) × (at ≤ n) × (then (F.read begun) at_end ≡ bad 20 (drop at begun))
      by true c =
          let (at, l, q) = part_at t begun (subst (λ (o : Out A). Part (left o) begun) e (law.part begun)) in
          let z : k ≡ 20 = eqb-true _ _ c in (
            at,
            omega (arith, l, length-take n (F.write x)),
            ap (λ (o : Out A). then o at_end) e ∙ (λ i. bad (z i) (q i)),
          )
      by false c =
          absurd (true≢false (sym (ap is_got (ap (onto rest) (sym e) ∙ goes_on (ap is_cut e ∙ c)))))

-- ---- plans, plans with owners and logs
stable_region : Stable region_format
stable_region =
    stable_as (many long region_numbers) (stable_many long (stable_number long_size) region_numbers) region_to numbers_of

stable_region_field : Stable region_field
stable_region_field = stable_field region_format stable_region

stable_asked : Stable asked_field
stable_asked =
    stable_field (as_type (both short (both short region_format)) asked_to asked_from)
    (stable_as (both short (both short region_format))
    (stable_both short (both short region_format) (stable_number 4)
    (stable_both short region_format (stable_number 4) stable_region)) asked_to asked_from)

module _ (l : Limits) where
  stable_zone : Stable (zone_format l)
  stable_zone =
      let set : Stable (set_format l) = stable_listed 4 0 l.in_set region_field stable_region_field in
      stable_as (both short (both (set_format l) (set_format l)))
      (stable_both short (both (set_format l) (set_format l)) (stable_number 4) (stable_both (set_format l) (set_format l) set set))
      zone_to zone_from

  stable_marks : Stable (marks_section l)
  stable_marks =
      stable_headed 4 (mark_count l) (mark_count l) (λ c. marks_format l) (λ m. mark_count l)
      (λ c. stable_as (both short (both short (exactly 4 l.last_marks)))
      (stable_both short (both short (exactly 4 l.last_marks)) (stable_number 4)
      (stable_both short (exactly 4 l.last_marks) (stable_number 4) (stable_exactly 4 l.last_marks))) marks_to marks_from)

  stable_regions : Stable (regions_section l)
  stable_regions = stable_listed 4 1 l.regions region_field stable_region_field

  stable_sections : {A : Type 0} (R : Format A) → Stable R → Stable (sections_with l R)
  stable_sections R r =
      let requests : Stable (requests_section l) = stable_listed 4 0 l.requests asked_field stable_asked in
      let zones : Stable (zones_section l) = stable_listed 4 0 l.zones (zone_format l) stable_zone in
      stable_both (marks_section l) (both R (both (zones_section l) (requests_section l))) stable_marks
      (stable_both R (both (zones_section l) (requests_section l)) r
      (stable_both (zones_section l) (requests_section l) zones requests))

  stable_plan : Stable (plan_format l)
  stable_plan = stable_as (sections_with l (regions_section l)) (stable_sections (regions_section l) stable_regions) plan_to plan_from

  stable_owned : Stable (owned_format l)
  stable_owned =
      stable_as (sections_with l (owned_regions l)) (stable_sections (owned_regions l)
      (stable_with (regions_section l) (λ xs. listed 4 (length xs) (length xs) short) stable_regions
      (λ xs. stable_listed 4 (length xs) (length xs) short (stable_number 4)))) owned_to owned_from

  pub cut_is_twenty : CutIsTwenty l
  unfolding read_plan encode read_file
  cut_is_twenty p fits n h =
      cut_by (plan_format l) (PlanFits l) (lawful_plan l) stable_plan p fits n h ((plan_format l).read (take n (encode l p))) refl

  pub owned_cut_is_twenty : OwnedCutIsTwenty l
  unfolding read_owned encode_owned read_file
  owned_cut_is_twenty p fits n h =
      cut_by (owned_format l) (OwnedPlanFits l) (lawful_owned l) stable_owned p fits n h
      ((owned_format l).read (take n (encode_owned l p))) refl

pub log_cut_is_twenty : (l : Limits) → LogCutIsTwenty l
unfolding read_log encode_log read_file
log_cut_is_twenty l g fits n h =
    cut_by (log_format l) (LogFits l) (lawful_log l) stable_log g fits n h ((log_format l).read (take n (encode_log l g))) refl
  where
    stable_log : Stable (log_format l)
    stable_log =
        stable_as (with (plan_format (log_limits l)) claims_section)
        (stable_with (plan_format (log_limits l)) claims_section (stable_plan (log_limits l))
        (λ p. stable_listed 4 (length p.asked) (length p.asked) short (stable_number 4))) log_to log_from
