-- The sections of a plan, one after another: each begins where the one before it ends.
use Prim.Native.Nat.{ℕ, suc, ◌+◌, ◌-◌, ◌*◌, ◌≤◌, ◌<◌}
use native.Mathlib.Omega.{arith}
use mathlib.Core.Bool.{Bool, true, false, cond}
use mathlib.Core.List.{List, [], ◌∷◌}
use mathlib.Core.Path.{◌≡◌, refl, sym, ap, ap₂, ◌∙◌}
use borrow.Author.Tests.{lt-ltb, le-ltb, ltb-true, ltb-false}
use lib.Dec.{ltb}
use Rattle.std.proofs.Common.{Result, Ok, Err}
use lib.ListN.{length, take, drop, length-append, length-drop}
use lib.Seq.{drop-drop}
use Rattle.lists.specs.Bytes.{little}
use Rattle.lists.specs.Places.{tab}
use Rattle.formats.specs.Formats.{Format, listed, Out, got, bad, left, then, read_number, read_many, read_count}
use Rattle.formats.specs.Formats.{read_headed, read_both, read_as, at_end, read_file, number, both, exactly}
use Rattle.formats.proofs.Formats.{Part, then_got, both_got, count_got}
use Rattle.formats.proofs.Widths.{number_short, wide_number, wide_got, exactly_got}
use Rattle.rules.specs.Fields.{region_size, short_size}
use Rattle.rules.specs.Limits.{most_regions, most_zones, most_in_set, most_requests, limits, in_format}
use Rattle.rules.specs.Numbers.{number as number_of}
use Rattle.rules.specs.Plan.{short, region_format, region_field, marks_to, marks_format, set_format, zone_to, zone_format}
use Rattle.rules.specs.Plan.{plan_to, marks_section, regions_section, zones_section, requests_section, plan_format, read_plan}
use Rattle.rules.specs.Plan.{Asked, Marks, Plan, RegionFits}
use Rattle.rules.specs.Run.{request_size}
use Rattle.rules.specs.Sizes.{zones_at}
use Rattle.rules.specs.Tables.{Zone}
use Rattle.rules.specs.declared.Region.{Region}
use Rattle.rules.proofs.Plan.{lawful_region_field, lawful_list, lawful_zone, lawful_regions, lawful_zones}
use Rattle.rules.proofs.Plan.{lawful_requests, lawful_plan}
use Rattle.plan.specs.Fields.{FieldRead}
use Rattle.plan.specs.Held.{two_sets}
use Rattle.plan.specs.Found.{marks_bytes, found_at, found_of, found_in, four_at, four_of, four_in, whole_of, leading}
use Rattle.plan.specs.Found.{after_requests, requests_found, after_zones, zones_found, after_regions, regions_found}
use Rattle.plan.specs.Found.{after_marks, marks_found}
use Rattle.plan.specs.Sections.{marks_answer, section_answer, reached}
use Rattle.plan.specs.Told.{Told, told, by_reason, told_by, TellsAs, answer_by}
use Rattle.plan.specs.declared.finding.Found.{Found}
use Rattle.plan.specs.declared.finding.Four.{Four}
use Rattle.plan.specs.declared.refused.Refused.{Refused}
use Rattle.plan.specs.declared.sections.Marks.{Marks as MarksAre}
use Rattle.plan.proofs.Fields.{asked_in, asked_format, wide_asked, region_value, wide_region, field_is, field_stops}
use Rattle.plan.proofs.Offsets.{place, part_in, end_within, ends_with}
use Rattle.plan.proofs.Passing.{list_read_law}
use Rattle.plan.proofs.Told.{by_reasons, answer_stops, answer_as}

-- ---- where something ends that is put together: o, and then what f says
section_as : {A B : Type 0} (n : ℕ) (o : Out A) (to : A → B)
    → section_answer n o ≡ section_answer n (then o (λ x t. got (to x) t))
section_as n o to = answer_as (λ x t. n - length t) (λ x t. n - length t) to (λ x t. refl) n o

section_stops : {A B : Type 0} (n : ℕ) (o : Out A) (f : A → List ℕ → Out B) (e : ℕ × ℕ)
    → Err e ≡ section_answer n o → Err e ≡ section_answer n (then o f)
section_stops n o f = answer_stops (λ x t. n - length t) n o f (λ x t. n - length t)

-- ---- a zone: its id, then two sets
pub set_part : (s : List ℕ) (at : ℕ) → Part (left ((set_format limits).read (drop at s))) s
set_part s at =
    part_in s (left ((set_format limits).read (drop at s))) at
    ((lawful_list 0 most_in_set region_field RegionFits lawful_region_field).part (drop at s))

module _ (s : List ℕ) (start : ℕ) where
  pub zone_none : (e : Refused) → FieldRead short_size s start (read_number 4 (drop start s)) (Err e)
      → Err (number_of e.why, e.at) ≡ section_answer (length s) ((zone_format limits).read (drop start s))
  unfolding read_as read_both
  zone_none e read =
      section_stops (length s) (then (read_number 4 (drop start s)) (λ x u. then (two_sets.read u) (λ y t. got (pair x y) t)))
      (λ x t. got (zone_to x) t) (number_of e.why, e.at)
      (field_stops short_size s start (read_number 4 (drop start s)) (λ x u. then (two_sets.read u) (λ y t. got (pair x y) t))
      (λ x t. length s - length t) e read)
    where
      pair : ℕ → List Region × List Region → ℕ × (List Region × List Region)
      pair x y = (x, y)

  module _ (id : ℕ) (read : FieldRead short_size s start (read_number 4 (drop start s)) (Ok id)) where
    zone_as : section_answer (length s) (two_sets.read (drop (start + 4) s))
        ≡ section_answer (length s) ((zone_format limits).read (drop start s))
    unfolding read_as read_both then
    zone_as =
        section_as (length s) (two_sets.read (drop (start + 4) s)) with_id
        ∙ section_as (length s) (then (two_sets.read (drop (start + 4) s)) (λ y t. got (with_id y) t)) zone_to
        ∙ sym (ap (λ (o : Out ℕ). section_answer (length s)
        (then (then o (λ x u. then (two_sets.read u) (λ y t. got (pair x y) t))) (λ x t. got (zone_to x) t)))
        (field_is short_size s start (read_number 4 (drop start s)) id read))
      where
        pair : ℕ → List Region × List Region → ℕ × (List Region × List Region)
        pair x y = (x, y)

        with_id : List Region × List Region → ℕ × (List Region × List Region)
        with_id y = (id, y)

    pub zone_stops : (e : ℕ × ℕ) → Err e ≡ section_answer (length s) ((set_format limits).read (drop (start + 4) s))
        → Err e ≡ section_answer (length s) ((zone_format limits).read (drop start s))
    unfolding read_both
    zone_stops e f =
        section_stops (length s) ((set_format limits).read (drop (start + 4) s))
        (λ x u. then ((set_format limits).read u) (λ y t. got (pair x y) t)) e f
        ∙ zone_as
      where
        pair : List Region → List Region → List Region × List Region
        pair x y = (x, y)

    module _ (a : ℕ) (f : Ok a ≡ section_answer (length s) ((set_format limits).read (drop (start + 4) s))) where
      pub second_there : a ≤ length s
      second_there = end_within s _ (set_part s (start + 4)) a f

      pub zone_ends : (v : Told ℕ) → v ≡ section_answer (length s) ((set_format limits).read (drop a s))
          → v ≡ section_answer (length s) ((zone_format limits).read (drop start s))
      unfolding read_both then
      zone_ends v h =
          let (xs, o) = ends_with s _ (set_part s (start + 4)) a f in
          h
          ∙ section_as (length s) ((set_format limits).read (drop a s)) (pair xs)
          ∙ sym (ap (λ (x : Out (List Region)). section_answer (length s)
          (then x (λ x u. then ((set_format limits).read u) (λ y t. got (pair x y) t)))) o)
          ∙ zone_as
        where
          pair : List Region → List Region → List Region × List Region
          pair x y = (x, y)

-- ---- zones one after another: where those from i on end is where all of them end
pub zone_part : (s : List ℕ) (at : ℕ) → Part (left ((zone_format limits).read (drop at s))) s
zone_part s at = part_in s (left ((zone_format limits).read (drop at s))) at ((lawful_zone limits).part (drop at s))

abbrev pub zones_end : List ℕ → ℕ → ℕ → Told ℕ
zones_end s n at = section_answer (length s) (read_many (zone_format limits) n (drop at s))

module _ (s : List ℕ) (n i at : ℕ) (R : Told ℕ) (inv : zones_end s (n - i) at ≡ R) where
  pub list_over : n ≤ i → at ≤ length s → Ok at ≡ R
  unfolding answer_by read_many
  list_over h l =
      let e : n - i ≡ 0 = omega arith in
      ap (λ (p : ℕ). Ok p) (place s at l) ∙ sym (ap (λ (m : ℕ). zones_end s m at) e) ∙ inv

  module _ (h : i < n) where
    turn : section_answer (length s) (then ((zone_format limits).read (drop at s))
        (λ x u. then (read_many (zone_format limits) (n - (i + 1)) u) (λ xs t. got (x ∷ xs) t)))
        ≡ R
    unfolding read_many
    turn = let e : n - i ≡ suc (n - (i + 1)) = omega arith in sym (ap (λ (m : ℕ). zones_end s m at) e) ∙ inv

    pub list_stops : (e : ℕ × ℕ) → Err e ≡ section_answer (length s) ((zone_format limits).read (drop at s)) → Err e ≡ R
    list_stops e f =
        section_stops (length s) ((zone_format limits).read (drop at s))
        (λ x u. then (read_many (zone_format limits) (n - (i + 1)) u) (λ xs t. got (x ∷ xs) t)) e f
        ∙ turn

    module _ (a : ℕ) (f : Ok a ≡ section_answer (length s) ((zone_format limits).read (drop at s))) where
      pub list_within : a ≤ length s
      list_within = end_within s _ (zone_part s at) a f

      pub list_goes : zones_end s (n - (i + 1)) a ≡ R
      unfolding then
      list_goes =
          let (x, o) = ends_with s _ (zone_part s at) a f in
          section_as (length s) (read_many (zone_format limits) (n - (i + 1)) (drop a s)) (λ xs. x ∷ xs)
          ∙ sym (ap (λ (y : Out Zone). section_answer (length s)
          (then y (λ x u. then (read_many (zone_format limits) (n - (i + 1)) u) (λ xs t. got (x ∷ xs) t)))) o)
          ∙ turn

pub list_begins : (s : List ℕ) (n at : ℕ) → zones_end s (n - 0) at ≡ zones_end s n at
list_begins s n at = let e : n - 0 ≡ n = omega arith in ap (λ (m : ℕ). zones_end s m at) e

-- the zones' section, after its count
module _ (s : List ℕ) (at : ℕ) where
  pub zones_none : (e : Refused) → FieldRead short_size s at (read_count 4 0 most_zones (drop at s)) (Err e)
      → Err (number_of e.why, e.at) ≡ section_answer (length s) ((zones_section limits).read (drop at s))
  unfolding read_headed
  zones_none =
      field_stops short_size s at (read_count 4 0 most_zones (drop at s)) (λ c u. read_many (zone_format limits) c u)
      (λ x t. length s - length t)

  pub zones_pass : (n : ℕ) → FieldRead short_size s at (read_count 4 0 most_zones (drop at s)) (Ok n) → (v : Told ℕ)
      → v ≡ zones_end s n (at + 4) → v ≡ section_answer (length s) ((zones_section limits).read (drop at s))
  unfolding read_headed then
  zones_pass n read v g =
      g ∙ sym (ap (λ (o : Out ℕ). section_answer (length s) (then o (λ c u. read_many (zone_format limits) c u)))
      (field_is short_size s at (read_count 4 0 most_zones (drop at s)) n read))

-- ---- a section that reads o, among n bytes, and what f says of what is behind it
module _ {A : Type 0} (n : ℕ) (o : Out A) (f : A → List ℕ → Told Four) where
  -- a refusal is the plan's
  pub leads_bad : (e : ℕ × ℕ) → Err e ≡ section_answer n o → Err e ≡ leading f n o
  unfolding answer_by leading
  leads_bad e g = by o g
    where
      by : (o : Out A) → Err e ≡ section_answer n o → Err e ≡ leading f n o
      by (got x t) d = absurd (cc)
      by (bad j t) d = let q : e ≡ (j, n - length t) = cc in ap (λ (x : ℕ × ℕ). Err x) q

  pub leads_on : (x : A) (t : List ℕ) → o ≡ got x t → f x t ≡ leading f n o
  unfolding leading
  leads_on x t h = sym (ap (leading f n) h)

-- ---- bytes that end before a place: r is whether they reach it
pub reached_there : (n a : ℕ) (x : Unit {0}) → Ok x ≡ reached n a → a ≤ n
unfolding reached
reached_there n a x e = by (ltb n a) refl e
  where
    by : (h : Bool) → ltb n a ≡ h → ◌≡◌ {A = Told (Unit {0})} (Ok x) (cond h (Err (20, n)) (Ok tt)) → a ≤ n
    by true q f = absurd (cc)
    by false q f = ltb-false _ _ q

pub reached_not : (n a : ℕ) (e : ℕ × ℕ) → Err e ≡ reached n a → (n < a) × (e ≡ (20, n))
unfolding reached
reached_not n a e d = by (ltb n a) refl d
  where
    by : (h : Bool) → ltb n a ≡ h → ◌≡◌ {A = Told (Unit {0})} (Err e) (cond h (Err (20, n)) (Ok tt)) → (n < a) × (e ≡ (20, n))
    by true q f = (ltb-true _ _ q, cc)
    by false q f = absurd (cc)

pub list_beyond : {A : Type 0} (f : Format A) (lo hi : ℕ) (s : List ℕ) (a : ℕ) (e : ℕ × ℕ) → Err e ≡ reached (length s) a
    → Err e ≡ section_answer (length s) ((listed 4 lo hi f).read (drop a s))
unfolding answer_by read_headed read_count then
list_beyond f lo hi s a e d =
    let (h, q) = reached_not _ _ _ d in
    let at : length s ≡ length s - length (drop a s) = omega (arith, length-drop a s) in
    rw q (rw (number_short 4 (drop a s) (omega (arith, length-drop a s))) (ap (λ (p : ℕ). Err (20, p)) at))

-- ---- the zones of a plan s, from byte z on
pub zones_beyond : (s : List ℕ) (gic edition z : ℕ) (e : ℕ × ℕ) → Err e ≡ reached (length s) z
    → Err e ≡ zones_found gic edition z (length s) (drop z s)
unfolding leading read_headed read_count then
zones_beyond s gic edition z e d =
    let (h, q) = reached_not _ _ _ d in
    let at : length s ≡ length s - length (drop z s) = omega (arith, length-drop z s) in
    rw q (rw (number_short 4 (drop z s) (omega (arith, length-drop z s))) (ap (λ (p : ℕ). Err (20, p)) at))

-- ---- the requests: so many of one width
pub requests_read_law : (s : List ℕ) (qs : List Asked) (t : List ℕ) → (requests_section limits).read s ≡ got qs t
    → (4 + length qs * request_size + length t ≡ length s)
    × (qs ≡ tab (length qs) (λ i. asked_in (drop (i * request_size) (drop 4 s))))
requests_read_law s qs t e =
    let read = list_read_law asked_format request_size asked_in wide_asked 0 most_requests s qs t e in
    (omega (arith, read.there, ap length read.rest, length-drop (4 + length qs * request_size) s), read.each)

module _ (s : List ℕ) (gic edition z : ℕ) where
  zones_at_part : Part (left ((zones_section limits).read (drop z s))) s
  zones_at_part = part_in s (left ((zones_section limits).read (drop z s))) z ((lawful_zones limits).part (drop z s))

  pub zones_refused : (e : ℕ × ℕ) → Err e ≡ section_answer (length s) ((zones_section limits).read (drop z s))
      → Err e ≡ zones_found gic edition z (length s) (drop z s)
  zones_refused = leads_bad (length s) ((zones_section limits).read (drop z s)) (after_zones gic edition z (length s))

  -- the requests' count is at byte l
  module _ (l : ℕ) (f : Ok l ≡ section_answer (length s) ((zones_section limits).read (drop z s))) where
    pub zones_within : l ≤ length s
    zones_within = end_within s _ zones_at_part l f

    behind_zones : requests_found gic edition z (length s) (drop l s) ≡ zones_found gic edition z (length s) (drop z s)
    unfolding after_zones
    behind_zones =
        let (zs, o) = ends_with s _ zones_at_part l f in
        leads_on (length s) ((zones_section limits).read (drop z s)) (after_zones gic edition z (length s)) zs (drop l s) o

    requests_part : Part (left ((requests_section limits).read (drop l s))) s
    requests_part =
        part_in s (left ((requests_section limits).read (drop l s))) l ((lawful_requests limits).part (drop l s))

    pub requests_refused : (e : ℕ × ℕ) → Err e ≡ section_answer (length s) ((requests_section limits).read (drop l s))
        → Err e ≡ zones_found gic edition z (length s) (drop z s)
    requests_refused e g =
        leads_bad (length s) ((requests_section limits).read (drop l s)) (after_requests gic edition z (length s)) e g
        ∙ behind_zones

    module _ (e : ℕ) (g : Ok e ≡ section_answer (length s) ((requests_section limits).read (drop l s))) where
      found : (qs : List Asked) × ((requests_section limits).read (drop l s) ≡ got qs (drop e s))
          × (4 + length qs * request_size + length (drop e s) ≡ length (drop l s))
      found =
          let (qs, o) = ends_with s _ requests_part e g in (qs, o, (requests_read_law (drop l s) qs (drop e s) o).0)

      pub requests_start : l + 4 ≤ length s
      requests_start = let (qs, o, m) = found in omega (arith, length-drop l s)

      pub sections_found : Ok (four_at gic edition z (l + 4) e) ≡ zones_found gic edition z (length s) (drop z s)
      unfolding after_requests
      sections_found =
          let (qs, o, m) = found in
          let first : l + 4 ≡ length s - length (drop e s) - length qs * request_size = omega (arith, length-drop l s) in
          let last : e ≡ length s - length (drop e s) = place s e (end_within s _ requests_part e g) in
          ap₂ (λ (x y : ℕ). Ok (four_at gic edition z x y)) first last
          ∙ leads_on (length s) ((requests_section limits).read (drop l s)) (after_requests gic edition z (length s)) qs
          (drop e s) o
          ∙ behind_zones

-- ---- the marks, and the whole
pub marks_got : (k : ℕ) (s : List ℕ) (m : Marks) (t : List ℕ) → (marks_section (in_format (k ∷ []) limits)).read s ≡ got m t
    → (16 ≤ length s) × (t ≡ drop 16 s)
unfolding read_headed read_as read_both
marks_got k s m t e =
    let (n, u, ec, e') = then_got (read_count 4 3 3 s) (λ c s. (marks_format (in_format (k ∷ []) limits)).read s) m t e in
    let (l, eu) = wide_got (number 4) 4 (λ b. little (take 4 b)) (wide_number 4) s n u (count_got 4 3 3 s n u ec).0 in
    let (x, v, ex, ev) = then_got ((both short (both short (exactly 4 (k ∷ [])))).read u) (λ x t. got (marks_to x) t) m t e' in
    let (a, (b, c)) = x in
    let (u1, ea, f1) = both_got short (both short (exactly 4 (k ∷ []))) u a (b, c) v ex in
    let (u2, eb, f2) = both_got short (exactly 4 (k ∷ [])) u1 b c v f1 in
    let (k1, q1) = wide_got (number 4) 4 (λ b. little (take 4 b)) (wide_number 4) u a u1 ea in
    let (k2, q2) = wide_got (number 4) 4 (λ b. little (take 4 b)) (wide_number 4) u1 b u2 eb in
    let (k3, q3) = exactly_got 4 (k ∷ []) u2 c v f2 in
    let q4 : v ≡ t = cc in (
      omega (arith, ap length eu, length-drop 4 s, ap length q1, length-drop 4 u, ap length q2, length-drop 4 u1),
      sym q4 ∙ q3 ∙ ap (drop 4) (q2 ∙ ap (drop 4) q1 ∙ drop-drop 4 4 u) ∙ drop-drop 4 8 u ∙ ap (drop 12) eu ∙ drop-drop 12 4 s,
    )

-- ---- what was found, of what a reader of plans of any kind reads
module _ {S : Type 0} (plan : S → Plan) (zones_of : S → ℕ) (n : ℕ) (o : Out S) where
  pub record Whole (r : Found) : Type 0 where
    pub said : S
    pub left : List ℕ
    pub read : o ≡ got said left
    pub gic_is : r.gic ≡ (plan said).marks.gic
    pub edition_is : r.edition ≡ (plan said).marks.edition
    pub zones_is : r.zones ≡ zones_of said
    pub requests_is : r.requests ≡ n - length (plan said).asked * request_size

  -- a refusal
  pub refusal_by : (k a : ℕ) → Err (k, a) ≡ found_of plan zones_of n o → (t : List ℕ) × (o ≡ bad k t) × (a ≡ n - length t)
  unfolding answer_by
  refusal_by k a f = by o refl f
    where
      by : (x : Out S) → o ≡ x → Err (k, a) ≡ found_of plan zones_of n x → (t : List ℕ) × (o ≡ bad k t) × (a ≡ n - length t)
      by (got p t) e g = absurd (cc)
      by (bad j t) e g =
          let q : ◌≡◌ {A = ℕ × ℕ} (k, a) (j, n - length t) = cc in
          (t, e ∙ ap (λ (x : ℕ). bad x t) (sym (ap (λ (x : ℕ × ℕ). x.0) q)), ap (λ (x : ℕ × ℕ). x.1) q)

  -- a plan that reads whole
  pub whole_by : (r : Found) → Ok r ≡ found_of plan zones_of n o → Whole r
  unfolding answer_by
  whole_by r f = by o refl f
    where
      by : (x : Out S) → o ≡ x → Ok r ≡ found_of plan zones_of n x → Whole r
      by (got p t) e g =
          let q : r ≡ found_at (plan p).marks.gic (plan p).marks.edition (zones_of p)
          (n - length (plan p).asked * request_size) = cc in
          record {
            said = p;
            left = t;
            read = e;
            gic_is = ap (λ (x : Found). x.gic) q;
            edition_is = ap (λ (x : Found). x.edition) q;
            zones_is = ap (λ (x : Found). x.zones) q;
            requests_is = ap (λ (x : Found). x.requests) q;
          }
      by (bad j t) e g = absurd (cc)

-- a plan is its sections, one after another
module _ (n : ℕ) where
  with_requests : (m : Marks) (rs : List Region) (zs : List Zone) (o : Out (List Asked))
      → leading (after_requests m.gic m.edition (marks_bytes + (4 + length rs * region_size)) n) n o
      ≡ four_in n (then (then (then (then o (λ qs t. got (zs, qs) t)) (λ y t. got (rs, y) t))
      (λ y t. got (m, y) t)) (λ x t. got (plan_to x) t))
  unfolding then leading after_requests answer_by
  with_requests m rs zs (got qs u) = refl
  with_requests m rs zs (bad k u) = refl

  with_zones_law : (m : Marks) (rs : List Region) (o : Out (List Zone))
      → leading (after_zones m.gic m.edition (marks_bytes + (4 + length rs * region_size)) n) n o
      ≡ four_in n (then (then (then (then o
      (λ zs s. then ((requests_section limits).read s) (λ qs t. got (zs, qs) t))) (λ y t. got (rs, y) t))
      (λ y t. got (m, y) t)) (λ x t. got (plan_to x) t))
  unfolding then leading after_zones answer_by
  with_zones_law m rs (got zs u) = with_requests m rs zs ((requests_section limits).read u)
  with_zones_law m rs (bad k u) = refl

  with_regions_law : (m : Marks) (o : Out (List Region)) → leading (after_regions m.gic m.edition marks_bytes n) n o
      ≡ four_in n (then (then (then o (λ rs s. then ((both (zones_section limits) (requests_section limits)).read s)
      (λ y t. got (rs, y) t))) (λ y t. got (m, y) t)) (λ x t. got (plan_to x) t))
  unfolding then leading after_regions read_both answer_by
  with_regions_law m (got rs u) = with_zones_law m rs ((zones_section limits).read u)
  with_regions_law m (bad k u) = refl

  with_marks : (o : Out Marks) → leading (after_marks n) n o
      ≡ four_in n (then (then o (λ m s. then
      ((both (regions_section limits) (both (zones_section limits) (requests_section limits))).read s)
      (λ y t. got (m, y) t))) (λ x t. got (plan_to x) t))
  unfolding then leading after_marks read_both answer_by
  with_marks (got m u) = with_regions_law m ((regions_section limits).read u)
  with_marks (bad k u) = refl

  whole_plan_law : (k : ℕ) (b : List ℕ) → marks_found k n b ≡ four_in n ((plan_format (in_format (k ∷ []) limits)).read b)
  unfolding read_as read_both
  whole_plan_law k b = with_marks ((marks_section (in_format (k ∷ []) limits)).read b)

-- ---- bytes that begin with a plan of the format with the mark j
module _ (j : ℕ) (s : List ℕ) where
  abbrev read : Out Marks
  read = (marks_section (in_format (j ∷ []) limits)).read s

  pub marks_bad : (f : Marks → List ℕ → Told Four) (e : ℕ × ℕ) → Err e ≡ marks_answer (length s) read
      → Err e ≡ leading f (length s) read
  unfolding answer_by leading
  marks_bad f e d = by read d
    where
      by : (o : Out Marks) → Err e ≡ marks_answer (length s) o → Err e ≡ leading f (length s) o
      by (got x t) d = absurd (cc)
      by (bad k t) d = let q : e ≡ (k, length s - length t) = cc in ap (λ (x : ℕ × ℕ). Err x) q

  pub marks_refused : (e : ℕ × ℕ) → Err e ≡ marks_answer (length s) read
      → Err e ≡ four_in (length s) ((plan_format (in_format (j ∷ []) limits)).read s)
  marks_refused e f = marks_bad (after_marks (length s)) e f ∙ whole_plan_law (length s) j s

  module _ (m : MarksAre) (f : Ok m ≡ marks_answer (length s) read) where
    pub marks_are : read ≡ got (record { gic = m.gic; edition = m.edition }) (drop 16 s)
    unfolding answer_by
    marks_are = by read refl f
      where
        by : (o : Out Marks) → read ≡ o → Ok m ≡ marks_answer (length s) o
            → read ≡ got (record { gic = m.gic; edition = m.edition }) (drop 16 s)
        by (got x t) e g =
            let q : m ≡ record { gic = x.gic; edition = x.edition } = cc in
            e ∙ ap₂ (λ (y z : ℕ). got (record { gic = y; edition = z }) t) (sym (ap (λ (y : MarksAre). y.gic) q))
            (sym (ap (λ (y : MarksAre). y.edition) q))
            ∙ ap (got (record { gic = m.gic; edition = m.edition })) (marks_got j s x t e).1
        by (bad k t) e g = absurd (cc)

    pub marks_there : 16 ≤ length s
    marks_there = (marks_got j s (record { gic = m.gic; edition = m.edition }) (drop 16 s) marks_are).0

    behind_marks : regions_found m.gic m.edition marks_bytes (length s) (drop 16 s)
        ≡ four_in (length s) ((plan_format (in_format (j ∷ []) limits)).read s)
    unfolding leading after_marks
    behind_marks =
        sym (ap (leading (after_marks (length s)) (length s)) marks_are) ∙ whole_plan_law (length s) j s

    pub regions_refused : (e : ℕ × ℕ) → Err e ≡ section_answer (length s) ((regions_section limits).read (drop 16 s))
        → Err e ≡ four_in (length s) ((plan_format (in_format (j ∷ []) limits)).read s)
    regions_refused e g =
        leads_bad (length s) ((regions_section limits).read (drop 16 s)) (after_regions m.gic m.edition marks_bytes (length s)) e
        g
        ∙ behind_marks

    -- the zones begin at byte z
    pub zones_lead : (z : ℕ) → Ok z ≡ section_answer (length s) ((regions_section limits).read (drop 16 s)) → (v : Told Four)
        → v ≡ zones_found m.gic m.edition z (length s) (drop z s)
        → v ≡ four_in (length s) ((plan_format (in_format (j ∷ []) limits)).read s)
    unfolding after_regions
    zones_lead z g v h =
        let part : Part (left ((regions_section limits).read (drop 16 s))) s =
        part_in s (left ((regions_section limits).read (drop 16 s))) 16 ((lawful_regions limits).part (drop 16 s)) in
        let (rs, o) = ends_with s _ part z g in
        let listed = list_read_law region_format region_size region_value wide_region 1 most_regions (drop 16 s) rs (drop z s) o in
        let l : z ≤ length s = end_within s _ part z g in
        let k : 16 ≤ length s = marks_there in
        let at : z ≡ marks_bytes + (4 + length rs * region_size) =
        omega (
          arith,
          listed.there,
          ap length listed.rest,
          length-drop z s,
          length-drop 16 s,
          length-drop (4 + length rs * region_size) (drop 16 s),
        ) in
        h ∙ ap (λ (b : ℕ). zones_found m.gic m.edition b (length s) (drop z s)) at
        ∙ leads_on (length s) ((regions_section limits).read (drop 16 s)) (after_regions m.gic m.edition marks_bytes (length s)) rs
        (drop z s) o
        ∙ behind_marks

-- ---- the whole file: what was found of the four sections, and nothing may follow them
module _ {S : Type 0} (plan : S → Plan) (zones_of : S → ℕ) (n : ℕ) where
  pub whole_of_law : (o : Out S) → length (left o) ≤ n
      → whole_of n (four_of plan zones_of n o) ≡ found_of plan zones_of n (then o at_end)
  unfolding whole_of answer_by then at_end left
  whole_of_law (got p []) h =
      let z : n - 0 ≡ n = omega arith in
      ap (λ (k : ℕ). cond (ltb k n) (Err (22, k)) (found k)) z
      ∙ ap (λ (x : Bool). cond x (Err (22, n)) (found n)) (le-ltb n n (omega arith))
    where
      found : ℕ → Told Found
      found k = Ok (found_at (plan p).marks.gic (plan p).marks.edition (zones_of p) (k - length (plan p).asked * request_size))
  whole_of_law (got p (x ∷ t)) h =
      let m : ℕ = n - length (x ∷ t) in
      ap (λ (y : Bool). cond y (Err (22, m)) (Ok (found_at (plan p).marks.gic (plan p).marks.edition (zones_of p)
      (m - length (plan p).asked * request_size))))
      (lt-ltb m n (let k : 0 < length (x ∷ t) = omega arith in omega arith))
  whole_of_law (bad k t) h = refl

-- by what was found of the sections
pub ends_early : (n : ℕ) (r : Four) → r.end < n → Err (22, r.end) ≡ whole_of n (Ok r)
unfolding whole_of
ends_early n r h = sym (ap (λ (x : Bool). cond x (Err (22, r.end)) (Ok r.found)) (lt-ltb r.end n h))

pub ends_there : (n : ℕ) (r : Four) → n ≤ r.end → Ok r.found ≡ whole_of n (Ok r)
unfolding whole_of
ends_there n r h = sym (ap (λ (x : Bool). cond x (Err (22, r.end)) (Ok r.found)) (le-ltb r.end n h))

pub ends_bad : (n : ℕ) (e : ℕ × ℕ) → Err e ≡ whole_of n (Err e)
unfolding whole_of
ends_bad n e = refl

-- of refusals of any type that are told alike: the crate's own
pub whole_told : (n : ℕ) (r : Result Four Refused) (v : Result Found Refused)
    → ((t : Refused → ℕ × ℕ) → TellsAs (λ x y. y ≡ x) t → told_by t v ≡ whole_of n (told_by t r))
    → told v ≡ whole_of n (told r)
whole_told n r v h =
    sym (by_reasons v) ∙ h by_reason (λ x y e. ap by_reason e) ∙ ap (whole_of n) (by_reasons r)

-- a plan that was found whole
pub plan_found : (s : List ℕ) (r : Told Four) (v : Told Found) → r ≡ four_in (length s) ((plan_format limits).read s)
    → v ≡ whole_of (length s) r → v ≡ found_in (length s) (read_plan limits s)
unfolding read_plan read_file
plan_found s r v er e =
    let (w, q) = (lawful_plan limits).part s in
    e ∙ ap (whole_of (length s)) er
    ∙ whole_of_law (λ (p : Plan). p) (zones_at limits) (length s) ((plan_format limits).read s)
    (omega (arith, ap length q, length-append w (left ((plan_format limits).read s))))
