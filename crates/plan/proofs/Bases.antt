-- What bytes give that begin with a plan: where its sections begin, and its requests. And a plan that reads whole: its base,
-- held against the terminal's words, passes exactly if it is the base that they hold.
use Prim.Native.Nat.{ℕ, ◌+◌, ◌-◌, ◌*◌, ◌/◌, ◌≤◌}
use native.Mathlib.Omega.{arith}
use mathlib.Core.Bool.{Bool, true, false, cond}
use mathlib.Core.List.{List, [], ◌∷◌, ◌++◌, map, map-map, append_assoc}
use mathlib.Core.Path.{◌≡◌, refl, sym, ap, ap₂, subst, ◌∙◌}
use lib.Dec.{eqb}
use lib.ListN.{length, get_or, take, drop, length-append, length-take, length-drop}
use lib.Seq.{drop_at, drop-drop, take_all}
use Rattle.lists.specs.Bytes.{little}
use Rattle.lists.specs.Places.{places, tab}
use Rattle.lists.specs.Tests.{all_of}
use Rattle.lists.specs.Words.{part}
use Rattle.lists.proofs.Places.{tab_same}
use Rattle.formats.specs.Formats.{Out, got, left}
use Rattle.formats.proofs.Formats.{Part}
use Rattle.rules.specs.Fields.{region_size}
use Rattle.rules.specs.Applying.{same_list, same_zone, same_config}
use Rattle.rules.specs.Limits.{most_regions, limits, in_format, Limits}
use Rattle.rules.specs.Plan.{region_format, regions_section, zones_section, requests_section, requests_from, requests_of}
use Rattle.rules.specs.Plan.{plan_format, read_plan, Asked, Marks, Plan}
use Rattle.rules.specs.Regions.{region_eq}
use Rattle.rules.specs.Requests.{standing}
use Rattle.rules.specs.Run.{make_request, request_size, region_in, request_from, requests_in}
use Rattle.rules.specs.Sizes.{zones_at}
use Rattle.rules.specs.Tables.{table_of, Zone}
use Rattle.rules.specs.declared.Region.{Region}
use Rattle.rules.proofs.Plan.{lawful_marks, lawful_regions, lawful_zones}
use Rattle.rules.proofs.Sections.{whole_read, sections, Sections}
use Rattle.rules.proofs.Stored.{stands_well}
use Rattle.zones.specs.Layout.{config_count, config_records}
use Rattle.zones.specs.Records.{records_at}
use Rattle.zones.specs.View.{stored_config, stored_table, config_in, zones_in, ConfigPassed}
use Rattle.zones.proofs.Running.{part_take, request_within}
use Rattle.zones.proofs.Stepping.{stands_same}
use Rattle.plan.specs.Held.{held_answer, holds_regions, config_held, table_held}
use Rattle.std.proofs.Common.{Some, None, is_some}
use Rattle.plan.proofs.Fields.{asked_in, region_value, wide_region, in_bytes}
use Rattle.zones.proofs.ConfigReaders.{count_is, gic_is, regions_in}
use Rattle.plan.proofs.Locating.{marks_got, requests_read_law}
use Rattle.plan.proofs.Passing.{Listed, list_read_law}

-- each request is made of its numbers
one_request : (d : List ℕ) (at : ℕ)
    → make_request (asked_in (drop at d)).kind (asked_in (drop at d)).zone (asked_in (drop at d)).region
    ≡ request_from d at
unfolding request_from part
one_request d at =
    let e4 : drop 4 (drop at d) ≡ drop (at + 4) d = drop-drop 4 at d in
    let e8 : drop 4 (drop 4 (drop at d)) ≡ drop (at + 8) d =
    (let k : at + 4 + 4 ≡ at + 8 = omega arith in
    ap (drop 4) e4 ∙ drop-drop 4 (at + 4) d ∙ ap (λ (j : ℕ). drop j d) k) in
    let r : region_value (drop 4 (drop 4 (drop at d))) ≡ region_in d (at + 8) =
    ap region_value e8 ∙ sym (in_bytes d (at + 8)) in
    (λ i. make_request (little (take 4 (drop at d))) (little (take 4 (e4 i))) (r i))

-- the first n requests of bytes that have as many
requests_front : (d : List ℕ) (n : ℕ) → n * request_size ≤ length d
    → requests_in (take (n * request_size) d) ≡ tab n (λ i. request_from d (i * request_size))
unfolding requests_in part
requests_front d n h =
    let all : List ℕ = take (n * request_size) d in
    let m : length all / request_size ≡ n =
    (let l : length all ≡ n * request_size = omega (arith, length-take (n * request_size) d) in
    omega arith) in
    ap (λ (k : ℕ). tab k (λ i. request_from all (i * request_size))) m
    ∙ tab_same n (λ i. request_from all (i * request_size)) (λ i. request_from d (i * request_size)) (λ i l.
    let at : ℕ = i * request_size in
    let e : ℕ = at + request_size in
    let fits : at + (e - at) ≤ n * request_size = omega arith in
    sym (request_within all at e _ (omega arith) refl)
    ∙ ap (λ (x : List ℕ). request_from x 0) (part_take at (e - at) (n * request_size) d fits)
    ∙ request_within d at e _ (omega arith) refl)

-- ---- requests behind w, after which t is left
module _ (b w u : List ℕ) (asked : List Asked) (t : List ℕ) (q : b ≡ w ++ u)
    (e : (requests_section limits).read u ≡ got asked t) where
  requests_stand : (4 + length asked * request_size + length t ≡ length u)
      × ((length u ≤ length b) × (drop (length b - length t - length asked * request_size) b ≡ drop 4 u))
  requests_stand =
      let n : ℕ = length asked * request_size in
      let l : 4 + n + length t ≡ length u = (requests_read_law u asked t e).0 in
      let m : length b ≡ length w + length u = ap length q ∙ length-append w u in
      let k : length b - length t - n ≡ length w + 4 = omega arith in (
        l,
        (
          omega arith,
          ap₂ drop k q ∙ sym (drop-drop 4 (length w) (w ++ u)) ∙ ap (drop 4) (drop_at w u (length w) refl),
        ),
      )

  requests_made : requests_in (take (length asked * request_size)
      (drop (length b - length t - length asked * request_size) b)) ≡ requests_from asked
  unfolding tab
  requests_made =
      let (l, (m, at)) = requests_stand in
      let d : List ℕ = drop 4 u in
      let n : ℕ = length asked in
      let each : asked ≡ tab n (λ i. asked_in (drop (i * request_size) d)) = (requests_read_law u asked t e).1 in
      ap (λ (x : List ℕ). requests_in (take (n * request_size) x)) at
      ∙ requests_front d n (omega (arith, length-drop 4 u))
      ∙ (λ j. map (λ i. sym (one_request d (i * request_size)) j) (places 0 n))
      ∙ sym (map-map (λ (a : Asked). make_request a.kind a.zone a.region)
      (λ i. asked_in (drop (i * request_size) d)) (places 0 n))
      ∙ ap (map (λ (a : Asked). make_request a.kind a.zone a.region)) (sym each)

-- those that are the last of the bytes
pub requests_last : (b w u : List ℕ) (asked : List Asked) → b ≡ w ++ u → (requests_section limits).read u ≡ got asked []
    → (length asked * request_size ≤ length b)
    × (requests_in (drop (length b - length asked * request_size) b) ≡ requests_from asked)
requests_last b w u asked q e =
    let n : ℕ = length asked * request_size in
    let (l, (m, at)) = requests_stand b w u asked [] q e in
    let h : n ≤ length b = omega arith in
    let z : length b - n ≡ length b - 0 - n = omega arith in (
      h,
      ap (λ (j : ℕ). requests_in (drop j b)) z
          ∙ ap requests_in (sym (take_all n (drop (length b - 0 - n) b) (omega (arith, length-drop (length b - 0 - n) b))))
          ∙ requests_made b w u asked [] q e,
    )

-- ---- bytes that begin with a plan, in the format with the mark k: its sections, and what each of them leaves
module _ (k : ℕ) (b : List ℕ) (p : Plan) (t : List ℕ) (e : (plan_format (in_format (k ∷ []) limits)).read b ≡ got p t) where
  abbrev its : Limits
  its = in_format (k ∷ []) limits

  pub parts : Sections its b p t e
  parts = sections its b p t e

  -- what stands before the requests' section
  before_requests : (w : List ℕ) × (b ≡ w ++ parts.after_zones)
  unfolding left
  before_requests =
      let h = parts in
      let (w1, q1) = subst (λ (o : Out Marks). Part (left o) b) h.marks ((lawful_marks its).part b) in
      let (w2, q2) =
      subst (λ (o : Out (List Region)). Part (left o) h.after_marks) h.regions
      ((lawful_regions its).part h.after_marks) in
      let (w3, q3) =
      subst (λ (o : Out (List Zone)). Part (left o) h.after_regions) h.zones
      ((lawful_zones its).part h.after_regions) in (
        w1 ++ (w2 ++ w3),
        q1 ∙ ap (λ (l : List ℕ). w1 ++ l) (q2
            ∙ ap (λ (l : List ℕ). w2 ++ l) q3
            ∙ sym (append_assoc w2 w3 h.after_zones))
            ∙ sym (append_assoc w1 (w2 ++ w3) h.after_zones),
      )

  -- where its requests begin
  abbrev pub first : ℕ
  first = length b - length t - length p.asked * request_size

  pub requests_within : length t + length p.asked * request_size ≤ length b
  requests_within =
      let (w, q) = before_requests in
      let (l, (m, e)) = requests_stand b w parts.after_zones p.asked t q parts.requests in
      omega arith

  pub four_requests : requests_in (take (length p.asked * request_size) (drop first b)) ≡ requests_of p
  four_requests =
      let (w, q) = before_requests in requests_made b w parts.after_zones p.asked t q parts.requests

  -- ---- where its sections begin
  after_marks_law : (16 ≤ length b) × (parts.after_marks ≡ drop 16 b)
  after_marks_law = marks_got k b p.marks parts.after_marks parts.marks

  regions_read : Listed region_format region_size region_value wide_region 1 most_regions parts.after_marks p.regions
      parts.after_regions
  regions_read =
      list_read_law region_format region_size region_value wide_region 1 most_regions parts.after_marks p.regions
      parts.after_regions parts.regions

  pub four_marks_within : 16 ≤ length b
  four_marks_within = after_marks_law.0

  pub four_zones_there : zones_at limits p ≤ length b
  four_zones_there = omega (arith, after_marks_law.0, ap length after_marks_law.1, length-drop 16 b, regions_read.there)

  pub four_regions_at : (regions_section limits).read (drop 16 b) ≡ got p.regions parts.after_regions
  four_regions_at = ap (λ (l : List ℕ). (regions_section limits).read l) (sym after_marks_law.1) ∙ parts.regions

  pub four_zones_at : (zones_section limits).read (drop (zones_at limits p) b) ≡ got p.zones parts.after_zones
  four_zones_at =
      let q : parts.after_regions ≡ drop (zones_at limits p) b =
      regions_read.rest
      ∙ ap (drop (4 + length p.regions * region_size)) after_marks_law.1
      ∙ drop-drop (4 + length p.regions * region_size) 16 b in
      ap (λ (l : List ℕ). (zones_section limits).read l) (sym q) ∙ parts.zones

-- ---- a plan that reads whole
module _ (b : List ℕ) (p : Plan) (t : List ℕ) (e : read_plan limits b ≡ got p t) where
  pub whole : (plan_format limits).read b ≡ got p []
  whole = whole_read limits b p t e

  pub requests_same : requests_in (drop (length b - length p.asked * request_size) b) ≡ requests_of p
  requests_same =
      let (w, q) = before_requests 2 b p [] whole in
      (requests_last b w (parts 2 b p [] whole).after_zones p.asked q (parts 2 b p [] whole).requests).1

  pub marks_within : 16 ≤ length b
  marks_within = four_marks_within 2 b p [] whole

  pub zones_there : zones_at limits p ≤ length b
  zones_there = four_zones_there 2 b p [] whole

  pub regions_at_law : (regions_section limits).read (drop 16 b) ≡ got p.regions (parts 2 b p [] whole).after_regions
  regions_at_law = four_regions_at 2 b p [] whole

  pub zones_at_law : (zones_section limits).read (drop (zones_at limits p) b) ≡ got p.zones (parts 2 b p [] whole).after_zones
  zones_at_law = four_zones_at 2 b p [] whole

-- ---- its base, held against the terminal's words c and w
pub held_value : {A : Type 0} (n : ℕ) (f : A → Bool) (o : Out A) (x : A) (t : List ℕ) → o ≡ got x t
    → is_some (held_answer n f o) ≡ f x
unfolding held_answer
held_value n f o x t e = ap (λ (y : Out _). is_some (held_answer n f y)) e ∙ by (f x)
  where
    by : (v : Bool) → is_some (cond v (Some (n - length t)) None) ≡ v
    by true = refl
    by false = refl

-- regions rs that begin at the bytes s, and a GIC position, held against a configuration that passed
pub config_by : (c s : List ℕ) (gic : ℕ) (rs : List Region) (t : List ℕ) → ConfigPassed c
    → (regions_section limits).read s ≡ got rs t
    → config_held s gic c ≡ all_of (same_list region_eq (config_in c).regions rs ∷ eqb (config_in c).gic gic ∷ [])
unfolding config_held holds_regions
config_by c s gic rs t ok e =
    let regions : records_at c config_records (get_or c config_count 0) ≡ (config_in c).regions =
    ap (records_at c config_records) (count_is c ok).0 ∙ sym (regions_in c ok) in
    let first : is_some (held_answer (length s) (holds_regions c config_count config_records) ((regions_section limits).read s))
    ≡ same_list region_eq (config_in c).regions rs =
    held_value _ (holds_regions c config_count config_records) _ rs t e
    ∙ ap (λ (l : List Region). same_list region_eq l rs) regions in
    ap₂ (λ (x : Bool) (g : ℕ). all_of (x ∷ eqb g gic ∷ [])) first (gic_is c ok).0

-- zones zs that begin at the bytes s, held against a table whose zones readers find
pub zones_by : (w s : List ℕ) (zs : List Zone) (t : List ℕ) → zones_in w ≡ table_of (stored_table w)
    → (zones_section limits).read s ≡ got zs t → table_held s w ≡ same_list same_zone (table_of (stored_table w)) zs
unfolding table_held
zones_by w s zs t found e =
    held_value _ (same_list same_zone (zones_in w)) _ zs t e ∙ ap (λ (l : List Zone). same_list same_zone l zs) found

module _ (b : List ℕ) (p : Plan) (t : List ℕ) (e : read_plan limits b ≡ got p t) (c w : List ℕ)
    (stands : standing limits (stored_config c) (stored_table w) ≡ 0) where
  pub config_same : config_held (drop 16 b) p.marks.gic c ≡ same_config (config_in c) p
  unfolding same_config
  config_same =
      config_by c (drop 16 b) p.marks.gic p.regions _
      (stands_well limits (stored_config c) (stored_table w) stands).0 (regions_at_law b p t e)

  pub zones_same : table_held (drop (zones_at limits p) b) w ≡ same_list same_zone (table_of (stored_table w)) p.zones
  zones_same =
      zones_by w (drop (zones_at limits p) b) p.zones _ (stands_same c w 0 (sym stands) refl) (zones_at_law b p t e)
