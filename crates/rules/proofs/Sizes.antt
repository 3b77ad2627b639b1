-- The length of a plan's bytes: what its contents say, and between the least and the longest that the limits give.
use Prim.Native.Nat.{ℕ, ◌+◌, ◌*◌, ◌^◌, ◌≤◌, ◌<◌}
use native.Mathlib.Nat.{mul-le-mul_right}
use native.Mathlib.Omega.{arith}
use mathlib.Core.List.{List, ◌++◌}
use mathlib.Core.Path.{◌≡◌, refl, ap, ◌∙◌}
use lib.ListN.{length, replicate, length-replicate}
use Rattle.lists.specs.Bytes.{Bytes}
use Rattle.formats.specs.Formats.{got, bad, both, as_type, many, listed, exactly, Format, ListFits}
use Rattle.formats.specs.Sizes.{total}
use Rattle.formats.proofs.Most.{most_number, most_both, most_field, most_as, most_many, most_headed, most_listed, most_exactly}
use Rattle.formats.proofs.Most.{most_wider, file_past, Most}
use Rattle.formats.proofs.Sizes.{sized_number, sized_both, sized_headed, sized_many, sized_listed, sized_exactly, total_same}
use Rattle.formats.proofs.Sizes.{total_most}
use Rattle.formats.proofs.Sizes.{total_replicate, all_replicate, Sized}
use Rattle.rules.specs.Limits.{mark_count, Limits, Sayable}
use Rattle.rules.specs.Fields.{region_numbers, numbers_of, region_to, short_size, long_size, region_size}
use Rattle.rules.specs.Plan.{short, long, region_format, region_field, asked_to, asked_from}
use Rattle.rules.specs.Plan.{asked_field, marks_to, marks_from, marks_format, marks_section, regions_section}
use Rattle.rules.specs.Plan.{set_format, zone_to}
use Rattle.rules.specs.Plan.{zone_from, zone_format, zones_section, requests_section, sections_with, plan_to, plan_from}
use Rattle.rules.specs.Plan.{plan_format}
use Rattle.rules.specs.Plan.{read_plan, encode, RegionFits, AskedFits, ZoneFits, PlanFits, Asked, Plan}
use Rattle.rules.specs.Regions.{no_region}
use Rattle.rules.specs.Run.{request_size}
use Rattle.rules.specs.Sizes.{marks_size, regions_size, zones_size, requests_size}
use Rattle.rules.specs.Sizes.{sets_size, zone_size, plan_size, longest_size, least_size, SizesShown, SayableShown, zone_with, no_asked}
use Rattle.rules.specs.Sizes.{plan_with}
use Rattle.rules.specs.Tables.{Zone}
use Rattle.rules.specs.declared.Region.{Region}
use Rattle.rules.proofs.Fields.{numbers_many}
use Rattle.rules.proofs.Plan.{none_fits, no_slack}

-- ---- what is written
pub sized_short : Sized short (λ n. short_size)
sized_short = sized_number short_size

sized_long : Sized long (λ n. long_size)
sized_long = sized_number long_size

pub sized_region : Sized region_field (λ r. region_size)
sized_region r =
    sized_many long (λ n. long_size) sized_long (numbers_of r) ∙ total_same long_size (numbers_of r)
    ∙ ap (λ (n : ℕ). n * long_size) (numbers_many r)

pub sized_asked : Sized asked_field (λ a. request_size)
sized_asked a =
    sized_both short (both short region_format) (λ n. short_size) (λ p. short_size + region_size) sized_short
    (sized_both short region_format (λ n. short_size) (λ r. region_size) sized_short sized_region)
    (a.kind, (a.zone, a.region))

-- a list of elements of one size
module _ {A : Type 0} (lo hi k : ℕ) (F : Format A) (s : Sized F (λ x. k)) where
  pub sized_list : Sized (listed 4 lo hi F) (λ xs. short_size + length xs * k)
  sized_list xs = sized_listed F (λ x. k) s 4 lo hi xs ∙ ap (λ (n : ℕ). short_size + n) (total_same k xs)

module _ (l : Limits) where
  -- bytes of the marks of the format
  abbrev last_size : ℕ
  last_size = length l.last_marks * short_size

  sum : short_size + (short_size + (short_size + last_size)) ≡ marks_size l
  sum = omega arith

  pub sized_marks : Sized (marks_section l) (λ m. marks_size l)
  sized_marks m =
      sized_headed 4 (mark_count l) (mark_count l) (λ c. marks_format l) (λ m. mark_count l)
      (λ m. short_size + (short_size + last_size))
      (λ c m. sized_both short (both short (exactly 4 l.last_marks)) (λ n. short_size) (λ t. short_size + last_size)
      sized_short
      (sized_both short (exactly 4 l.last_marks) (λ n. short_size) (λ u. last_size) sized_short
      (sized_exactly 4 l.last_marks))
      (marks_from m)) m
      ∙ sum

  abbrev pub of_regions : List Region → ℕ
  of_regions xs = regions_size (length xs)

  pub sized_set : Sized (set_format l) of_regions
  sized_set = sized_list 0 l.in_set region_size region_field sized_region

  pub sized_zone : Sized (zone_format l) zone_size
  sized_zone z =
      sized_both short (both (set_format l) (set_format l)) (λ n. short_size)
      (λ t. of_regions t.0 + of_regions t.1) sized_short
      (sized_both (set_format l) (set_format l) of_regions of_regions sized_set sized_set) (z.id, (z.cpu, z.iommu))

  pub sized_zones : Sized (zones_section l) zones_size
  sized_zones = sized_listed (zone_format l) zone_size sized_zone 4 0 l.zones

  pub sized_regions : Sized (regions_section l) of_regions
  sized_regions = sized_list 1 l.regions region_size region_field sized_region

  abbrev pub of_asked : List Asked → ℕ
  of_asked q = requests_size (length q)

  module _ {A : Type 0} (R : Format A) (f : A → ℕ) (r : Sized R f) where
    pub sized_sections : Sized (sections_with l R)
        (λ t. marks_size l + (f t.1.0 + (zones_size t.1.1.0 + of_asked t.1.1.1)))
    sized_sections =
        sized_both (marks_section l) (both R (both (zones_section l) (requests_section l))) (λ m. marks_size l)
        (λ t. f t.0 + (zones_size t.1.0 + of_asked t.1.1)) sized_marks
        (sized_both R (both (zones_section l) (requests_section l)) f (λ t. zones_size t.0 + of_asked t.1) r
        (sized_both (zones_section l) (requests_section l) zones_size of_asked sized_zones
        (sized_list 0 l.requests request_size asked_field sized_asked)))

  -- what is written of a plan, whether it fits or not, has the size that its contents give
  pub encoded_length : (p : Plan) → length (encode l p) ≡ plan_size l p
  unfolding encode plan_size
  encoded_length p =
      sized_sections (regions_section l) of_regions sized_regions (plan_from p)

  -- ---- between the least and the longest
  pub least_length : (p : Plan) → PlanFits l p → least_size l ≤ length (encode l p)
  unfolding plan_size
  least_length p (m, (r, (z, q))) = omega (arith, encoded_length p)

  most_zone : (z : Zone) → ZoneFits l z → zone_size z ≤ sets_size l.in_set l.in_set
  most_zone z (i, (c, d)) = omega arith

  pub most_length : (p : Plan) → PlanFits l p → length (encode l p) ≤ longest_size l
  unfolding plan_size
  most_length p (m, (r, (z, q))) =
      let k : ℕ = sets_size l.in_set l.in_set in
      omega (
        arith,
        encoded_length p,
        total_most zone_size (ZoneFits l) k most_zone p.zones z.fits.1,
        mul-le-mul_right k z.most,
      )

-- whatever reads whole lies between
pub whole_length : (l : Limits) (b : List ℕ) (p : Plan) (t : List ℕ) → Bytes b → read_plan l b ≡ got p t
    → (least_size l ≤ length b) × (length b ≤ longest_size l)
whole_length l b p t h e =
    let (w, f) = no_slack l b p t h e in
    rw w (least_length l p f, most_length l p f)

-- ---- a plan with so many of each
pub counts_length : (l : Limits) (r z c i q : ℕ)
    → length (encode l (plan_with r z c i q))
    ≡ marks_size l + (regions_size r + ((short_size + z * sets_size c i) + requests_size q))
unfolding plan_size
counts_length l r z c i q =
    let zone : zone_size (zone_with c i) ≡ sets_size c i =
    omega (arith, length-replicate c no_region, length-replicate i no_region) in
    let zones : total zone_size (replicate z (zone_with c i)) ≡ z * sets_size c i =
    total_replicate zone_size z (zone_with c i) ∙ ap (λ (k : ℕ). z * k) zone in
    omega (arith, encoded_length l (plan_with r z c i q), zones, length-replicate r no_region, length-replicate q no_asked)

module _ {A : Type 0} (P : A → Type 0) (x : A) (h : P x) where
  full_list : (lo hi n : ℕ) → lo ≤ n → n ≤ hi → n < 256 ^ 4 → ListFits 4 lo hi P (replicate n x)
  full_list lo hi n a z s = record {
    said = omega (arith, length-replicate n x);
    least = omega (arith, length-replicate n x);
    most = omega (arith, length-replicate n x);
    fits = (refl, all_replicate P n x h);
  }

module _ (l : Limits) (say : Sayable l) (r z c i q : ℕ) where
  pub counts_fit : 1 ≤ r → r ≤ l.regions → z ≤ l.zones → c ≤ l.in_set → i ≤ l.in_set → q ≤ l.requests
      → PlanFits l (plan_with r z c i q)
  counts_fit one mr mz mc mi mq =
      let sr : l.regions < 256 ^ 4 = say.regions in
      let sz : l.zones < 256 ^ 4 = say.zones in
      let ss : l.in_set < 256 ^ 4 = say.in_set in
      let sq : l.requests < 256 ^ 4 = say.requests in
      let set : (n : ℕ) → n ≤ l.in_set → ListFits 4 0 l.in_set RegionFits (replicate n no_region) =
      λ n m. full_list RegionFits no_region none_fits 0 l.in_set n (omega arith) m (omega arith) in (
        record {
          said = say.mark_count;
          least = omega arith;
          most = omega arith;
          fits = (omega arith, (omega arith, say.last_marks));
        },
        (
          full_list RegionFits no_region none_fits 1 l.regions r one mr (omega arith),
          (
            full_list (ZoneFits l) (zone_with c i) (omega arith, (set c mc, set i mi)) 0 l.zones z (omega arith) mz
                (omega arith),
            full_list AskedFits no_asked (omega arith, (omega arith, none_fits)) 0 l.requests q (omega arith) mq
                (omega arith),
          ),
        ),
      )

-- ---- the most that reading takes
region_most : Most region_format region_size
region_most =
    most_as (many long region_numbers) region_to numbers_of region_size
    (most_many long long_size (most_number long_size) region_numbers)

pub region_field_most : Most region_field region_size
region_field_most = most_field region_format region_size region_most

pub asked_most : Most asked_field request_size
asked_most =
    most_field (as_type (both short (both short region_format)) asked_to asked_from) request_size
    (most_as (both short (both short region_format)) asked_to asked_from request_size
    (most_both short (both short region_format) 4 (4 + region_size) (most_number 4)
    (most_both short region_format 4 region_size (most_number 4) region_most)))

module _ (l : Limits) where
  pub marks_most : Most (marks_section l) (marks_size l)
  marks_most =
      let n : ℕ = length l.last_marks * 4 in
      most_wider (marks_section l) (4 + (4 + (4 + n))) (marks_size l) (omega arith)
      (most_headed 4 (mark_count l) (mark_count l) (λ c. marks_format l) (λ m. mark_count l) (4 + (4 + n))
      (λ c h. most_as (both short (both short (exactly 4 l.last_marks))) marks_to marks_from (4 + (4 + n))
      (most_both short (both short (exactly 4 l.last_marks)) 4 (4 + n) (most_number 4)
      (most_both short (exactly 4 l.last_marks) 4 n (most_number 4) (most_exactly 4 l.last_marks)))))

  set_most : Most (set_format l) (regions_size l.in_set)
  set_most = most_listed 4 0 l.in_set region_field region_size region_field_most

  pub zone_most_law : Most (zone_format l) (sets_size l.in_set l.in_set)
  zone_most_law =
      most_as (both short (both (set_format l) (set_format l))) zone_to zone_from (sets_size l.in_set l.in_set)
      (most_both short (both (set_format l) (set_format l)) 4 (regions_size l.in_set + regions_size l.in_set)
      (most_number 4)
      (most_both (set_format l) (set_format l) (regions_size l.in_set) (regions_size l.in_set) set_most set_most))

  module _ {A : Type 0} (R : Format A) (m : ℕ) (r : Most R m) where
    abbrev zones_most : ℕ
    zones_most = short_size + l.zones * sets_size l.in_set l.in_set

    pub most_sections : Most (sections_with l R) (marks_size l + (m + (zones_most + requests_size l.requests)))
    most_sections =
        most_both (marks_section l) (both R (both (zones_section l) (requests_section l))) (marks_size l)
        (m + (zones_most + requests_size l.requests)) marks_most
        (most_both R (both (zones_section l) (requests_section l)) m (zones_most + requests_size l.requests) r
        (most_both (zones_section l) (requests_section l) zones_most (requests_size l.requests)
        (most_listed 4 0 l.zones (zone_format l) (sets_size l.in_set l.in_set) zone_most_law)
        (most_listed 4 0 l.requests asked_field request_size asked_most)))

  pub plan_most : Most (plan_format l) (longest_size l)
  plan_most =
      most_as (sections_with l (regions_section l)) plan_to plan_from (longest_size l)
      (most_sections (regions_section l) (regions_size l.regions)
      (most_listed 4 1 l.regions region_field region_size region_field_most))

  -- more than the longest plan is refused, and by the first of those bytes: what lies behind them changes nothing
  pub plan_past : (u v : List ℕ) → longest_size l < length u
      → (k : ℕ) × (t : List ℕ) × (read_plan l u ≡ bad k t) × (read_plan l (u ++ v) ≡ bad k (t ++ v))
  unfolding read_plan
  plan_past u v h = file_past (plan_format l) (longest_size l) plan_most u v h

-- ---- by computation
pub sizes_shown : SizesShown
sizes_shown = (refl, refl)

pub sayable_shown : SayableShown
sayable_shown = record {
  guest_reach = omega arith;
  phys_reach = omega arith;
  regions = omega arith;
  zones = omega arith;
  in_set = omega arith;
  requests = omega arith;
  mark_count = omega arith;
  last_marks = (omega arith, tt);
}
