-- The plan's format: reading an encoding gives its contents back, and
-- whatever reads whole is the encoding of what it reads to.
use Prim.Native.Nat.{ℕ}
use native.Mathlib.Omega.{arith}
use mathlib.Core.List.{List, []}
use mathlib.Core.Logic.{◌⊎◌, inl, inr}
use mathlib.Core.Path.{◌≡◌, refl}
use lib.ListN.{length}
use Rattle.lists.specs.Bytes.{Bytes}
use Rattle.formats.specs.Formats.{got, bad, both, as_type, many, listed, exactly, Format, All, ListFits}
use Rattle.formats.proofs.Formats.{Told, Lawful, lawful_number, lawful_both, lawful_field, lawful_as, lawful_many}
use Rattle.formats.proofs.Formats.{lawful_fits, lawful_headed, lawful_exactly, file_back, file_tight, file_refuses}
use Rattle.formats.proofs.Formats.{file_ends}
use Rattle.formats.proofs.Sizes.{all_replicate}
use Rattle.formats.proofs.Spelled.{spelled_number, spelled_both, spelled_many, spelled_headed, spelled_exactly, Spelled}
use Rattle.rules.specs.Limits.{mark_count, Limits}
use Rattle.rules.specs.Fields.{region_numbers, numbers_of, region_to, long_size}
use Rattle.rules.specs.Plan.{short, long, region_format, region_field, asked_to, asked_from}
use Rattle.rules.specs.Plan.{asked_field, marks_to, marks_from, marks_format, marks_section, regions_section}
use Rattle.rules.specs.Plan.{set_format, zone_to}
use Rattle.rules.specs.Plan.{zone_from, zone_format, zones_section, requests_section, sections_with, plan_to, plan_from}
use Rattle.rules.specs.Plan.{plan_format}
use Rattle.rules.specs.Plan.{read_plan, encode, Short, Long, RegionFits, AskedFits, MarksFit, SetFits, ZoneFits}
use Rattle.rules.specs.Plan.{PlanFits, Asked, Plan}
use Rattle.rules.specs.Regions.{no_region}
use Rattle.rules.specs.Tables.{Zone}
use Rattle.rules.specs.declared.Region.{Region}
use Rattle.rules.proofs.Fields.{numbers_many, of_numbers, to_numbers}

-- ---- fields
abbrev Longs : List ℕ → Type 0
Longs l = (length l ≡ region_numbers) × All Long l

lawful_region : Lawful region_format RegionFits
lawful_region =
    lawful_fits region_format (λ r. Longs (numbers_of r)) RegionFits
    (lawful_as (many long region_numbers) Longs (lawful_many long Long (lawful_number long_size) region_numbers) region_to
    numbers_of of_numbers (λ l h. to_numbers l h.0))
    (λ r h. h.1) (λ r h. (numbers_many r, h))

-- the region of a record without one
pub none_fits : RegionFits no_region
unfolding numbers_of
none_fits = all_replicate Long region_numbers 0 (omega arith)

pub lawful_region_field : Lawful region_field RegionFits
lawful_region_field = lawful_field region_format RegionFits lawful_region

pub lawful_asked : Lawful asked_field AskedFits
lawful_asked =
    lawful_field (as_type (both short (both short region_format)) asked_to asked_from) AskedFits
    (lawful_as (both short (both short region_format)) (λ t. Short t.0 × (Short t.1.0 × RegionFits t.1.1))
    (lawful_both short (both short region_format) Short (λ t. Short t.0 × RegionFits t.1) (lawful_number 4)
    (lawful_both short region_format Short RegionFits (lawful_number 4) lawful_region))
    asked_to asked_from (λ a. refl) (λ t h. refl))

-- ---- sections
module _ {A : Type 0} (lo hi : ℕ) (F : Format A) (P : A → Type 0) (f : Lawful F P) where
  pub lawful_list : Lawful (listed 4 lo hi F) (ListFits 4 lo hi P)
  lawful_list =
      lawful_headed 4 lo hi (many F) length (λ n xs. (length xs ≡ n) × All P xs) (lawful_many F P f)
      (λ c xs a z h. h.0)

module _ (l : Limits) where
  -- the GIC's position, the edition, and the marks of the format
  abbrev Three : ℕ × (ℕ × Unit {0}) → Type 0
  Three t = Short t.0 × (Short t.1.0 × All Short l.last_marks)

  pub lawful_marks : Lawful (marks_section l) (MarksFit l)
  lawful_marks =
      lawful_headed 4 (mark_count l) (mark_count l) (λ c. marks_format l) (λ m. mark_count l)
      (λ c m. Three (marks_from m))
      (λ c. lawful_as (both short (both short (exactly 4 l.last_marks))) Three
      (lawful_both short (both short (exactly 4 l.last_marks)) Short (λ t. Short t.0 × All Short l.last_marks)
      (lawful_number 4)
      (lawful_both short (exactly 4 l.last_marks) Short (λ u. All Short l.last_marks) (lawful_number 4)
      (lawful_exactly 4 l.last_marks)))
      marks_to marks_from (λ m. refl) (λ t h. refl))
      (λ c m a z h. omega arith)

  lawful_set : Lawful (set_format l) (SetFits l)
  lawful_set = lawful_list 0 l.in_set region_field RegionFits lawful_region_field

  pub lawful_zone : Lawful (zone_format l) (ZoneFits l)
  lawful_zone =
      lawful_as (both short (both (set_format l) (set_format l)))
      (λ t. Short t.0 × (SetFits l t.1.0 × SetFits l t.1.1))
      (lawful_both short (both (set_format l) (set_format l)) Short (λ t. SetFits l t.0 × SetFits l t.1)
      (lawful_number 4) (lawful_both (set_format l) (set_format l) (SetFits l) (SetFits l) lawful_set lawful_set))
      zone_to zone_from (λ z. refl) (λ t h. refl)

  abbrev Regions : List Region → Type 0
  Regions = ListFits 4 1 l.regions RegionFits

  abbrev Zones : List Zone → Type 0
  Zones = ListFits 4 0 l.zones (ZoneFits l)

  abbrev Requests : List Asked → Type 0
  Requests = ListFits 4 0 l.requests AskedFits

  pub lawful_regions : Lawful (regions_section l) Regions
  lawful_regions = lawful_list 1 l.regions region_field RegionFits lawful_region_field

  pub lawful_zones : Lawful (zones_section l) Zones
  lawful_zones = lawful_list 0 l.zones (zone_format l) (ZoneFits l) lawful_zone

  pub lawful_requests : Lawful (requests_section l) Requests
  lawful_requests = lawful_list 0 l.requests asked_field AskedFits lawful_asked

  -- ---- the whole
  module _ {A : Type 0} (R : Format A) (P : A → Type 0) (r : Lawful R P) where
    pub lawful_sections : Lawful (sections_with l R)
        (λ t. MarksFit l t.0 × (P t.1.0 × (Zones t.1.1.0 × Requests t.1.1.1)))
    lawful_sections =
        lawful_both (marks_section l) (both R (both (zones_section l) (requests_section l))) (MarksFit l)
        (λ t. P t.0 × (Zones t.1.0 × Requests t.1.1)) lawful_marks
        (lawful_both R (both (zones_section l) (requests_section l)) P (λ t. Zones t.0 × Requests t.1) r
        (lawful_both (zones_section l) (requests_section l) Zones Requests lawful_zones lawful_requests))

  pub lawful_plan : Lawful (plan_format l) (PlanFits l)
  lawful_plan =
      lawful_as (sections_with l (regions_section l)) _ (lawful_sections (regions_section l) Regions lawful_regions)
      plan_to plan_from (λ p. refl) (λ t h. refl)

  -- ---- the two laws
  pub read_encoded : (p : Plan) → PlanFits l p → read_plan l (encode l p) ≡ got p []
  unfolding read_plan encode
  read_encoded p h = file_back (plan_format l) (PlanFits l) lawful_plan p h

  pub no_slack : (b : List ℕ) (p : Plan) (t : List ℕ) → Bytes b → read_plan l b ≡ got p t
      → (b ≡ encode l p) × PlanFits l p
  unfolding read_plan encode
  no_slack b p t h e = file_tight (plan_format l) (PlanFits l) lawful_plan b p t h e

  -- no refusal has number 0
  pub plan_refuses : (b : List ℕ) (k : ℕ) (t : List ℕ) → read_plan l b ≡ bad k t → k ≡ 0 → ⊥
  unfolding read_plan
  plan_refuses b k t e z = by (file_refuses (plan_format l) (PlanFits l) lawful_plan b k t e)
    where
      by : Told k ⊎ (k ≡ 22) → ⊥
      by (inl (inl h)) = omega arith
      by (inl (inr h)) = omega arith
      by (inr h) = omega arith

pub plan_ends : (l : Limits) (b : List ℕ) (p : Plan) (t : List ℕ) → read_plan l b ≡ got p t → t ≡ []
unfolding read_plan
plan_ends l b p t e = file_ends (plan_format l) b p t e

-- ---- what is written of a plan is bytes
spelled_region : Spelled region_field
spelled_region r = spelled_many long (spelled_number long_size) region_numbers (numbers_of r)

spelled_list : {A : Type 0} (lo hi : ℕ) (F : Format A) → Spelled F → Spelled (listed 4 lo hi F)
spelled_list lo hi F f = spelled_headed 4 lo hi (many F) length (spelled_many F f)

spelled_marks : (l : Limits) → Spelled (marks_section l)
spelled_marks l =
    spelled_headed 4 (mark_count l) (mark_count l) (λ c. marks_format l) (λ m. mark_count l)
    (λ c m. spelled_both short (both short (exactly 4 l.last_marks)) (spelled_number 4)
    (spelled_both short (exactly 4 l.last_marks) (spelled_number 4) (spelled_exactly 4 l.last_marks))
    (marks_from m))

spelled_asked : Spelled asked_field
spelled_asked a =
    spelled_both short (both short region_format) (spelled_number 4)
    (spelled_both short region_format (spelled_number 4) spelled_region) (asked_from a)

spelled_zone : (l : Limits) → Spelled (zone_format l)
spelled_zone l z =
    let set : Spelled (set_format l) = spelled_list 0 l.in_set region_field spelled_region in
    spelled_both short (both (set_format l) (set_format l)) (spelled_number 4)
    (spelled_both (set_format l) (set_format l) set set) (zone_from z)

pub spelled_zones : (l : Limits) → Spelled (zones_section l)
spelled_zones l = spelled_list 0 l.zones (zone_format l) (spelled_zone l)

pub encoded_bytes : (l : Limits) (p : Plan) → Bytes (encode l p)
unfolding encode
encoded_bytes l p =
    spelled_both (marks_section l) (both (regions_section l) (both (zones_section l) (requests_section l)))
    (spelled_marks l)
    (spelled_both (regions_section l) (both (zones_section l) (requests_section l))
    (spelled_list 1 l.regions region_field spelled_region)
    (spelled_both (zones_section l) (requests_section l) (spelled_zones l)
    (spelled_list 0 l.requests asked_field spelled_asked)))
    (plan_from p)
