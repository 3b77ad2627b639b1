-- Bytes that begin with a plan: its sections, each with what it leaves; its
-- counts are within limits; and its own base is what it says.
use Prim.Native.Nat.{ℕ, ◌≤◌}
use mathlib.Core.List.{List, []}
use mathlib.Core.Path.{◌≡◌, refl}
use lib.ListN.{length}
use Rattle.formats.specs.Formats.{got, both, All}
use Rattle.formats.proofs.Formats.{both_got, as_got, file_got, listed_got}
use Rattle.rules.specs.Applying.{base_of}
use Rattle.rules.specs.Configuration.{config_of}
use Rattle.rules.specs.Limits.{Limits}
use Rattle.rules.specs.Plan.{short, region_field, asked_field, set_format, zone_to, zone_from, zone_format, plan_to, plan_from}
use Rattle.rules.specs.Plan.{marks_section, regions_section, zones_section, requests_section, plan_format, read_plan}
use Rattle.rules.specs.Plan.{Plan}
use Rattle.rules.specs.Tables.{table_of, Zone}
use Rattle.rules.specs.declared.Region.{Region}
use Rattle.rules.proofs.Stored.{config_back, zones_back, SetsFew}

module _ (l : Limits) where
  -- ---- sets within limits
  set_few : (b : List ℕ) (xs : List Region) (t : List ℕ) → (set_format l).read b ≡ got xs t → length xs ≤ l.in_set
  set_few b xs t e = (listed_got region_field (λ x. Unit {0}) (λ b x t e. tt) 4 0 l.in_set b xs t e).0

  pub sets_few : (b : List ℕ) (z : Zone) (t : List ℕ) → (zone_format l).read b ≡ got z t → SetsFew l z
  sets_few b z t e =
      let f = as_got (both short (both (set_format l) (set_format l))) zone_to zone_from (λ x. refl) b z t e in
      let (u, ei, g) = both_got short (both (set_format l) (set_format l)) b z.id (z.cpu, z.iommu) t f in
      let (v, ec, ed) = both_got (set_format l) (set_format l) u z.cpu z.iommu t g in
      (set_few u z.cpu v ec, set_few v z.iommu t ed)

  -- a plan that reads whole has nothing after it
  pub whole_read : (b : List ℕ) (p : Plan) (t : List ℕ) → read_plan l b ≡ got p t → (plan_format l).read b ≡ got p []
  unfolding read_plan
  whole_read b p t e = file_got (plan_format l) b p t e

  module _ (b : List ℕ) (p : Plan) (t : List ℕ) (e : (plan_format l).read b ≡ got p t) where
    pub record Sections : Type 0 where
      pub after_marks : List ℕ
      pub after_regions : List ℕ
      pub after_zones : List ℕ
      pub marks : (marks_section l).read b ≡ got p.marks after_marks
      pub regions : (regions_section l).read after_marks ≡ got p.regions after_regions
      pub zones : (zones_section l).read after_regions ≡ got p.zones after_zones
      pub requests : (requests_section l).read after_zones ≡ got p.asked t

    pub sections : Sections
    sections =
        let f1 =
        as_got (both (marks_section l) (both (regions_section l) (both (zones_section l) (requests_section l)))) plan_to plan_from
        (λ x. refl) b p t e in
        let (v1, em, f2) =
        both_got (marks_section l) (both (regions_section l) (both (zones_section l) (requests_section l))) b p.marks
        (p.regions, (p.zones, p.asked)) t f1 in
        let (v2, er, f3) =
        both_got (regions_section l) (both (zones_section l) (requests_section l)) v1 p.regions
        (p.zones, p.asked) t f2 in
        let (v3, ez, eq) = both_got (zones_section l) (requests_section l) v2 p.zones p.asked t f3 in
        record {
          after_marks = v1;
          after_regions = v2;
          after_zones = v3;
          marks = em;
          regions = er;
          zones = ez;
          requests = eq;
        }

    -- ---- counts within limits
    pub few_regions_law : length p.regions ≤ l.regions
    few_regions_law = (listed_got region_field (λ x. Unit {0}) (λ b x t e. tt) 4 1 l.regions _ _ _ sections.regions).0

    pub few_zones_law : (length p.zones ≤ l.zones) × All (SetsFew l) p.zones
    few_zones_law = listed_got (zone_format l) (SetsFew l) sets_few 4 0 l.zones _ _ _ sections.zones

    pub few_requests : length p.asked ≤ l.requests
    few_requests = (listed_got asked_field (λ x. Unit {0}) (λ b x t e. tt) 4 0 l.requests _ _ _ sections.requests).0

    -- ---- its own base
    pub own_config_law : config_of (base_of l p).config ≡ record { regions = p.regions; gic = p.marks.gic }
    own_config_law = config_back l (record { regions = p.regions; gic = p.marks.gic }) few_regions_law

    pub own_zones : table_of (base_of l p).table ≡ p.zones
    own_zones = zones_back l p.zones few_zones_law.0 few_zones_law.1
