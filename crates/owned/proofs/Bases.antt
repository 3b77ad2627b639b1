-- What a plan with owners gives that reads whole: its base, held against the terminal's words, passes exactly if it is
-- the base that they hold. And its requests.
use Prim.Native.Nat.{ℕ, ◌+◌, ◌-◌, ◌*◌, ◌≤◌}
use native.Mathlib.Omega.{arith}
use mathlib.Core.Bool.{Bool, true, false}
use mathlib.Core.List.{List, [], ◌∷◌}
use mathlib.Core.Path.{◌≡◌, refl, sym, ap, ap₂, subst, ◌∙◌}
use borrow.Author.Tests.{not-false}
use lib.Dec.{eqb}
use lib.ListN.{length, take, drop, length-drop, take-append-drop}
use lib.Seq.{drop-drop}
use Rattle.lists.specs.First.{all}
use Rattle.lists.specs.Room.{room}
use Rattle.lists.specs.Tests.{all_of}
use Rattle.lists.proofs.Places.{length_tab}
use Rattle.lists.proofs.Room.{length_room}
use Rattle.lists.proofs.Rules.{test_of, quiet_answer, above_zero, silent_number}
use Rattle.lists.proofs.Tests.{not_holds, parts, whole}
use Rattle.formats.specs.Formats.{Out, got, left, then, read_with, both, listed}
use Rattle.formats.proofs.Formats.{Part, part_trans, file_got, as_got, both_got, with_got}
use Rattle.rules.specs.Applying.{same_list, same_zone, same_config}
use Rattle.rules.specs.Configuration.{config_of, check, is_sound}
use Rattle.rules.specs.Fields.{region_size}
use Rattle.rules.specs.Limits.{most_regions, limits}
use Rattle.rules.specs.OwnedPlan.{owned_regions, owned_to, owned_from, owned_format, read_owned, same_owned, owned_steps}
use Rattle.rules.specs.OwnedPlan.{OwnedPlan}
use Rattle.rules.specs.Owners.{owned_of, owned_check, owned_check_table, owned_refusal, owned_next}
use Rattle.rules.specs.Owners.{owned_standing_rules, owned_standing}
use Rattle.rules.specs.Plan.{short, region_format, marks_section, regions_section, zones_section, requests_section}
use Rattle.rules.specs.Plan.{sections_with, requests_from}
use Rattle.rules.specs.Regions.{no_region}
use Rattle.rules.specs.Requests.{standing_rules, standing}
use Rattle.rules.specs.Run.{request_size, requests_in}
use Rattle.rules.specs.Tables.{table_of, check_table, Zone}
use Rattle.rules.specs.declared.Checked.TheVariants.{Sound}
use Rattle.rules.specs.declared.OwnedChecked.TheVariants.{Plain}
use Rattle.rules.specs.declared.Region.{Region}
use Rattle.rules.proofs.Applying.{same_config_law}
use Rattle.rules.proofs.Configuration.{sound_is}
use Rattle.rules.proofs.Keeps.{parts_sound}
use Rattle.rules.proofs.OwnedCheck.{plain_passed}
use Rattle.rules.proofs.OwnedPlan.{owned_stands_well}
use Rattle.rules.proofs.Owners.{owned_keeps, OwnedTable}
use Rattle.rules.proofs.Plan.{lawful_zones}
use Rattle.rules.proofs.Run.{run_by_keeps}
use Rattle.zones.specs.Layout.{config_records}
use Rattle.zones.specs.Records.{record_at, records_at}
use Rattle.zones.specs.View.{stored_config, stored_table, config_in, zones_in, ConfigPassed}
use Rattle.owners.specs.View.{stored_owned}
use Rattle.plan.specs.Held.{table_held}
use Rattle.plan.specs.Steps.{Stood}
use Rattle.plan.proofs.Numbers.{numbers_read}
use Rattle.plan.proofs.Bases.{requests_last, config_by, zones_by}
use Rattle.plan.proofs.Fields.{region_value, wide_region}
use Rattle.plan.proofs.Locating.{marks_got}
use Rattle.plan.proofs.Passing.{Listed, list_read_law}
use Rattle.plan.proofs.Steps.{stood_by}
use Rattle.plan.proofs.Undoing.{own_small}
use Rattle.owned.specs.Found.{owned_zones_at}
use Rattle.owned.specs.Held.{owners_behind, owned_held}
use Rattle.owned.specs.Section.{owners_section}
use Rattle.owned.proofs.Holding.{held_owners}

-- ---- a state of these terminals that stands
module _ (c o t : List ℕ) where
  full : length (stored_config c).records ≡ most_regions
  unfolding records_at
  full = length_tab most_regions (record_at c config_records)

  pub owned_small : owned_standing limits (stored_owned c o) (stored_table t) ≤ 2
  unfolding owned_standing_rules
  owned_small = own_small _ _

  module _ (z : owned_standing limits (stored_owned c o) (stored_table t) ≡ 0) where
    passed : owned_check limits (stored_owned c o) ≡ Plain Sound
    passed = (owned_stands_well limits (stored_owned c o) (stored_table t) z).0

    pub config_passed : ConfigPassed c
    config_passed = plain_passed limits (stored_owned c o) full passed

    kept : OwnedTable limits (owned_of (stored_owned c o)) (table_of (stored_table t))
    kept = (owned_stands_well limits (stored_owned c o) (stored_table t) z).1

    -- document 01's terminal with the configuration alone stands, too
    plainly_stands : standing limits (stored_config c) (stored_table t) ≡ 0
    unfolding owned_standing_rules standing_rules above_zero all test_of owned_check_table check_table owned_of
    plainly_stands =
        let h = silent_number (owned_standing_rules limits (stored_owned c o) (stored_table t)) refl z in
        let s : is_sound (check limits (stored_config c)) ≡ true = ap is_sound config_passed ∙ sound_is in
        sym (quiet_answer (standing_rules limits (stored_config c) (stored_table t)) 0 (
          not_holds _ s,
          (
            not_holds _
                (whole _ (
                  s,
                  (
                    (parts _ (not-false _ (h 2))).1.0,
                    (parts_sound limits (config_in c) (table_of (stored_table t)) kept.table, tt),
                  ),
                )),
            tt,
          ),
        ))

    pub owned_stood : Stood (owned_steps limits) (stored_owned c o) t
    unfolding owned_of
    owned_stood =
        stood_by (owned_steps limits) refl (stored_owned c o) t c plainly_stands
        (λ qs. (run_by_keeps (owned_refusal limits (owned_of (stored_owned c o)))
        (owned_next limits (owned_of (stored_owned c o))) (OwnedTable limits (owned_of (stored_owned c o)))
        (owned_keeps limits (owned_of (stored_owned c o))) 0 (table_of (stored_table t)) qs kept).table)

-- ---- the sections of a plan that reads whole, and what each of them leaves
module _ (b : List ℕ) (p : OwnedPlan) (t : List ℕ) (e : read_owned limits b ≡ got p t) where
  pub record Sections : Type 0 where
    pub after_marks : List ℕ
    pub after_regions : List ℕ
    pub after_owners : List ℕ
    pub after_zones : List ℕ
    pub marks : (marks_section limits).read b ≡ got p.plan.marks after_marks
    pub regions : (regions_section limits).read after_marks ≡ got p.plan.regions after_regions
    pub owners : (owners_section (length p.plan.regions)).read after_regions ≡ got p.owners after_owners
    pub zones : (zones_section limits).read after_owners ≡ got p.plan.zones after_zones
    pub requests : (requests_section limits).read after_zones ≡ got p.plan.asked []

  pub sections : Sections
  unfolding read_owned
  sections =
      let f0 = file_got (owned_format limits) b p t e in
      let f1 = as_got (sections_with limits (owned_regions limits)) owned_to owned_from (λ x. refl) b p [] f0 in
      let (v1, em, f2) =
      both_got (marks_section limits) (both (owned_regions limits) (both (zones_section limits) (requests_section limits))) b
      p.plan.marks ((p.plan.regions, p.owners), (p.plan.zones, p.plan.asked)) [] f1 in
      let (v3, ef, f3) =
      both_got (owned_regions limits) (both (zones_section limits) (requests_section limits)) v1
      (p.plan.regions, p.owners) (p.plan.zones, p.plan.asked) [] f2 in
      let (v2, er, eo) =
      with_got (regions_section limits) (λ xs. listed 4 (length xs) (length xs) short) v1 p.plan.regions p.owners v3
      ef in
      let (v4, ez, eq) =
      both_got (zones_section limits) (requests_section limits) v3 p.plan.zones p.plan.asked [] f3 in
      record {
        after_marks = v1;
        after_regions = v2;
        after_owners = v3;
        after_zones = v4;
        marks = em;
        regions = er;
        owners = eo;
        zones = ez;
        requests = eq;
      }

  -- ---- where they begin
  after_marks_law : (16 ≤ length b) × (sections.after_marks ≡ drop 16 b)
  after_marks_law = marks_got 2 b p.plan.marks sections.after_marks sections.marks

  regions_read : Listed region_format region_size region_value wide_region 1 most_regions sections.after_marks
      p.plan.regions sections.after_regions
  regions_read =
      list_read_law region_format region_size region_value wide_region 1 most_regions sections.after_marks
      p.plan.regions sections.after_regions sections.regions

  pub marks_within : 16 ≤ length b
  marks_within = after_marks_law.0

  pub regions_at_law : (regions_section limits).read (drop 16 b) ≡ got p.plan.regions sections.after_regions
  regions_at_law = ap (λ (l : List ℕ). (regions_section limits).read l) (sym after_marks_law.1) ∙ sections.regions

  pub owned_at : (owned_regions limits).read (drop 16 b) ≡ got (p.plan.regions, p.owners) sections.after_owners
  unfolding read_with then
  owned_at =
      ap (λ (o : Out (List Region)). then o (λ rs s. then ((owners_section (length rs)).read s) (λ os t. got (rs, os) t)))
      regions_at_law
      ∙ ap (λ (o : Out (List ℕ)). then o (λ os t. got (p.plan.regions, os) t)) sections.owners

  zones_rest : (sections.after_owners ≡ drop (owned_zones_at p) b) × (owned_zones_at p ≤ length b)
  zones_rest =
      let n : ℕ = 4 + length p.plan.regions * region_size in
      let k : ℕ = 4 + length p.owners * 4 in
      let os = numbers_read (length p.plan.regions) sections.after_regions p.owners sections.after_owners
      sections.owners in
      let at : sections.after_regions ≡ drop (16 + n) b =
      regions_read.rest ∙ ap (drop n) after_marks_law.1 ∙ drop-drop n 16 b in (
        os.rest ∙ ap (drop k) at ∙ drop-drop k (16 + n) b,
        omega (
          arith,
          after_marks_law.0,
          ap length after_marks_law.1,
          length-drop 16 b,
          regions_read.there,
          ap length at,
          length-drop (16 + n) b,
          os.there,
        ),
      )

  pub zones_there : owned_zones_at p ≤ length b
  zones_there = zones_rest.1

  pub zones_at_law : (zones_section limits).read (drop (owned_zones_at p) b) ≡ got p.plan.zones sections.after_zones
  zones_at_law = ap (λ (l : List ℕ). (zones_section limits).read l) (sym zones_rest.0) ∙ sections.zones

  -- ---- its base, held against words
  pub owned_same : (c o : List ℕ) → ConfigPassed c
      → owned_held (drop 16 b) p.plan.marks.gic c o ≡ same_owned (owned_of (stored_owned c o)) p
  unfolding owned_held same_owned same_config owners_behind owned_of config_of all_of
  owned_same c o ok =
      ap₂ (λ (x y : Bool). all_of (x ∷ y ∷ []))
      (config_by c (drop 16 b) p.plan.marks.gic p.plan.regions _ ok regions_at_law)
      (ap (owners_behind o) regions_at_law
      ∙ held_owners sections.after_regions (length p.plan.regions) o p.owners _ sections.owners)
      ∙ by (same_config (config_in c) p.plan) refl
    where
      owners : ℕ → Bool
      owners n = same_list eqb (room n 0 o) p.owners

      by : (x : Bool) → same_config (config_in c) p.plan ≡ x
          → all_of (x ∷ owners (length p.plan.regions) ∷ []) ≡ all_of (x ∷ owners (stored_config c).count ∷ [])
      by false h = refl
      by true h =
          ap (λ (n : ℕ). all_of (true ∷ owners n ∷ []))
          (sym (ap length ((same_config_law (config_in c) p.plan).0 h).regions)
          ∙ length_room (stored_config c).count no_region (stored_config c).records)

  pub zones_same : (w : List ℕ) → zones_in w ≡ table_of (stored_table w)
      → table_held (drop (owned_zones_at p) b) w ≡ same_list same_zone (table_of (stored_table w)) p.plan.zones
  zones_same w found = zones_by w (drop (owned_zones_at p) b) p.plan.zones _ found zones_at_law

  -- ---- its requests
  before_requests : Part sections.after_zones b
  unfolding left
  before_requests =
      part_trans sections.after_zones (drop (owned_zones_at p) b) b
      (subst (λ (o : Out (List Zone)). Part (left o) (drop (owned_zones_at p) b)) zones_at_law
      ((lawful_zones limits).part (drop (owned_zones_at p) b)))
      (take (owned_zones_at p) b, sym (take-append-drop (owned_zones_at p) b))

  pub requests_same : requests_in (drop (length b - length p.plan.asked * request_size) b)
      ≡ requests_from p.plan.asked
  requests_same =
      let (w, q) = before_requests in
      (requests_last b w sections.after_zones p.plan.asked q sections.requests).1
