-- Families of terminals: a reader on its own limits goes through what was written for wider ones and stops at the first
-- count above its own; the counts of a plan, each with its place, are rules, and the first that applies is its answer.
use Prim.Native.Nat.{ℕ, zero, suc, ◌+◌, ◌*◌, ◌-◌, ◌^◌, ◌≤◌, ◌<◌}
use native.Mathlib.Omega.{arith}
use mathlib.Core.Bool.{Bool, true, false, cond}
use mathlib.Core.List.{List, [], ◌∷◌, ◌++◌, append_assoc}
use mathlib.Core.Path.{◌≡◌, refl, sym, ap, subst, ◌∙◌}
use borrow.Author.Tests.{leb-true, lt-ltb, le-ltb, eq-eqb, ne_eqb}
use lib.Dec.{ltb, leb}
use lib.ListN.{length, get_or, drop, length-drop, length-replicate}
use Rattle.lists.specs.Rules.{◌when◌, first_rule, numbered, Silent, Rule, Applies}
use Rattle.lists.specs.Tests.{all_of}
use Rattle.lists.specs.Bytes.{bytes_of, Bytes}
use Rattle.lists.proofs.Bytes.{length_bytes}
use Rattle.lists.proofs.Rules.{number_exactly, zero_exactly}
use Rattle.lists.proofs.Tests.{parts}
use Rattle.formats.specs.Formats.{got, bad, then, read_with, read_both, write_both, both, read_as, as_type, write_many, read_headed, write_headed, headed, exactly, read_file, All, Format}
use Rattle.formats.specs.Sizes.{total, along}
use Rattle.formats.proofs.Bounds.{stopped, judged_back, judged_both, judged_as, judged_many, judged_listed, judged_fields, judged_file, stops_at, stops_never, all_joined, all_one, along_within, along_all, Judged}
use Rattle.formats.proofs.Formats.{only_one, count_refused, lawful_number}
use Rattle.formats.proofs.Sizes.{sized_listed}
use Rattle.rules.specs.Applying.{plain, apply_read_by, apply_by, apply_read, apply, Terminal, AppliedOf}
use Rattle.rules.specs.OwnedPlan.{read_owned, owned_steps}
use Rattle.rules.specs.Owners.{owned_standing, StoredOwned}
use Rattle.rules.specs.Limits.{mark_count, limits, Limits, Sayable}
use Rattle.rules.specs.Plan.{short, region_field, asked_field, marks_to, marks_from, marks_section, regions_section, set_format, zone_to, zone_from, zone_format, zones_section, requests_section, plan_to, plan_from, plan_format, read_plan, encode, Short, RegionFits, AskedFits, MarksFit, SetFits, ZoneFits, PlanFits, Asked, Marks, Plan}
use Rattle.rules.specs.Requests.{standing}
use Rattle.rules.specs.Regions.{no_region}
use Rattle.rules.specs.Fields.{short_size, region_size}
use Rattle.rules.specs.Sizes.{marks_size, regions_size, zone_size, plan_size, zones_at, requests_at, zone_with, plan_with}
use Rattle.rules.specs.Tables.{Zone}
use Rattle.rules.specs.declared.Region.{Region}
use Rattle.rules.proofs.Computing.{list_parts, check_parts, table_parts, request_parts, applying_parts}
use Rattle.rules.proofs.Plan.{lawful_region_field, lawful_asked, lawful_marks, read_encoded, no_slack, encoded_bytes}
use Rattle.rules.proofs.Planner.{limits_sayable}
use Rattle.rules.proofs.Sizes.{sized_region, sized_list, sized_marks, sized_set, sized_zone, encoded_length, counts_fit}
use Rattle.promises.specs.Families.{Refuses21, sets_above, counts_above, AboveIsRefused, WithinIsRead, gic_only, MetWith, one_more, AboveIsMet, WithinIsMet, old_limits, ManyRegions, ManyZones, AsBefore, OldTerminalsRefuse, OldTerminalsMeet, OtherCountRefused, OwnedOtherCountRefused, OtherFormatRefused, FormatsAreApart, FormatsShown, WidePagesShown}

-- a terminal that stands well answers what its reader refuses, at its place
refuses : (l : Limits) (s : Terminal) (b t : List ℕ) (place : ℕ) → standing l s.config s.table ≡ 0
    → read_plan l b ≡ bad 21 t → length b - length t ≡ place → Refuses21 l s b place
unfolding apply apply_read
refuses l s b t place st e h =
    ap (λ (c : Bool). cond c (apply_read l s b (read_plan l b))
    (record { outcome = plain (standing l s.config s.table) 0; state = s }))
    (eq-eqb _ 0 st)
    ∙ ap (apply_read l s b) e ∙ (λ i. record { outcome = plain 21 (h i); state = s })

-- ---- what a reader on its own limits makes of a plan that fits others
module _ (own wide : Limits) where
  -- a zone: its id has no count, and each of its sets has one
  zone_judged : (z : Zone) (at : ℕ) → ZoneFits wide z
      → Judged (zone_format own) ((zone_format wide).write z) z at (sets_above own at z)
  unfolding write_both
  zone_judged z at (small, (cpu, iommu)) =
      let set : (xs : List Region) (place : ℕ) → SetFits wide xs → Judged (set_format own) ((set_format wide).write xs) xs place (place when ltb own.in_set (length xs) ∷ []) =
      λ xs place h. judged_fields region_field RegionFits lawful_region_field 4 0 own.in_set wide.in_set xs place h in
      let n : ℕ = regions_size (length z.cpu) in
      let sets : List Region × List Region = (z.cpu, z.iommu) in
      judged_as (both short (both (set_format own) (set_format own))) zone_to zone_from ((zone_format wide).write z)
      (zone_from z) at (sets_above own at z)
      (judged_both short (both (set_format own) (set_format own)) (short.write z.id)
      ((both (set_format wide) (set_format wide)).write sets) z.id sets at short_size [] (sets_above own at z)
      (length_bytes 4 z.id)
      (judged_back short Short (lawful_number 4) z.id small at)
      (judged_both (set_format own) (set_format own) ((set_format wide).write z.cpu) ((set_format wide).write z.iommu)
      z.cpu z.iommu (at + short_size) n ((at + short_size) when ltb own.in_set (length z.cpu) ∷ [])
      ((at + short_size + n) when ltb own.in_set (length z.iommu) ∷ []) (sized_set wide z.cpu)
      (set z.cpu (at + short_size) cpu) (set z.iommu (at + short_size + n) iommu)))

  -- the marks have no limit of their own, and stand alike in one format
  module _ (q : wide.last_marks ≡ own.last_marks) where
    abbrev marked : List ℕ → Format Marks
    marked ms = headed 4 (2 + length ms) (2 + length ms) (λ c. as_type (both short (both short (exactly 4 ms))) marks_to marks_from) (λ m. 2 + length ms)

    marks_judged : (m : Marks) → MarksFit wide m → Judged (marks_section own) ((marks_section wide).write m) m 0 []
    marks_judged m h =
        subst (λ (F : Format Marks). Judged F ((marks_section wide).write m) m 0 []) (ap marked q)
        (judged_back (marks_section wide) (MarksFit wide) (lawful_marks wide) m h 0)

    marks_size_law : (m : Marks) → length ((marks_section wide).write m) ≡ marks_size own
    marks_size_law m = sized_marks wide m ∙ ap (λ (ms : List ℕ). (1 + (2 + length ms)) * short_size) q

  module _ (p : Plan) (fits : PlanFits wide p) (same : wide.last_marks ≡ own.last_marks) where
    abbrev last : List Zone × List Asked
    last = (p.zones, p.asked)

    -- what stands behind the marks, and the counts there
    abbrev behind_marks : Limits → Format (List Region × (List Zone × List Asked))
    behind_marks l = both (regions_section l) (both (zones_section l) (requests_section l))

    behind_judged : Judged (behind_marks own) ((behind_marks wide).write (p.regions, last)) (p.regions, last)
        (marks_size own) (counts_above own p)
    unfolding write_both write_headed counts_above
    behind_judged =
        let after : ℕ = zones_at own p + short_size in
        let sets : List (Rule ℕ) = along zone_size (sets_above own) after p.zones in
        let of_regions : List (Rule ℕ) = marks_size own when ltb own.regions (length p.regions) ∷ [] in
        let of_zones : List (Rule ℕ) = zones_at own p when ltb own.zones (length p.zones) ∷ sets in
        let of_asked : List (Rule ℕ) = requests_at own p when ltb own.requests (length p.asked) ∷ [] in
        judged_both (regions_section own) (both (zones_section own) (requests_section own))
        ((regions_section wide).write p.regions) _ p.regions last (marks_size own)
        (regions_size (length p.regions)) of_regions (of_zones ++ of_asked)
        (sized_list 1 wide.regions region_size region_field sized_region p.regions)
        (judged_fields region_field RegionFits lawful_region_field 4 1 own.regions wide.regions
        p.regions (marks_size own) fits.1.0)
        (judged_both (zones_section own) (requests_section own) ((zones_section wide).write p.zones)
        ((requests_section wide).write p.asked) p.zones p.asked (zones_at own p)
        (short_size + total zone_size p.zones) of_zones of_asked
        (sized_listed (zone_format wide) zone_size (sized_zone wide) 4 0 wide.zones p.zones)
        (judged_listed (zone_format own) 4 0 own.zones p.zones (write_many (zone_format wide) p.zones)
        (zones_at own p) sets fits.1.1.0.said fits.1.1.0.least
        (judged_many (zone_format own) (zone_format wide) (ZoneFits wide) zone_size (sets_above own)
        (sized_zone wide) zone_judged p.zones after fits.1.1.0.fits.1))
        (judged_fields asked_field AskedFits lawful_asked 4 0 own.requests wide.requests p.asked (requests_at own p)
        fits.1.1.1))

    plan_judged : Judged (plan_format own) ((plan_format wide).write p) p 0 (counts_above own p)
    unfolding write_both
    plan_judged =
        let w : List ℕ = (behind_marks wide).write (p.regions, last) in
        let start : marks_size own ≡ 0 + marks_size own = omega arith in
        judged_as (both (marks_section own) (behind_marks own)) plan_to plan_from ((plan_format wide).write p) (plan_from p) 0
        (counts_above own p)
        (judged_both (marks_section own) (behind_marks own) ((marks_section wide).write p.marks) w p.marks
        (p.regions, last) 0 (marks_size own) [] (counts_above own p)
        (marks_size_law same p.marks) (marks_judged same p.marks fits.0)
        (subst (λ (at : ℕ). Judged (behind_marks own) w (p.regions, last) at (counts_above own p)) start behind_judged))

    -- every count stands within the plan
    counts_within : All (λ (r : Rule ℕ). r.0 ≤ plan_size own p) (counts_above own p)
    unfolding counts_above plan_size
    counts_within =
        let sets = along_within zone_size (sets_above own) (plan_size own p) (λ at z h. (omega arith, (omega arith, tt))) (zones_at own p + short_size) p.zones (omega arith) in (
          omega arith,
          (
            omega arith,
            all_joined _ (along zone_size (sets_above own) (zones_at own p + short_size) p.zones) _ sets
                (omega arith, tt),
          ),
        )

  module _ (b : List ℕ) (p : Plan) (h : Bytes b) (e : read_plan wide b ≡ got p [])
      (same : wide.last_marks ≡ own.last_marks) where
    read_as_law : read_plan own b ≡ stopped b (counts_above own p) (got p [])
    unfolding read_plan encode
    read_as_law =
        let (w, f) = no_slack wide b p [] h e in
        rw w (judged_file (plan_format own) (encode wide p) p (counts_above own p) (plan_judged p f same))

  planned_alike : (p : Plan) → wide.last_marks ≡ own.last_marks → plan_size wide p ≡ plan_size own p
  unfolding plan_size
  planned_alike p q = omega (arith, ap length q)

  pub above_is_refused : AboveIsRefused own wide
  above_is_refused s b p m k a =
      let (w, f) = no_slack wide b p [] m.bytes m.reads in
      let place : ℕ = (get_or (counts_above own p) k (0 when false)).0 in
      let inside : place ≤ plan_size own p = all_one _ (counts_above own p) (0 when false) (counts_within p f m.format) k a.there in
      let size : plan_size wide p ≡ plan_size own p = planned_alike p m.format in
      refuses own s b (drop place b) place m.stands
      (read_as_law b p m.bytes m.reads m.format ∙ stops_at b (0 when false) (got p []) (counts_above own p) k a)
      (omega (arith, length-drop place b, ap length w, encoded_length wide p, size))

  pub within_is_read : WithinIsRead own wide
  within_is_read s b p m q =
      read_as_law b p m.bytes m.reads m.format ∙ stops_never b (0 when false) (got p []) (counts_above own p) q

-- ---- there are such
-- a plan with so many of each, within the wider limits, at the terminal with the GIC only
module _ (own wide : Limits) (stands : standing own (gic_only own).config (gic_only own).table ≡ 0) (say : Sayable wide)
    (same : wide.last_marks ≡ own.last_marks) (r z c i q : ℕ) where
  abbrev few : List Bool
  few =
      leb 1 r ∷ leb r wide.regions ∷ leb z wide.zones ∷ leb c wide.in_set ∷ leb i wide.in_set
      ∷ leb q wide.requests ∷ []

  abbrev plan : Plan
  plan = plan_with r z c i q

  abbrev above : List (Rule ℕ)
  above = counts_above own plan

  met : (P : Plan → Type 0) → all_of few ≡ true → P plan → MetWith own wide P
  met P h k =
      let (one, (mr, (mz, (mc, (mi, (mq, _)))))) = parts few h in
      let f : PlanFits wide plan = counts_fit wide say r z c i q (leb-true _ _ one) (leb-true _ _ mr) (leb-true _ _ mz) (leb-true _ _ mc) (leb-true _ _ mi) (leb-true _ _ mq) in (
        encode wide plan,
        plan,
        record { stands = stands; bytes = encoded_bytes wide plan; reads = read_encoded wide plan f; format = same },
        k,
      )

  -- the first count above the limits is the one at place k, as the places show; or there is none
  met_above : (k : ℕ) → all_of few ≡ true → numbered above ≡ true → k < length above
      → first_rule above 0 ≡ (get_or above k (0 when false)).0
      → MetWith own wide (λ p. Applies (counts_above own p) (0 when false) k)
  met_above k h apart there e = met _ h ((number_exactly above (0 when false) apart k there).0 e)

  met_within : all_of few ≡ true → numbered above ≡ true → first_rule above 0 ≡ 0
      → MetWith own wide (λ p. Silent (counts_above own p) (0 when false))
  met_within h apart e = met _ h ((zero_exactly above (0 when false) apart).0 e)

-- on the document's limits
stands_now : standing limits (gic_only limits).config (gic_only limits).table ≡ 0
unfolding table_parts
stands_now = refl

abbrev more : Limits
more = one_more limits

more_sayable : Sayable more
more_sayable = record { guest_reach = omega arith; phys_reach = omega arith; regions = omega arith; zones = omega arith; in_set = omega arith; requests = omega arith; mark_count = omega arith; last_marks = (omega arith, tt) }

pub above_is_met : AboveIsMet
unfolding counts_above along total numbered list_parts
above_is_met zero h = met_above limits more stands_now more_sayable refl more.regions 1 0 0 0 0 refl refl (omega arith) refl
above_is_met (suc zero) h = met_above limits more stands_now more_sayable refl 1 more.zones 0 0 0 1 refl refl (omega arith) refl
above_is_met (suc (suc zero)) h = met_above limits more stands_now more_sayable refl 1 1 more.in_set 0 0 2 refl refl (omega arith) refl
above_is_met (suc (suc (suc zero))) h = met_above limits more stands_now more_sayable refl 1 1 0 more.in_set 0 3 refl refl (omega arith) refl
above_is_met (suc (suc (suc (suc zero)))) h = met_above limits more stands_now more_sayable refl 1 1 0 0 more.requests 4 refl refl (omega arith) refl
above_is_met (suc (suc (suc (suc (suc k))))) h = absurd (omega arith)

pub within_is_met : WithinIsMet
unfolding counts_above along total numbered list_parts
within_is_met = met_within limits more stands_now more_sayable refl 1 1 0 0 0 refl refl refl

-- ---- terminals on the old limits
-- sets and requests have the limits that they had, so a count above the old ones is that of the regions or of the zones
old_silent : (p : Plan) → PlanFits limits p → AsBefore p → Silent (counts_above old_limits p) (0 when false)
unfolding counts_above
old_silent p (marks, (regions, (zones, asked))) (r, z) =
    let no : Rule ℕ → Type 0 = λ (q : Rule ℕ). q.1 ≡ false in
    let sets = along_all zone_size (sets_above old_limits) (ZoneFits limits) no (λ at x h. (le-ltb _ _ h.1.0.most, (le-ltb _ _ h.1.1.most, tt))) (zones_at old_limits p + short_size) p.zones zones.fits.1 in
    let of_asked : List (Rule ℕ) = requests_at old_limits p when ltb old_limits.requests (length p.asked) ∷ [] in
    all_one no (counts_above old_limits p) (0 when false) (
      le-ltb _ _ r,
      (le-ltb _ _ z, all_joined no (along zone_size (sets_above old_limits) (zones_at old_limits p + short_size) p.zones) of_asked sets (le-ltb _ _ asked.most, tt)),
    )

pub old_terminals_refuse : OldTerminalsRefuse
unfolding counts_above
old_terminals_refuse s b p m =
    let refused = above_is_refused old_limits limits s b p m in
    let behind : zones_at old_limits p ≡ 20 + length p.regions * region_size = omega arith in (
      λ r. refused 0 (record { there = omega arith; holds = lt-ltb _ _ r; earlier = λ j l. absurd (omega arith) }),
      λ (r, z). subst (Refuses21 old_limits s b) behind
          (refused 1 (record { there = omega arith; holds = lt-ltb _ _ z; earlier = λ j l. first r j l })),
      λ h. within_is_read old_limits limits s b p m (old_silent p (no_slack limits b p [] m.bytes m.reads).1 h),
    )
  where
    first : length p.regions ≤ old_limits.regions → (j : ℕ) → j < 1 → (get_or (counts_above old_limits p) j (0 when false)).1 ≡ false
    first r zero l = le-ltb _ _ r
    first r (suc j) l = absurd (omega arith)

stood : standing old_limits (gic_only old_limits).config (gic_only old_limits).table ≡ 0
unfolding table_parts
stood = refl

pub old_terminals_meet : OldTerminalsMeet
unfolding list_parts
old_terminals_meet =
    let meet = met old_limits limits stood limits_sayable refl in (
      meet (old_limits.regions + 1) 0 0 0 0 ManyRegions refl (omega (arith, length-replicate (old_limits.regions + 1) no_region)),
      meet 1 (old_limits.zones + 1) 0 0 0 ManyZones refl (omega arith, omega (arith, length-replicate (old_limits.zones + 1) (zone_with 0 0))),
      meet 1 0 0 0 0 AsBefore refl (omega arith, omega arith),
    )

-- ---- formats
module _ (l : Limits) where
  -- what another count of marks is refused with, whatever stands behind it
  other_read : (n : ℕ) (b : List ℕ) → n < 256 ^ 4 → (n ≡ mark_count l → ⊥)
      → read_plan l (bytes_of 4 n ++ b) ≡ bad 21 (bytes_of 4 n ++ b)
  unfolding read_plan read_file read_as read_both read_headed then
  other_read n b h ne =
      rw (count_refused 4 (mark_count l) (mark_count l) n b h (only_one (mark_count l) n ∙ ne_eqb n (mark_count l) ne))

  pub other_count_refused : OtherCountRefused l
  other_count_refused s n b st h ne =
      refuses l s (bytes_of 4 n ++ b) (bytes_of 4 n ++ b) 0 st (other_read n b h ne) (omega arith)

-- with owners
module _ (l : Limits) where
  owned_other_read : (n : ℕ) (b : List ℕ) → n < 256 ^ 4 → (n ≡ mark_count l → ⊥)
      → read_owned l (bytes_of 4 n ++ b) ≡ bad 21 (bytes_of 4 n ++ b)
  unfolding read_owned read_file read_as read_both read_with read_headed then
  owned_other_read n b h ne =
      rw (count_refused 4 (mark_count l) (mark_count l) n b h (only_one (mark_count l) n ∙ ne_eqb n (mark_count l) ne))

  pub owned_other_count_refused : OwnedOtherCountRefused l
  unfolding apply_by apply_read_by
  owned_other_count_refused s n b st h ne =
      let w : List ℕ = bytes_of 4 n ++ b in
      let own : AppliedOf StoredOwned = record { outcome = plain (owned_standing l s.config s.table) 0; state = s } in
      ap (λ (c : Bool). cond c (apply_read_by (owned_steps l) s w (read_owned l w)) own) (eq-eqb _ 0 st)
      ∙ ap (apply_read_by (owned_steps l) s w) (owned_other_read n b h ne)
      ∙ (λ i. record { outcome = plain 21 (none_left (length w) i); state = s })
    where
      none_left : (k : ℕ) → k - k ≡ 0
      none_left k = omega arith

pub other_format_refused : (own other : Limits) → OtherFormatRefused own other
unfolding encode write_both write_headed
other_format_refused own other ne s b p st h e =
    let (w, f) = no_slack other b p [] h e in
    subst (λ (x : List ℕ). Refuses21 own s x 0) (sym w)
    (subst (λ (x : List ℕ). Refuses21 own s x 0) (sym (append_assoc (bytes_of 4 (mark_count other)) _ _))
    (other_count_refused own s (mark_count other) _ st f.0.said ne))

pub formats_are_apart : FormatsAreApart
formats_are_apart first second f g =
    let two : mark_count first ≡ 2 = ap (λ (ms : List ℕ). 2 + length ms) f in
    let three : mark_count second ≡ 3 = ap (λ (ms : List ℕ). 2 + length ms) g in record {
      new = λ s b st. other_count_refused second s 2 b st (omega arith) (λ e. omega (arith, three));
      old = λ s b st. other_count_refused first s 3 b st (omega arith) (λ e. omega (arith, two));
      whole_first = other_format_refused second first (λ e. omega (arith, two, three));
      whole_second = other_format_refused first second (λ e. omega (arith, two, three));
    }

pub formats_shown : FormatsShown
unfolding applying_parts
formats_shown = (refl, refl, refl, refl, refl)

pub wide_pages_shown : WidePagesShown
unfolding check_parts request_parts
wide_pages_shown = (refl, refl, refl, refl)
