-- Terminals with owners: their rules are the first machine's with one test widened, and their lines likewise; what holds
-- of every proper step rule holds of theirs.
use Prim.Native.Nat.{ℕ, suc, ◌≤◌, ◌<◌}
use native.Mathlib.Omega.{arith}
use mathlib.Core.Bool.{Bool, true, false, cond, ◌&&◌, ◌||◌, true≢false}
use mathlib.Core.List.{List, [], ◌∷◌, map}
use mathlib.Core.Logic.{◌⊎◌, inl, inr, ⊎_elim}
use mathlib.Core.Path.{◌≡◌, refl, sym, ap, subst, ◌∙◌}
use borrow.Author.Tests.{eqb-true, eqb-false, eq-eqb, not-false}
use lib.Dec.{eqb}
use lib.ListN.{length, get_or}
use Rattle.lists.specs.First.{all}
use Rattle.lists.specs.Lines.{Line}
use Rattle.lists.specs.Room.{room}
use Rattle.lists.specs.Rules.{Rule, ◌when◌, first_rule}
use Rattle.lists.proofs.Every.{all_at, all_make}
use Rattle.lists.proofs.Lines.{Tells, tells_not, first_of, all as no_more, ◌and◌, Matches}
use Rattle.lists.proofs.Room.{length_room, room_take, room_back}
use Rattle.lists.proofs.Rules.{Quiet, quiet, test_of, above_zero, numbers_tell, quiet_answer, silent_number, stage_skip}
use Rattle.lists.proofs.Runs.{run_keeps}
use Rattle.lists.proofs.Tests.{one_true, or_left, or_right, both_true, true_both, parts, whole}
use Rattle.formats.specs.Formats.{got, bad, both, read_many, read_count, read_headed, listed, read_file, All, Format, Out}
use Rattle.formats.proofs.Formats.{then_got, count_got, many_got, listed_got, with_got, both_got, as_got, file_got}
use Rattle.rules.specs.Applying.{plain, base_rules, plan_config, judged_by, apply_read_by, apply_by, base_by, answer_read_by}
use Rattle.rules.specs.Applying.{answer_alone_by, ForBaseBy, TerminalOf}
use Rattle.rules.specs.Changes.{region_set}
use Rattle.rules.specs.Configuration.{gic_of, config_of, is_sound, Configuration}
use Rattle.rules.specs.Limits.{Limits}
use Rattle.rules.specs.OwnedPlan.{owned_regions, owned_to, owned_from, owned_format, read_owned, owned_steps, OwnedPlan}
use Rattle.rules.specs.OwnedSizes.{longest_owned_size, owned_with}
use Rattle.rules.specs.Owners.{owned_of, owned_check, is_owned_sound, owned_sound, owned_check_table, may_hold, holds_own}
use Rattle.rules.specs.Owners.{stranger, eleven_too, eleven_over, owned_rules, owned_refusal, owned_next, owned_standing_rules}
use Rattle.rules.specs.Owners.{owned_standing, owned_answer, owned_run, owned_run_answer, owned_translated, owner_of, Owned}
use Rattle.rules.specs.Owners.{StoredOwned}
use Rattle.rules.specs.Plan.{short, region_field, marks_section, regions_section, zone_format, zones_section, requests_section}
use Rattle.rules.specs.Plan.{sections_with, requests_from, Asked}
use Rattle.rules.specs.Regions.{region_eq, no_region}
use Rattle.rules.specs.Requests.{find, request_rules, refusal, next}
use Rattle.rules.specs.Run.{run_by, run_from, ended, Run}
use Rattle.rules.specs.Tables.{no_zone, side_of, table_of, check_table, Zone, StoredTable}
use Rattle.rules.specs.Translation.{translation_rules, translated_as, translation, covering_in}
use Rattle.rules.specs.declared.Checked.TheVariants.{Sound}
use Rattle.rules.specs.declared.Kind.{Kind}
use Rattle.rules.specs.declared.Kind.TheVariants.{AddZone, RemoveZone, Insert, Remove, NoRequest}
use Rattle.rules.specs.declared.OwnedChecked.TheVariants.{Plain}
use Rattle.rules.specs.declared.Outcome.{Outcome}
use Rattle.rules.specs.declared.Region.{Region}
use Rattle.rules.specs.declared.Request.{Request}
use Rattle.rules.specs.declared.Side.{Side}
use Rattle.rules.specs.declared.Side.TheVariants.{Cpu, Iommu}
use Rattle.rules.proofs.Applying.{outcome_by}
use Rattle.rules.proofs.Configuration.{sound_is}
use Rattle.rules.proofs.Keeps.{sound_parts, parts_sound, SoundTable}
use Rattle.rules.proofs.OwnedCheck.{owned_sound_is, owned_sound_answer, plain_passed, owned_passed}
use Rattle.rules.proofs.OwnedNever.{no_twelve, no_fourteen}
use Rattle.rules.proofs.OwnedOver.{owned_over}
use Rattle.rules.proofs.OwnedPlan.{read_encoded_owned, no_slack_owned, owned_ends, owned_refuses, owned_fits}
use Rattle.rules.proofs.OwnedPlan.{same_owned_law, lawful_owned}
use Rattle.rules.proofs.OwnedPlan.{owned_stands_well, owned_stored_stands}
use Rattle.rules.proofs.OwnedSizes.{least_owned, most_owned, whole_owned, owned_counts_length, owned_counts_fit}
use Rattle.rules.proofs.OwnedSizes.{owned_past}
use Rattle.rules.proofs.Owners.{first_accepts, same_next, owned_parts_law, parts_owned, owned_keeps, OwnedTable}
use Rattle.rules.proofs.Regions.{equal_same, equal_refl}
use Rattle.rules.proofs.Sections.{sets_few}
use Rattle.rules.proofs.Stored.{config_back, zones_back, SetsFew}
use Rattle.promises.specs.Owned.{FirstAccepts, FirstRuns, OverTheFirst, IsInsert, OthersAsTheFirst, SoundThere}
use Rattle.promises.specs.Owned.{MayHold, Stranger, eleven_line, OwnedRefusalIsExact, OwnedKeepsSound}
use Rattle.promises.specs.Owned.{OwnedRunKeepsSound, OwnedEmptyIsSound, NoTwelveNoFourteen, HoldsOwn}
use Rattle.promises.specs.Owned.{OwnedTableCheckIsExact, OwnedStandingIsInside, OwnedPlansReadBack}
use Rattle.promises.specs.Owned.{OwnedPlansAreTight, OwnedPlanLengths, OwnedIsProper, OwnedPassedIsGood}
use Rattle.promises.specs.Owned.{Neither, NeverTwelveNorFourteen, OwnedStandsThere, FirstAnswers, FirstTranslates}
use Rattle.promises.specs.Owned.{owned_outside, OwnedAnswersAreExact, OwnedTerminals, OwnedWriter}
use Rattle.promises.specs.Answers.{Stands}
use Rattle.promises.specs.Steps.{run_of_by}
use Rattle.promises.proofs.Answers.{tells_kind, tells_lt, kind_matches, none_told, standing_is_inside}
use Rattle.promises.proofs.Outside.{answer_is_exact_by, translated_is_exact_by, run_answer_is_exact_by}
use Rattle.promises.proofs.Outside.{apply_is_exact_by, alone_is_exact_by, never_alone_by, answered_stands, Honest}
use Rattle.promises.proofs.Steps.{refusal_stays_by, configuration_stays_by, apply_keeps_sound_by}
use Rattle.promises.proofs.Steps.{accepted_is_plan_by, plan_is_accepted_by, past_the_longest_by, steps_follow}
use Rattle.promises.proofs.Steps.{equal_editions_by, lower_is_behind_by, never_ahead_by}
use Rattle.promises.proofs.Tables.{empty_is_sound, table_check_is_exact}
use Rattle.promises.proofs.Writing.{refusal_leaves_buffer_by, success_fills_by, writes_when_may_ask_by}
use Rattle.promises.proofs.Writing.{written_is_accepted_by, accepted_is_written_by}

-- ---- what a zone may hold
is_iommu : Side → Bool
is_iommu Cpu = false
is_iommu Iommu = true

tells_may : (o : Owned) (id : ℕ) (s : Side) (r : Region) → Tells (may_hold o id s r) (MayHold o id s r)
unfolding may_hold is_iommu
tells_may o id Cpu r = (
  (λ e. inl (eqb-true _ _ e)),
  ⊎_elim (λ e. eq-eqb _ _ e) (λ (q, g). absurd (true≢false (sym (ap is_iommu q)))),
)
tells_may o id Iommu r = (
  (λ e. ⊎_elim (λ a. inl (eqb-true _ _ a)) (λ b. inr (refl, equal_same r (gic_of o.config) b)) (one_true _ _ e)),
  ⊎_elim (λ e. or_left _ _ (eq-eqb _ _ e))
      (λ (q, g). or_right (eqb (owner_of o r) id) _ (ap (region_eq r) (sym g) ∙ equal_refl r)),
)

tells_stranger : (o : Owned) (k : Kind) (id : ℕ) → Tells (stranger o k id) (Stranger o k id)
unfolding stranger
tells_stranger o AddZone id = ((λ e. true≢false (sym e)), λ b. absurd b)
tells_stranger o RemoveZone id = ((λ e. true≢false (sym e)), λ b. absurd b)
tells_stranger o (Insert s r) id = tells_not _ _ (tells_may o id s r)
tells_stranger o (Remove s r) id = ((λ e. true≢false (sym e)), λ b. absurd b)
tells_stranger o NoRequest id = ((λ e. true≢false (sym e)), λ b. absurd b)

-- rules and lines of which one is wider
wider_matches : (b : Bool) (S : Type 0) → Tells b S → (rs : List (Rule ℕ)) (ks : List (Line ℕ)) → Matches rs ks
    → Matches (map (eleven_too b) rs) (map (eleven_line S) ks)
unfolding eleven_too
wider_matches b S f rs ks no_more = no_more
wider_matches b S f rs ks (◌and◌ {a = a} {t = t} {P = P} {rs = rs'} {ks = ks'} h m) =
    wider and wider_matches b S f rs' ks' m
  where
    wider : Tells (t || (eqb a 11 && b)) (P ⊎ ((a ≡ 11) × S))
    wider = (
      (λ e. ⊎_elim (λ x. inl (h.0 x))
          (λ y. let (q, g) = both_true (eqb a 11) b y in inr (eqb-true _ _ q, f.0 g)) (one_true t (eqb a 11 && b) e)),
      ⊎_elim (λ p. or_left t _ (h.1 p))
          (λ (q, s). or_right t (eqb a 11 && b) (true_both (eqb a 11) b (eq-eqb _ _ q) (f.1 s))),
    )

module _ (lim : Limits) where
  -- ---- beside the first machine
  pub first_accepts_it : FirstAccepts lim
  first_accepts_it o t q e = (first_accepts lim o t q e, same_next lim o t q e)

  runs_there : (o : Owned) (i : ℕ) (t : List Zone) (qs : List Request)
      → (run_by (owned_refusal lim o) (owned_next lim o) i t qs).inner ≡ 0
      → run_by (refusal lim o.config) (next lim o.config) i t qs
      ≡ run_by (owned_refusal lim o) (owned_next lim o) i t qs
  unfolding run_by
  runs_there o i t [] e = refl
  runs_there o i t (q ∷ qs) e = by (eqb (owned_refusal lim o t q) 0) refl e (runs_there o (suc i) (owned_next lim o t q) qs)
    where
      there : List Zone → Run
      there u = run_by (refusal lim o.config) (next lim o.config) (suc i) u qs

      here : Run
      here = run_by (owned_refusal lim o) (owned_next lim o) (suc i) (owned_next lim o t q) qs

      stop : ℕ → Run
      stop n = record { place = i; inner = n; table = t }

      by : (b : Bool) → eqb (owned_refusal lim o t q) 0 ≡ b → (cond b here (stop (owned_refusal lim o t q))).inner ≡ 0
          → (here.inner ≡ 0 → there (owned_next lim o t q) ≡ here)
          → cond (eqb (refusal lim o.config t q) 0) (there (next lim o.config t q))
          (stop (refusal lim o.config t q))
          ≡ cond b here (stop (owned_refusal lim o t q))
      by true h e f =
          let z : owned_refusal lim o t q ≡ 0 = eqb-true _ _ h in
          ap (λ (b : Bool). cond b (there (next lim o.config t q)) (stop (refusal lim o.config t q)))
          (eq-eqb _ 0 (first_accepts lim o t q z))
          ∙ ap there (sym (same_next lim o t q z)) ∙ f e
      by false h e f = absurd (eqb-false _ _ h e)

  pub first_runs : FirstRuns lim
  unfolding run_from
  first_runs o t qs e = runs_there o 0 t qs e

  pub over_the_first : OverTheFirst lim
  over_the_first o t q = owned_over lim o t q

  pub others_as_the_first : OthersAsTheFirst lim
  unfolding eleven_over stranger
  others_as_the_first o t q not-insert =
      owned_over lim o t q
      ∙ ap (λ (b : Bool). eleven_over b (refusal lim o.config t q)) (by q.kind not-insert)
    where
      by : (k : Kind) → (IsInsert k → ⊥) → stranger o k q.zone ≡ false
      by AddZone n = refl
      by RemoveZone n = refl
      by (Insert s r) n = absurd (n (s, r, refl))
      by (Remove s r) n = refl
      by NoRequest n = refl

  pub sound_there : SoundThere lim
  sound_there o t e = parts_sound lim o.config t (owned_parts_law lim o t e).table

  -- ---- requests
  pub owned_refusal_is_exact : OwnedRefusalIsExact lim
  unfolding owned_refusal owned_rules request_rules
  owned_refusal_is_exact o t q =
      first_of 0 (λ n. 0 ≡ n)
      (wider_matches (stranger o q.kind q.zone) (Stranger o q.kind q.zone)
      (tells_stranger o q.kind q.zone) _ _
      (tells_kind q.kind and tells_lt _ _ and kind_matches lim o.config t q.zone q.kind))
      (λ none n. ((λ e. e), λ e. e))

  pub owned_keeps_sound : OwnedKeepsSound lim
  owned_keeps_sound o t q e = parts_owned lim o (owned_next lim o t q) (owned_keeps lim o t q (owned_parts_law lim o t e))

  pub owned_run_keeps_sound : OwnedRunKeepsSound lim
  owned_run_keeps_sound o t qs e =
      run_keeps (owned_next lim o) (λ u. owned_sound lim o u ≡ true) (owned_keeps_sound o) t qs e

  empty_parts : (o : Owned) → OwnedTable lim o []
  unfolding all
  empty_parts o = record { table = sound_parts lim o.config [] (empty_is_sound lim o.config); own = refl }

  pub owned_empty_is_sound : OwnedEmptyIsSound lim
  owned_empty_is_sound o = parts_owned lim o [] (empty_parts o)

  pub no_twelve_no_fourteen : NoTwelveNoFourteen lim
  no_twelve_no_fourteen s t q (full, long, e) ok =
      let good = owned_passed lim s full e in
      let tab = owned_parts_law lim (owned_of s) t ok in
      (no_twelve lim (owned_of s) good t tab q, no_fourteen lim (owned_of s) good t tab q)

  -- the numbers of a run are those of requests at sound tables; 0, 1 and 2 are neither
  neither : (n : ℕ) → n < 12 → Neither n
  neither n h = ((λ e. omega arith), λ e. omega arith)

  module _ (c : StoredOwned) (full : length c.config.records ≡ lim.regions) where
    run_tells_neither : (i : ℕ) (t : List Zone) (qs : List Request) → owned_check lim c ≡ Plain Sound
        → OwnedTable lim (owned_of c) t
        → Neither (run_by (owned_refusal lim (owned_of c)) (owned_next lim (owned_of c)) i t qs).inner
    unfolding run_by
    run_tells_neither i t [] e tab = neither 0 (omega arith)
    run_tells_neither i t (q ∷ qs) e tab =
        let o : Owned = owned_of c in
        let good = owned_passed lim c full e in
        by (run_by (owned_refusal lim o) (owned_next lim o) (suc i) (owned_next lim o t q) qs)
        (record { place = i; inner = owned_refusal lim o t q; table = t })
        (run_tells_neither (suc i) (owned_next lim o t q) qs e (owned_keeps lim o t q tab))
        (no_twelve lim o good t tab q, no_fourteen lim o good t tab q) (eqb (owned_refusal lim o t q) 0)
      where
        by : (a b : Run) → Neither a.inner → Neither b.inner → (x : Bool) → Neither (cond x a b).inner
        by a b f g true = f
        by a b f g false = g

    stands_tells_neither : (t : StoredTable) (qs : List Request) → owned_standing lim c t ≡ 0
        → Neither (owned_run lim (owned_of c) (table_of t) qs).inner
    stands_tells_neither t qs z = let (e, tab) = owned_stands_well lim c t z in run_tells_neither 0 (table_of t) qs e tab

  -- ---- tables
  own_means : (o : Owned) (t : List Zone) → all (holds_own o) t ≡ true → HoldsOwn o t
  unfolding holds_own side_of
  own_means o t e z h Cpu r (i, l, q) =
      let y : Zone = get_or t z no_zone in
      (tells_may o y.id Cpu r).0 (ap (may_hold o y.id Cpu) (sym q)
      ∙ all_at (may_hold o y.id Cpu) y.cpu no_region (parts _ (all_at (holds_own o) t no_zone e z h)).0 i l)
  own_means o t e z h Iommu r (i, l, q) =
      let y : Zone = get_or t z no_zone in
      (tells_may o y.id Iommu r).0 (ap (may_hold o y.id Iommu) (sym q)
      ∙ all_at (may_hold o y.id Iommu) y.iommu no_region (parts _ (all_at (holds_own o) t no_zone e z h)).1.0 i l)

  means_own : (o : Owned) (t : List Zone) → HoldsOwn o t → all (holds_own o) t ≡ true
  unfolding holds_own side_of
  means_own o t f =
      all_make (holds_own o) t no_zone (λ z h.
      let y : Zone = get_or t z no_zone in
      whole _ (
        all_make (may_hold o y.id Cpu) y.cpu no_region
            (λ i l. (tells_may o y.id Cpu _).1 (f z h Cpu (get_or y.cpu i no_region) (i, l, refl))),
        (
          all_make (may_hold o y.id Iommu) y.iommu no_region
              (λ i l. (tells_may o y.id Iommu _).1 (f z h Iommu (get_or y.iommu i no_region) (i, l, refl))),
          tt,
        ),
      ))

  pub owned_table_check_is_exact : OwnedTableCheckIsExact lim
  unfolding owned_check_table check_table owned_sound owned_of
  owned_table_check_is_exact c t full = (
    (λ e. let h = parts _ e in
        let w = parts _ h.1.1.0 in
        let ok : owned_check lim c ≡ Plain Sound = owned_sound_answer _ h.0 in (
          ok,
          whole _ (ap is_sound (plain_passed lim c full ok) ∙ sound_is, (h.1.0, (w.0, tt))),
          own_means (owned_of c) (table_of t) w.1.0,
        )),
    (λ (ok, e, own). let h = parts _ e in
        whole _ (
          ap is_owned_sound ok ∙ owned_sound_is,
          (h.1.0, (whole _ (h.1.1.0, (means_own (owned_of c) (table_of t) own, tt)), tt)),
        )),
  )

  standing_quiet : (c : StoredOwned) (t : StoredTable) → owned_standing lim c t ≡ 0 → Quiet (owned_standing_rules lim c t)
  unfolding owned_standing_rules above_zero all
  standing_quiet c t e =
      quiet (owned_standing_rules lim c t) 0 (numbers_tell (owned_standing_rules lim c t) refl) e

  pub owned_standing_is_inside : OwnedStandingIsInside lim
  unfolding owned_answer owned_run_answer owned_translated translation owned_standing_rules above_zero all
  owned_standing_is_inside c t z = record {
    request =
        λ q. sym (quiet_answer (owned_standing_rules lim c t) (owned_refusal lim (owned_of c) (table_of t) q)
        (standing_quiet c t z));
    address = λ id s a.
        let rs = translation_rules (table_of t) id s a.0 in
        ap (λ (n : ℕ). translated_as n a.0 (covering_in a.0 (region_set (table_of t) (find id (table_of t)) s)))
        (sym (stage_skip (owned_standing_rules lim c t) rs (first_rule rs 0) 0 0
        (numbers_tell (owned_standing_rules lim c t) refl) (sym z) refl refl));
    requests =
        λ qs. ap (λ (b : Bool). cond b (ended (owned_run lim (owned_of c) (table_of t) qs))
        (record { number = owned_standing lim c t; place = 0; inner = 0 })) (eq-eqb _ 0 z);
  }

  -- ---- 12 and 14 from outside
  -- behind 1 and 2
  behind_standing : (u v : Bool) (n : ℕ) → (◌≡◌ {A = ℕ} (first_rule (1 when u ∷ 2 when v ∷ []) 0) 0 → Neither n)
      → Neither (first_rule (1 when u ∷ 2 when v ∷ []) n)
  unfolding first_rule
  behind_standing true v n f = neither 1 (omega arith)
  behind_standing false true n f = neither 2 (omega arith)
  behind_standing false false n f = f refl

  -- behind 23 to 26
  behind_base : (u v w x : Bool) (o : Outcome) → Neither o.inner
      → Neither (first_rule (plain 23 0 when u ∷ plain 24 0 when v ∷ plain 25 0 when w ∷ plain 26 0 when x ∷ []) o).inner
  unfolding first_rule
  behind_base true v w x o f = neither 0 (omega arith)
  behind_base false true w x o f = neither 0 (omega arith)
  behind_base false false true x o f = neither 0 (omega arith)
  behind_base false false false true o f = neither 0 (omega arith)
  behind_base false false false false o f = f

  module _ (s : TerminalOf StoredOwned) (b : List ℕ) (full : length s.config.config.records ≡ lim.regions)
      (z : owned_standing lim s.config s.table ≡ 0) where
    read_tells_neither : (o : Out OwnedPlan) → Neither (apply_read_by (owned_steps lim) s b o).outcome.inner
    unfolding apply_read_by base_rules ended
    read_tells_neither (bad k t) = neither 0 (omega arith)
    read_tells_neither (got p t) =
        let r : Run = run_of_by (owned_steps lim) s p in
        let j : Outcome = judged_by (owned_steps lim) s p r in
        subst (λ (o : Outcome). Neither o.inner) (sym (outcome_by lim s j r))
        (behind_base _ _ _ _ (ended r)
        (stands_tells_neither s.config full s.table (requests_from p.plan.asked) z))

  request_tells_neither : (c : StoredOwned) (t : StoredTable) (q : Request) → length c.config.records ≡ lim.regions
      → Neither (owned_answer lim c t q)
  unfolding owned_answer owned_standing_rules
  request_tells_neither c t q full =
      behind_standing _ _ (owned_refusal lim (owned_of c) (table_of t) q) (λ z.
      let (e, tab) = owned_stands_well lim c t z in
      let good = owned_passed lim c full e in
      (no_twelve lim (owned_of c) good (table_of t) tab q, no_fourteen lim (owned_of c) good (table_of t) tab q))

  requests_tell_neither : (c : StoredOwned) (t : StoredTable) (qs : List Request)
      → length c.config.records ≡ lim.regions → Neither (owned_run_answer lim c t qs).inner
  unfolding owned_run_answer ended
  requests_tell_neither c t qs full = by (eqb (owned_standing lim c t) 0) refl
    where
      by : (x : Bool) → eqb (owned_standing lim c t) 0 ≡ x
          → Neither (cond x (ended (owned_run lim (owned_of c) (table_of t) qs)) (plain (owned_standing lim c t) 0)).inner
      by true e = stands_tells_neither c full t qs (eqb-true _ _ e)
      by false e = neither 0 (omega arith)

  plan_tells_neither : (s : TerminalOf StoredOwned) (b : List ℕ) → length s.config.config.records ≡ lim.regions
      → Neither (apply_by (owned_steps lim) s b).outcome.inner
  unfolding apply_by
  plan_tells_neither s b full = by (eqb (owned_standing lim s.config s.table) 0) refl
    where
      by : (x : Bool) → eqb (owned_standing lim s.config s.table) 0 ≡ x
          → Neither
          (cond x (apply_read_by (owned_steps lim) s b (read_owned lim b))
          (record { outcome = plain (owned_standing lim s.config s.table) 0; state = s })).outcome.inner
      by true e = read_tells_neither s b full (eqb-true _ _ e) (read_owned lim b)
      by false e = neither 0 (omega arith)

  alone_tells_neither : (b : List ℕ) → Neither (answer_alone_by (owned_steps lim) b).inner
  unfolding answer_alone_by answer_read_by
  alone_tells_neither b = by (read_owned lim b)
    where
      by : (o : Out OwnedPlan) → Neither (answer_read_by (owned_steps lim) b o).inner
      by (bad k t) = neither 0 (omega arith)
      by (got p t) =
          plan_tells_neither (base_by (owned_steps lim) p) b (length_room lim.regions no_region p.plan.regions)

  pub never_twelve_nor_fourteen : NeverTwelveNorFourteen lim
  never_twelve_nor_fourteen = record {
    request = request_tells_neither;
    requests = requests_tell_neither;
    plan = plan_tells_neither;
    alone = alone_tells_neither;
  }

  -- ---- plans
  pub owned_plans_read_back : OwnedPlansReadBack lim
  owned_plans_read_back p h = read_encoded_owned lim p h

  pub owned_plans_are_tight : OwnedPlansAreTight lim
  owned_plans_are_tight b p t h e = no_slack_owned lim b p t h e

  pub owned_plan_lengths : OwnedPlanLengths lim
  owned_plan_lengths = record {
    written = λ p h. (least_owned lim p h, most_owned lim p h);
    whole = λ b p h e. whole_owned lim b p [] h e;
    least_met =
        λ r say. (
          owned_with 1 0 0 0 0,
          owned_counts_fit lim say 1 0 0 0 0 (omega arith) r (omega arith) (omega arith) (omega arith) (omega arith),
          owned_counts_length lim 1 0 0 0 0,
        );
    longest_met = λ r say.
        let n : ℕ = lim.regions in
        let z : ℕ = lim.zones in
        let k : ℕ = lim.in_set in
        let q : ℕ = lim.requests in (
          owned_with n z k k q,
          owned_counts_fit lim say n z k k q r (omega arith) (omega arith) (omega arith) (omega arith) (omega arith),
          owned_counts_length lim n z k k q,
        );
  }

  -- ---- what a plan gives
  -- as many owners are read as regions
  as_many_owners : (n : ℕ) (b os t : List ℕ) → (listed 4 n n short).read b ≡ got os t → length os ≡ n
  unfolding read_headed
  as_many_owners n b os t e =
      let (c, s, ec, e') = then_got (read_count 4 n n b) (λ c s. read_many short c s) os t e in
      let (m, h) = many_got short (λ x. Unit {0}) (λ b x t e. tt) c s os t e' in
      let (low, high) = (count_got 4 n n b c s ec).1 in
      omega arith

  module _ (b : List ℕ) (p : OwnedPlan) (t : List ℕ) (e : read_owned lim b ≡ got p t) where
    record Given : Type 0 where
      pub few : length p.plan.regions ≤ lim.regions
      pub owners : length p.owners ≡ length p.plan.regions
      pub zones : (length p.plan.zones ≤ lim.zones) × All (SetsFew lim) p.plan.zones

    is_given : Given
    unfolding read_owned
    is_given =
        let rest : Format (List Zone × List Asked) = both (zones_section lim) (requests_section lim) in
        let f1 =
        as_got (sections_with lim (owned_regions lim)) owned_to owned_from (λ x. refl) b p []
        (file_got (owned_format lim) b p t e) in
        let (v1, em, f2) =
        both_got (marks_section lim) (both (owned_regions lim) rest) b p.plan.marks
        ((p.plan.regions, p.owners), (p.plan.zones, p.plan.asked)) [] f1 in
        let (v2, er, f3) =
        both_got (owned_regions lim) rest v1 (p.plan.regions, p.owners) (p.plan.zones, p.plan.asked) [] f2 in
        let (v3, ez, eq) =
        both_got (zones_section lim) (requests_section lim) v2 p.plan.zones p.plan.asked [] f3 in
        let (s, ea, eo) =
        with_got (regions_section lim) (λ xs. listed 4 (length xs) (length xs) short) v1 p.plan.regions p.owners v2
        er in
        record {
          few = (listed_got region_field (λ x. Unit {0}) (λ b x t e. tt) 4 1 lim.regions _ _ _ ea).0;
          owners = as_many_owners (length p.plan.regions) s p.owners v2 eo;
          zones = listed_got (zone_format lim) (SetsFew lim) (sets_few lim) 4 0 lim.zones _ _ _ ez;
        }

    owned_gave : (owned_steps lim).Whole ((owned_steps lim).given p) × ForBaseBy (owned_steps lim) (base_by (owned_steps lim) p) p
    unfolding owned_of
    owned_gave =
        let g = is_given in
        let c : Configuration = plan_config p.plan in
        let same = config_back lim c g.few in
        let n : length c.regions ≡ length p.owners = sym g.owners in (
          (length_room lim.regions no_region c.regions, length_room lim.regions 0 p.owners),
          record {
            config = record {
              config = record {
                regions = ap (λ (x : Configuration). x.regions) same;
                gic = ap (λ (x : Configuration). x.gic) same;
              };
              owners =
                  ap (λ (k : ℕ). room k 0 (room lim.regions 0 p.owners)) n
                  ∙ room_take (length p.owners) 0 (room lim.regions 0 p.owners)
                  (omega (arith, length_room lim.regions 0 p.owners, g.few, n))
                  ∙ room_back lim.regions 0 p.owners (omega (arith, g.few, n));
            };
            edition = refl;
            zones = zones_back lim p.plan.zones g.zones.0 g.zones.1;
          },
        )

  -- ---- the step rule
  pub owned_is_proper : OwnedIsProper lim
  unfolding owned_of
  owned_is_proper = record {
    Sound = λ c t. (owned_check lim c ≡ Plain Sound) × OwnedTable lim (owned_of c) t;
    stands = λ c t e. owned_stands_well lim c t e;
    keeps = λ c t q s. (s.0, owned_keeps lim (owned_of c) t q s.1);
    stored = λ c t s. owned_stored_stands lim c t s.0 s.1;
    runs_so = λ c t qs. refl;
    tells = λ c p. same_owned_law (owned_of c) p;
    based =
        λ s q. record {
          config = record { config = record { regions = refl; gic = refl }; owners = refl };
          edition = refl;
          zones = refl;
        };
    asks = λ s q. refl;
    reads =
        λ say c e t q full s low fits. read_encoded_owned lim _
        (owned_fits lim say (owned_of c) (owned_passed lim c full.0 s.0) e low t s.1.table q fits);
    tight = λ b p t bytes e. (let (same, fits) = no_slack_owned lim b p t bytes e in (same, fits.1.1.1.most));
    only =
        λ s p f i. record {
          plan = record {
            marks = record { gic = sym f.config.config.gic i; edition = sym f.edition i };
            regions = sym f.config.config.regions i;
            zones = sym f.zones i;
            asked = p.plan.asked;
          };
          owners = sym f.config.owners i;
        };
    ends = λ b p t e. owned_ends lim b p t e;
    refuses = λ b k t e. owned_refuses lim b k t e;
  }

  pub owned_passed_is_good : OwnedPassedIsGood lim
  owned_passed_is_good c (full, long, e) = record {
    records = (full, long);
    stands = owned_stored_stands lim c [] e (empty_parts (owned_of c));
  }

  -- ---- every answer from outside
  table_stands_there : (c : StoredOwned) (t : StoredTable) → owned_check_table lim c t ≡ true
      → SoundTable lim (config_of c.config) (table_of t)
  unfolding owned_check_table owned_of
  table_stands_there c t e = (owned_parts_law lim (owned_of c) (table_of t) (parts _ e).1.1.0).table

  accepted_there : (c : StoredOwned) (t : List Zone) (q : Request) → owned_refusal lim (owned_of c) t q ≡ 0
      → (refusal lim (config_of c.config) t q ≡ 0)
      × (owned_next lim (owned_of c) t q ≡ next lim (config_of c.config) t q)
  unfolding owned_of
  accepted_there c t q e = first_accepts_it (owned_of c) t q e

  pub owned_is_honest : Honest (owned_steps lim) (owned_outside lim)
  unfolding owned_answer owned_translated owned_run_answer owned_standing_rules owned_next read_owned read_file
  owned_is_honest = record {
    proper = owned_is_proper;
    gave = owned_gave;
    check = λ c. is_owned_sound (owned_check lim c);
    tells_passed = λ c. (owned_sound_answer (owned_check lim c), λ e. ap is_owned_sound e ∙ owned_sound_is);
    standing_so = λ c t. refl;
    answer_so = λ c t q. refl;
    address_so = λ c t id s a. refl;
    requests_so = λ c t qs. refl;
    deliver_so = λ s b. refl;
    alone_so = λ b. refl;
    number_so = λ c t q. refl;
    after_so = λ c t q. refl;
    leads = λ c t q. refl;
    number_exact = owned_refusal_is_exact;
    passed_there = λ c full e. (full, plain_passed lim c full e);
    sound_there = table_stands_there;
    accepted_there = accepted_there;
    read_so = λ b. refl;
    part = (lawful_owned lim).part;
    told = (lawful_owned lim).refuses;
    gives_model =
        λ c p g i. record {
          config = record { regions = g.config.regions i; gic = g.config.gic i };
          owners = g.owners i;
        };
  }

  pub owned_answers_are_exact : OwnedAnswersAreExact lim
  owned_answers_are_exact = record {
    answer = answer_is_exact_by (owned_steps lim) (owned_outside lim) owned_is_honest;
    translated = translated_is_exact_by (owned_steps lim) (owned_outside lim) owned_is_honest;
    run_answer_law = run_answer_is_exact_by (owned_steps lim) (owned_outside lim) owned_is_honest;
    apply = apply_is_exact_by (owned_steps lim) (owned_outside lim) owned_is_honest;
    alone = alone_is_exact_by (owned_steps lim) (owned_outside lim) owned_is_honest;
    never_alone = never_alone_by (owned_steps lim) (owned_outside lim) owned_is_honest;
  }

  -- ---- the first machine from outside
  stands_there : (c : StoredOwned) (t : StoredTable) → length c.config.records ≡ lim.regions
      → owned_standing lim c t ≡ 0 → Stands lim c.config t
  unfolding owned_standing_rules test_of above_zero all
  stands_there c t full e =
      let h = silent_number (owned_standing_rules lim c t) refl e in
      let (ok, said, own) = (owned_table_check_is_exact c t full).0 (not-false _ (h 2)) in
      record { config = ((table_check_is_exact lim c.config t).0 said).0; table = said }

  pub owned_stands_there : OwnedStandsThere lim
  owned_stands_there c t full e = none_told lim c.config t (stands_there c t full e)

  pub first_answers : FirstAnswers lim
  unfolding owned_of
  first_answers c t q full e =
      let z = answered_stands (owned_steps lim) (owned_outside lim) owned_is_honest c t q e in
      (standing_is_inside lim c.config t (stands_there c t full z)).request q
      ∙ first_accepts lim (owned_of c) (table_of t) q (sym ((owned_standing_is_inside c t z).request q) ∙ e)

  pub first_translates : FirstTranslates lim
  first_translates c t full e id s a =
      (owned_standing_is_inside c t e).address id s a
      ∙ sym ((standing_is_inside lim c.config t (stands_there c t full e)).address id s a)

  pub owned_terminals : OwnedTerminals lim
  owned_terminals = record {
    refusal_stays = refusal_stays_by (owned_steps lim);
    configuration_stays = configuration_stays_by (owned_steps lim);
    keeps_sound = apply_keeps_sound_by (owned_steps lim) owned_is_proper;
    accepted_is_plan = accepted_is_plan_by (owned_steps lim) owned_is_proper;
    plan_is_accepted = plan_is_accepted_by (owned_steps lim) owned_is_proper;
    past_the_longest = past_the_longest_by (owned_steps lim) (longest_owned_size lim) (owned_past lim);
    follow = steps_follow (owned_steps lim) owned_is_proper;
    equal_editions = equal_editions_by (owned_steps lim) owned_is_proper;
    lower_is_behind = lower_is_behind_by (owned_steps lim) owned_is_proper;
    never_ahead = never_ahead_by (owned_steps lim) owned_is_proper;
  }

  pub owned_writer : OwnedWriter lim
  owned_writer = record {
    written_is_accepted = written_is_accepted_by (owned_steps lim) owned_is_proper;
    accepted_is_written = accepted_is_written_by (owned_steps lim) owned_is_proper;
    writes_when_may_ask = writes_when_may_ask_by (owned_steps lim);
    refusal_leaves_buffer = refusal_leaves_buffer_by (owned_steps lim);
    success_fills = success_fills_by (owned_steps lim);
  }
