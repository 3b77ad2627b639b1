-- What is answered from outside, over a kind of terminals: each answer is by 1 and 2 and then by its own rules.
use Prim.Native.Nat.{ℕ, ◌+◌, ◌-◌, ◌≤◌, ◌<◌}
use native.Mathlib.Omega.{arith}
use mathlib.Core.Bool.{Bool, true, false, cond, not}
use mathlib.Core.List.{List, [], ◌∷◌, ◌++◌}
use mathlib.Core.Logic.{inl, inr, ⊎_elim}
use mathlib.Core.Path.{◌≡◌, refl, sym, ap, subst, ◌∙◌}
use borrow.Author.Tests.{eqb-true, not-true, not-false, eqb-false, eq-eqb, ne_eqb}
use lib.Dec.{eqb}
use lib.ListN.{length, drop, length-drop}
use Rattle.lists.specs.First.{any, all as every}
use Rattle.lists.specs.Lines.{FirstOf, Exactly}
use Rattle.lists.specs.Rules.{◌when◌, first_rule, Rule}
use Rattle.lists.proofs.Every.{none_at}
use Rattle.lists.proofs.Lines.{Tells, tells_not, exactly, exactly_of, first_of, first_map, all, ◌and◌}
use Rattle.lists.proofs.Lines.{Matches, NoneOf}
use Rattle.lists.proofs.Rules.{test_of, above_zero, silent_number, hit_whatever}
use Rattle.lists.proofs.Places.{first_failing}
use Rattle.lists.proofs.Tests.{not_fails, not_holds, true_of}
use Rattle.formats.specs.Formats.{Out, got, bad, left, then, at_end, read_file}
use Rattle.formats.proofs.Formats.{Part, part_at, Told}
use Rattle.rules.specs.Applying.{last_edition, store, same_list, same_zone, plain, base_rules, plain_steps, judged_by}
use Rattle.rules.specs.Applying.{apply_read_by, apply_by, base_by, answer_read_by, answer_alone_by, apply, answer_alone, Kept}
use Rattle.rules.specs.Applying.{AppliedOf, ForBaseBy}
use Rattle.rules.specs.Changes.{region_set}
use Rattle.rules.specs.Configuration.{config_of, check, is_sound}
use Rattle.rules.specs.Limits.{Limits}
use Rattle.rules.specs.Plan.{read_plan, requests_from}
use Rattle.rules.specs.Requests.{find, refusal, next_by, next, standing_rules, answer}
use Rattle.rules.specs.Run.{run_by, run_from, ended, ended_after, run_answer, Run}
use Rattle.rules.specs.Steps.{StepRule}
use Rattle.rules.specs.Tables.{table_of, Zone, StoredTable}
use Rattle.rules.specs.Translation.{covers_guest, covering_in, translation_rules, translated_as, translation, translated_after, translated}
use Rattle.rules.specs.declared.Guest.{Guest}
use Rattle.rules.specs.declared.Outcome.{Outcome}
use Rattle.rules.specs.declared.Region.{Region}
use Rattle.rules.specs.declared.Request.{Request}
use Rattle.rules.specs.declared.Side.{Side}
use Rattle.rules.specs.declared.Translated.{Translated}
use Rattle.rules.proofs.Applying.{same_list_law, list_same, same_zone_law, zone_same, outcome_by}
use Rattle.rules.proofs.Configuration.{sound_is, sound_answer}
use Rattle.rules.proofs.Keeps.{SoundTable}
use Rattle.rules.proofs.Plan.{lawful_plan}
use Rattle.rules.proofs.Run.{run_by_all, run_by_stops}
use Rattle.rules.proofs.Translation.{covers_parts, remains_to_end, none_told}
use Rattle.promises.specs.Answers.{ComesOut, no_ask}
use Rattle.promises.specs.Outside.{number_by, all_accepted, twenty_seven, EndsBy, twenty, twenty_one, twenty_two, reads}
use Rattle.promises.specs.Outside.{ReadingBy, Outside, standing_of, EndsOf, AnswerIsExactBy, TranslatedIsExactBy, RunAnswerIsExactBy, AtTerminalBy}
use Rattle.promises.specs.Outside.{ApplyIsExactBy, AloneBy, AloneIsExactBy, NeverAloneBy, plain_outside, StretchIsConsecutiveBy, NothingRemainsBy}
use Rattle.promises.specs.Configuration.{Passed}
use Rattle.promises.specs.Steps.{run_of_by, Proper}
use Rattle.promises.specs.Translation.{CoversGuest}
use Rattle.promises.proofs.Terminals.{plain_is_proper}
use Rattle.promises.specs.Stretches.{further}
use Rattle.promises.proofs.Answers.{refusal_is_exact, table_stands, tells_covers, tells_eq, tells_lt}
use Rattle.promises.proofs.Answers.{xs as asked_set, comes_out as translation_comes_out}
use Rattle.promises.proofs.Answers.{tells_some, tells_zone, twice}
use Rattle.promises.proofs.Translation.{xs, covers, remains}
use Rattle.promises.proofs.Stretches.{accepted, sound_further}
use Rattle.lists.proofs.Room.{length_room}
use Rattle.rules.specs.Configuration.{Configuration}
use Rattle.rules.specs.Regions.{no_region}
use Rattle.rules.proofs.Sections.{whole_read as plan_whole_read, own_config_law, own_zones}

-- ---- 1 and 2, before all else
standing_tests : {R : Type 0} → (ℕ → R) → Bool → Bool → List (Rule R)
standing_tests say u v = say 1 when not u ∷ say 2 when not v ∷ []

standing_as_law : {R : Type 0} (say : ℕ → R) (x : R) (u v : Bool)
    → cond (eqb (first_rule (standing_tests (λ n. n) u v) 0) 0) x (say (first_rule (standing_tests (λ n. n) u v) 0))
    ≡ first_rule (standing_tests say u v) x
unfolding first_rule standing_tests
standing_as_law say x false v = refl
standing_as_law say x true false = refl
standing_as_law say x true true = refl

-- ---- requests in turn
module _ (number : List Zone → Request → ℕ) (after : List Zone → Request → List Zone) (t : List Zone) (qs : List Request) where
  ends_so : (o : Outcome) → EndsBy number after t qs o → ended (run_by number after 0 t qs) ≡ o
  unfolding ended
  ends_so o (all_accepted f) =
      let e : 0 + length qs ≡ length qs = omega arith in
      ap ended (run_by_all number after no_ask 0 t qs f) ∙ ap (plain 0) e
  ends_so o (twenty_seven i h f ne) =
      let e : 0 + i ≡ i = omega arith in
      ap ended (run_by_stops number after no_ask 0 t qs i h f ne)
      ∙ (λ x. record {
        number = cond (ne_eqb (number_by number after t qs i) 0 ne x) 0 27;
        place = e x;
        inner = number_by number after t qs i;
      })

  some_end : (o : Outcome) × EndsBy number after t qs o
  some_end =
      ⊎_elim (λ f. (plain 0 (length qs), all_accepted (λ j h. eqb-true _ _ (f j h))))
      (λ (i, h, e, f). (
        record { number = 27; place = i; inner = number_by number after t qs i },
        twenty_seven i h (λ j m. eqb-true _ _ (f j m)) (eqb-false _ _ e),
      ))
      (first_failing (λ j. eqb (number_by number after t qs j) 0) (length qs))

  pub ends_by_exactly : Exactly (ended (run_by number after 0 t qs)) (EndsBy number after t qs)
  ends_by_exactly = exactly (ended (run_by number after 0 t qs)) (EndsBy number after t qs) some_end ends_so

-- ---- reading
module _ {P : Type 0} (read : List ℕ → Out P) (part : (b : List ℕ) → Part (left (read b)) b)
    (told : (b : List ℕ) (k : ℕ) (t : List ℕ) → read b ≡ bad k t → Told k)
    (b : List ℕ) (answered : Out P → Outcome)
    (refused : (k : ℕ) (t : List ℕ) → answered (bad k t) ≡ plain k (length b - length t))
    (Then : P → Outcome → Type 0)
    (then-exactly : (p : P) → read b ≡ got p [] → Exactly (answered (got p [])) (Then p)) where
  at_place : (k at : ℕ) → at ≤ length b → then (read b) at_end ≡ bad k (drop at b)
      → answered (then (read b) at_end) ≡ plain k at
  at_place k at h e =
      let q : length b - length (drop at b) ≡ at = omega (arith, length-drop at b) in
      ap answered e ∙ refused k (drop at b) ∙ ap (plain k) q

  -- what the reader of the sections gives, and the end of the file
  file_of : (o : Out P) → read b ≡ o → then (read b) at_end ≡ then o at_end
  file_of o e = ap (λ (x : Out P). then x at_end) e

  more_left : (p : P) (t : List ℕ) → 0 < length t → at_end p t ≡ bad 22 t
  unfolding at_end
  more_left p [] h = absurd (omega arith)
  more_left p (x ∷ t) h = refl

  reads_so : (o : Outcome) → ReadingBy read b Then o → answered (then (read b) at_end) ≡ o
  unfolding then at_end
  reads_so o (twenty at h e) = at_place 20 at h (file_of (bad 20 (drop at b)) e)
  reads_so o (twenty_one at h e) = at_place 21 at h (file_of (bad 21 (drop at b)) e)
  reads_so o (twenty_two p at h e) =
      at_place 22 at (omega arith)
      (file_of (got p (drop at b)) e ∙ more_left p (drop at b) (omega (arith, length-drop at b)))
  reads_so o (reads p x e w) = ap answered (file_of (got p []) e) ∙ (then-exactly p e x).1 w

  some_reading : (o : Outcome) × ReadingBy read b Then o
  unfolding left
  some_reading = by (read b) refl
    where
      at_field : (k : ℕ) (t : List ℕ) → read b ≡ bad k t → (at : ℕ) → at ≤ length b → t ≡ drop at b → Told k
          → (o : Outcome) × ReadingBy read b Then o
      at_field k t e at h q (inl n) = (plain 20 at, twenty at h (e ∙ (λ i. bad (n i) (q i))))
      at_field k t e at h q (inr n) = (plain 21 at, twenty_one at h (e ∙ (λ i. bad (n i) (q i))))

      by : (o : Out P) → read b ≡ o → (o : Outcome) × ReadingBy read b Then o
      by (bad k t) e =
          let (at, h, q) = part_at t b (subst (λ (x : Out P). Part (left x) b) e (part b)) in
          at_field k t e at h q (told b k t e)
      by (got p []) e =
          (answered (got p []), reads p (answered (got p [])) e ((then-exactly p e (answered (got p []))).0 refl))
      by (got p (x ∷ t)) e =
          let (at, h, q) = part_at (x ∷ t) b (subst (λ (y : Out P). Part (left y) b) e (part b)) in
          (plain 22 at, twenty_two p at (omega (arith, ap length q, length-drop at b)) (e ∙ ap (got p) q))

  pub reading_exactly : Exactly (answered (then (read b) at_end)) (ReadingBy read b Then)
  reading_exactly = exactly (answered (then (read b) at_end)) (ReadingBy read b Then) some_reading reads_so

-- ---- a kind of terminals from outside
tells_zones : (t u : List Zone) → Tells (same_list same_zone t u) (t ≡ u)
tells_zones t u = (
  same_list_law same_zone same_zone_law t u,
  λ e. ap (λ (x : List Zone). same_list same_zone x u) e ∙ list_same same_zone zone_same u,
)

-- what is asked of one: each of its answers is by 1 and 2 and then by its own rules; and its tests, its numbers and its
-- reader mean what they say
pub record Honest (m : StepRule) (o : Outside m) : Type 1 where
  pub proper : Proper m
  -- what a plan that reads whole gives, stored, is a whole configuration, and with its edition and zones it is the base
  -- that the plan is for
  pub gave : (b : List ℕ) (p : m.Said) (t : List ℕ) → m.read b ≡ got p t
      → m.Whole (m.given p) × ForBaseBy m (base_by m p) p
  pub check : m.Config → Bool
  pub tells_passed : (c : m.Config) → Tells (check c) (o.Passes c)
  pub standing_so : (c : m.Config) (t : StoredTable)
      → m.standing c t ≡ first_rule (1 when not (check c) ∷ 2 when not (o.passes c t) ∷ []) 0
  pub answer_so : (c : m.Config) (t : StoredTable) (q : Request)
      → o.answer c t q
      ≡ first_rule (1 when not (check c) ∷ 2 when not (o.passes c t) ∷ []) (o.number (o.model c) (table_of t) q)
  pub address_so : (c : m.Config) (t : StoredTable) (id : ℕ) (s : Side) (a : Guest)
      → o.address c t id s a
      ≡ translated_after (1 when not (check c) ∷ 2 when not (o.passes c t) ∷ []) (table_of t) id s a.0
  pub requests_so : (c : m.Config) (t : StoredTable) (qs : List Request)
      → o.requests c t qs
      ≡ ended_after (m.standing c t) (run_by (o.number (o.model c)) (o.after (o.model c)) 0 (table_of t) qs)
  pub deliver_so : (s : Kept m) (b : List ℕ) → o.deliver s b ≡ apply_by m s b
  pub alone_so : (b : List ℕ) → o.alone b ≡ answer_alone_by m b
  pub number_so : (c : m.Config) (t : List Zone) (q : Request) → m.refusal c t q ≡ o.number (o.model c) t q
  pub after_so : (c : m.Config) (t : List Zone) (q : Request) → m.next c t q ≡ o.after (o.model c) t q
  pub leads : (c : o.Model) (t : List Zone) (q : Request) → o.after c t q ≡ next_by (o.number c t q) t q
  pub number_exact : (c : o.Model) (t : List Zone) (q : Request) → Exactly (o.number c t q) (o.Says c t q)
  -- document 01's check passes there, its tables are sound there, and it accepts what is accepted here, with the same
  -- next table
  pub passed_there : (c : m.Config) → length (o.first c).records ≡ m.limits.regions → o.Passes c
      → Passed m.limits (o.first c)
  pub sound_there : (c : m.Config) (t : StoredTable) → o.passes c t ≡ true
      → SoundTable m.limits (config_of (o.first c)) (table_of t)
  pub accepted_there : (c : m.Config) (t : List Zone) (q : Request) → o.number (o.model c) t q ≡ 0
      → (refusal m.limits (config_of (o.first c)) t q ≡ 0)
      × (o.after (o.model c) t q ≡ next m.limits (config_of (o.first c)) t q)
  pub read_so : (b : List ℕ) → m.read b ≡ then (o.sections b) at_end
  pub part : (b : List ℕ) → Part (left (o.sections b)) b
  pub told : (b : List ℕ) (k : ℕ) (t : List ℕ) → o.sections b ≡ bad k t → Told k
  pub gives_model : (c : m.Config) (p : m.Said) → m.Gives c p → o.model c ≡ o.said p

module _ (m : StepRule) (o : Outside m) (ok : Honest m o) where
  -- 1 and 2 put before what is answered at a table that stands
  module _ (c : m.Config) (t : StoredTable) where
    standing_matches : {R : Type 0} (say : ℕ → R)
        → Matches (standing_tests say (ok.check c) (o.passes c t)) (standing_of m o say c t)
    unfolding standing_tests
    standing_matches say =
        tells_not _ _ (ok.tells_passed c) and (not-true (o.passes c t), not_fails (o.passes c t)) and all

    standing_first : {R : Type 0} (say : ℕ → R) (x : R) (P : R → Type 0)
        → (NoneOf (standing_of m o say c t) → Exactly x P)
        → Exactly (first_rule (standing_tests say (ok.check c) (o.passes c t)) x) (FirstOf (standing_of m o say c t) P)
    standing_first say x P g = first_of x P (standing_matches say) g

    standing_told : {R : Type 0} (say : ℕ → R) (x : R)
        → cond (eqb (m.standing c t) 0) x (say (m.standing c t))
        ≡ first_rule (standing_tests say (ok.check c) (o.passes c t)) x
    unfolding standing_tests
    standing_told say x =
        ap (λ (n : ℕ). cond (eqb n 0) x (say n)) (ok.standing_so c t)
        ∙ standing_as_law say x (ok.check c) (o.passes c t)

    pub standing_exactly_by : {R : Type 0} (say : ℕ → R) (x : R) (P : R → Type 0) → Exactly x P
        → Exactly (cond (eqb (m.standing c t) 0) x (say (m.standing c t))) (FirstOf (standing_of m o say c t) P)
    standing_exactly_by say x P h = exactly_of (standing_told say x) (standing_first say x P (λ none. h))

    -- neither applies
    pub stands_by : m.standing c t ≡ 0 → o.Passes c × (o.passes c t ≡ true)
    unfolding test_of above_zero every
    stands_by e =
        let h = silent_number (1 when not (ok.check c) ∷ 2 when not (o.passes c t) ∷ []) refl (sym (ok.standing_so c t) ∙ e) in
        ((ok.tells_passed c).0 (not-false _ (h 1)), not-false _ (h 2))

    past_standing_by : m.standing c t ≡ 0 → {R : Type 0} (say : ℕ → R) (vs : List (Rule R)) (x : R)
        → first_rule (standing_tests say (ok.check c) (o.passes c t) ++ vs) x ≡ first_rule vs x
    unfolding standing_tests first_rule
    past_standing_by e say vs x =
        let (a, b) = stands_by e in rw (not_holds _ ((ok.tells_passed c).1 a), not_holds _ b)

    pub inside_request_by : m.standing c t ≡ 0 → (q : Request)
        → o.answer c t q ≡ o.number (o.model c) (table_of t) q
    unfolding standing_tests first_rule
    inside_request_by e q = ok.answer_so c t q ∙ past_standing_by e (λ n. n) [] (o.number (o.model c) (table_of t) q)

    pub inside_address_by : m.standing c t ≡ 0 → (id : ℕ) (side : Side) (g : Guest)
        → o.address c t id side g ≡ translation (table_of t) id side g.0
    unfolding translation standing_tests
    inside_address_by e id side g =
        let z : List Zone = table_of t in
        ok.address_so c t id side g
        ∙ ap (λ (n : ℕ). translated_as n g.0 (covering_in g.0 (region_set z (find id z) side)))
        (past_standing_by e (λ n. n) (translation_rules z id side g.0) 0)

    -- behind 1 and 2 there is a 0 only where neither applies
    behind : (u v : Bool) (n : ℕ) → first_rule (1 when u ∷ 2 when v ∷ []) n ≡ 0
        → ◌≡◌ {A = ℕ} (first_rule (1 when u ∷ 2 when v ∷ []) 0) 0
    unfolding first_rule
    behind true v n z = absurd (omega arith)
    behind false true n z = absurd (omega arith)
    behind false false n z = refl

    pub answered_stands : (q : Request) → o.answer c t q ≡ 0 → m.standing c t ≡ 0
    answered_stands q e = ok.standing_so c t ∙ behind _ _ _ (sym (ok.answer_so c t q) ∙ e)

    -- where one applies, that is the number
    pub unsound_request_by : (m.standing c t ≡ 0 → ⊥) → (q : Request) → o.answer c t q ≡ m.standing c t
    unfolding first_rule
    unsound_request_by ne q =
        let rs : List (Rule ℕ) = 1 when not (ok.check c) ∷ 2 when not (o.passes c t) ∷ [] in
        ok.answer_so c t q
        ∙ sym (hit_whatever rs (m.standing c t) 0 (o.number (o.model c) (table_of t) q) (ok.standing_so c t) ne)

    pub translated_stands : (id : ℕ) (side : Side) (g : Guest) → (o.address c t id side g).number ≡ 0
        → m.standing c t ≡ 0
    unfolding first_rule translated_as
    translated_stands id side g e =
        ok.standing_so c t
        ∙ behind (not (ok.check c)) (not (o.passes c t)) (first_rule (translation_rules (table_of t) id side g.0) 0)
        (sym (ap (λ (x : Translated). x.number) (ok.address_so c t id side g)) ∙ e)

  pub answer_is_exact_by : AnswerIsExactBy m o
  unfolding standing_tests
  answer_is_exact_by c t q =
      exactly_of (ok.answer_so c t q)
      (standing_first c t (λ n. n) (o.number (o.model c) (table_of t) q) (o.Says (o.model c) (table_of t) q)
      (λ none. ok.number_exact (o.model c) (table_of t) q))

  pub translated_is_exact_by : TranslatedIsExactBy m o
  unfolding translation_rules translated_as asked_set
  translated_is_exact_by c t id side g =
      let a : ℕ = g.0 in
      let z : List Zone = table_of t in
      let some : List Region = region_set z (find id z) side in
      let r : Region = covering_in a some in
      let rs : List (Rule ℕ) = 1 when not (ok.check c) ∷ 2 when not (o.passes c t) ∷ [] in
      exactly_of (ok.address_so c t id side g
      ∙ first_map (λ n. translated_as n a r) (rs ++ translation_rules z id side a) 0)
      (first_of (translated_as 0 a r) (ComesOut z id side a)
      (tells_not _ _ (ok.tells_passed c) and (not-true (o.passes c t), not_fails (o.passes c t)) and tells_lt _ _
      and tells_not _ _ (tells_zone id z)
      and tells_not _ _ (tells_some (covers_guest a) (λ x. CoversGuest x a) (tells_covers m.limits a) some) and all)
      (λ none. translation_comes_out m.limits (config_of (o.first c)) z (ok.sound_there c t (true_of _ none.1.0)) id side a
      (twice (any (covers_guest a) some) (tells_some (covers_guest a) (λ x. CoversGuest x a) (tells_covers m.limits a) some)
      none.1.1.1.1.0)))

  pub run_answer_is_exact_by : RunAnswerIsExactBy m o
  run_answer_is_exact_by c t qs =
      let number : List Zone → Request → ℕ = o.number (o.model c) in
      let after : List Zone → Request → List Zone = o.after (o.model c) in
      exactly_of (ok.requests_so c t qs)
      (standing_exactly_by c t (λ n. plain n 0) (ended (run_by number after 0 (table_of t) qs))
      (EndsOf m o (o.model c) (table_of t) qs) (ends_by_exactly number after (table_of t) qs))

  -- ---- plans
  -- a run of the step rule is by the numbers and next tables from outside
  pub run_so : (c : m.Config) (t : List Zone) (qs : List Request)
      → m.run c t qs ≡ run_by (o.number (o.model c)) (o.after (o.model c)) 0 t qs
  run_so c t qs =
      ok.proper.runs_so c t qs
      ∙ (λ i. run_by (λ t q. ok.number_so c t q i) (λ t q. ok.after_so c t q i) 0 t qs)

  -- where 1 and 2 stand
  outcome_first : (s : Kept m) (b : List ℕ)
      → (apply_by m s b).outcome
      ≡ first_rule (standing_tests (λ n. plain n 0) (ok.check s.config) (o.passes s.config s.table))
      (apply_read_by m s b (m.read b)).outcome
  unfolding apply_by
  outcome_first s b =
      by (eqb (m.standing s.config s.table) 0)
      ∙ standing_told s.config s.table (λ n. plain n 0) (apply_read_by m s b (m.read b)).outcome
    where
      by : (c : Bool)
          → (cond c (apply_read_by m s b (m.read b))
          (record { outcome = plain (m.standing s.config s.table) 0; state = s })).outcome
          ≡ cond c (apply_read_by m s b (m.read b)).outcome (plain (m.standing s.config s.table) 0)
      by true = refl
      by false = refl

  judged_exactly : (s : Kept m) (p : m.Said) → Exactly (judged_by m s p (run_of_by m s p)) (AtTerminalBy m o s p)
  unfolding base_rules
  judged_exactly s p =
      let c : o.Model = o.model s.config in
      let t : List Zone = table_of s.table in
      let qs : List Request = requests_from (m.asked p) in
      first_of (ended (run_of_by m s p)) (EndsOf m o c t qs)
      (tells_not _ _ (ok.proper.tells s.config p) and tells_not _ _ (tells_eq _ _) and tells_eq _ _
      and tells_not _ _ (tells_zones t (m.zones p)) and all)
      (λ none. exactly_of (ap ended (run_so s.config t qs)) (ends_by_exactly (o.number c) (o.after c) t qs))

  pub apply_is_exact_by : ApplyIsExactBy m o
  unfolding apply_read_by
  apply_is_exact_by s b =
      exactly_of (ap (λ (r : AppliedOf m.Config). r.outcome) (ok.deliver_so s b) ∙ outcome_first s b)
      (standing_first s.config s.table (λ n. plain n 0) (apply_read_by m s b (m.read b)).outcome
      (ReadingBy o.sections b (AtTerminalBy m o s))
      (λ none. exactly_of (ap (λ (x : Out m.Said). (apply_read_by m s b x).outcome) (ok.read_so b))
      (reading_exactly o.sections ok.part ok.told b (λ x. (apply_read_by m s b x).outcome) (λ k t. refl)
      (AtTerminalBy m o s)
      (λ p e. exactly_of (outcome_by m.limits s (judged_by m s p (run_of_by m s p)) (run_of_by m s p))
      (judged_exactly s p)))))

  -- at its own base a plan is not refused with 23, 24 or 26
  module _ (b : List ℕ) (p : m.Said) (e : o.sections b ≡ got p []) where
    whole_read : m.read b ≡ got p []
    unfolding then at_end
    whole_read = ok.read_so b ∙ ap (λ (x : Out m.Said). then x at_end) e

    own : ForBaseBy m (base_by m p) p
    own = (ok.gave b p [] whole_read).1

    own_run : run_of_by m (base_by m p) p
        ≡ run_by (o.number (o.said p)) (o.after (o.said p)) 0 (m.zones p) (requests_from (m.asked p))
    own_run =
        run_so (m.given p) (table_of (store m.limits (m.zones p))) (requests_from (m.asked p))
        ∙ (λ i. run_by (o.number (ok.gives_model (m.given p) p own.config i))
        (o.after (ok.gives_model (m.given p) p own.config i)) 0 (own.zones i) (requests_from (m.asked p)))

    own_judged : judged_by m (base_by m p) p (run_of_by m (base_by m p) p)
        ≡ first_rule (plain 25 0 when eqb (m.edition p) last_edition ∷ []) (ended (run_of_by m (base_by m p) p))
    unfolding base_rules first_rule
    own_judged =
        rw (
          not_holds _ ((ok.proper.tells (m.given p) p).1 own.config),
          not_holds _ (eq-eqb (m.edition p) (m.edition p) refl),
          not_holds _ ((tells_zones (table_of (store m.limits (m.zones p))) (m.zones p)).1 own.zones),
        )

    alone_then : Exactly (apply_by m (base_by m p) b).outcome (AloneBy m o p)
    unfolding apply_read_by
    alone_then =
        let s : Kept m = base_by m p in
        let r : Run = run_of_by m s p in
        let qs : List Request = requests_from (m.asked p) in
        exactly_of (outcome_first s b)
        (standing_first s.config s.table (λ n. plain n 0) (apply_read_by m s b (m.read b)).outcome _
        (λ none. exactly_of (ap (λ (x : Out m.Said). (apply_read_by m s b x).outcome) whole_read
        ∙ outcome_by m.limits s (judged_by m s p r) r
        ∙ own_judged)
        (first_of (ended r) (EndsOf m o (o.said p) (m.zones p) qs) (tells_eq _ _ and all)
        (λ none. exactly_of (ap ended own_run) (ends_by_exactly (o.number (o.said p)) (o.after (o.said p)) (m.zones p) qs)))))

  pub alone_is_exact_by : AloneIsExactBy m o
  unfolding answer_alone_by answer_read_by
  alone_is_exact_by b =
      exactly_of (ok.alone_so b ∙ ap (answer_read_by m b) (ok.read_so b))
      (reading_exactly o.sections ok.part ok.told b (answer_read_by m b) (λ k t. refl) (AloneBy m o)
      (alone_then b))

  pub never_alone_by : NeverAloneBy m o
  unfolding any
  never_alone_by b = by (o.alone b) ((alone_is_exact_by b (o.alone b)).0 refl)
    where
      Others : ℕ → Type 0
      Others n = (n ≡ 23 → ⊥) × (n ≡ 24 → ⊥) × (n ≡ 26 → ⊥)

      others : (n : ℕ) → any (eqb n) (23 ∷ 24 ∷ 26 ∷ []) ≡ false → Others n
      others n e =
          let q = none_at (eqb n) (23 ∷ 24 ∷ 26 ∷ []) 0 e in
          (eqb-false _ _ (q 0 (omega arith)), eqb-false _ _ (q 1 (omega arith)), eqb-false _ _ (q 2 (omega arith)))

      of : (x o : Outcome) → x ≡ o → any (eqb x.number) (23 ∷ 24 ∷ 26 ∷ []) ≡ false → Others o.number
      of x o q e = subst (λ (y : Outcome). Others y.number) q (others x.number e)

      by_end : (c : o.Model) (t : List Zone) (qs : List Request) (r : Outcome) → EndsOf m o c t qs r
          → Others r.number
      by_end c t qs r (all_accepted f) = others 0 refl
      by_end c t qs r (twenty_seven i h f ne) = others 27 refl

      by : (r : Outcome) → ReadingBy o.sections b (AloneBy m o) r → Others r.number
      by r (twenty at h e) = others 20 refl
      by r (twenty_one at h e) = others 21 refl
      by r (twenty_two p at h e) = others 22 refl
      by r (reads p x e (inl (h, q))) = of (plain 1 0) x q refl
      by r (reads p x e (inr (n, inl (h, q)))) = of (plain 2 0) x q refl
      by r (reads p x e (inr (n, inr (k, inl (h, q))))) = of (plain 25 0) x q refl
      by r (reads p x e (inr (n, inr (k, inr (j, w))))) =
          by_end (o.said p) (m.zones p) (requests_from (m.asked p)) x w

-- ---- stretches, from outside
module _ (m : StepRule) (o : Outside m) (ok : Honest m o) where
  module _ (c : m.Config) (t : StoredTable) (id : ℕ) (side : Side) (g : Guest) where
    number : ℕ
    number =
        first_rule
        ((1 when not (ok.check c) ∷ 2 when not (o.passes c t) ∷ []) ++ translation_rules (table_of t) id side g.0) 0

    region : Region
    region = covering_in g.0 (region_set (table_of t) (find id (table_of t)) side)

    as_told : o.address c t id side g ≡ translated_as number g.0 region
    unfolding number region
    as_told = ok.address_so c t id side g

    -- where something remains it is answered 0
    remaining_answered : (i : ℕ) → i < (o.address c t id side g).remaining → (o.address c t id side g).number ≡ 0
    unfolding translated_as
    remaining_answered i h =
        ap (λ (x : Translated). x.number) as_told
        ∙ accepted number g.0 i region (omega (arith, h, ap (λ (x : Translated). x.remaining) as_told))

    further_outside : (i : ℕ) → i < (o.address c t id side g).remaining
        → o.address c t id side (record { 0 = g.0 + i }) ≡ further i (o.address c t id side g)
    further_outside i h =
        let st = translated_stands m o ok c t id side g (remaining_answered i h) in
        let inside = inside_address_by m o ok c t st id side in
        let table = ok.sound_there c t (stands_by m o ok c t st).1 in
        inside (record { 0 = g.0 + i })
        ∙ sound_further m.limits (config_of (o.first c)) (table_of t) table id side g.0 i
        (omega (arith, ap (λ (x : Translated). x.remaining) (inside g)))
        ∙ ap (further i) (sym (inside g))

    none_refused : ((o.address c t id side g).number ≡ 0 → ⊥) → (o.address c t id side g).remaining ≡ 0
    unfolding translated_as
    none_refused ne =
        ap (λ (x : Translated). x.remaining) as_told
        ∙ sym (ap (λ (x : Translated). x.remaining) (none_told number g.0 region
        (λ z. ne (ap (λ (x : Translated). x.number) as_told ∙ z))))

    some_accepted : (o.address c t id side g).number ≡ 0 → (o.address c t id side g).remaining ≡ 0 → ⊥
    unfolding xs
    some_accepted e z =
        let st = translated_stands m o ok c t id side g e in
        let inside = inside_address_by m o ok c t st id side g in
        let a : (translation (table_of t) id side g.0).number ≡ 0 =
        sym (ap (λ (x : Translated). x.number) inside) ∙ e in
        let r : Region = covering_in g.0 (region_set (table_of t) (find id (table_of t)) side) in
        let k : covers_guest g.0 r ≡ true = covers (table_of t) id side g.0 a in
        let (l, u) = covers_parts g.0 r k in
        omega (
          arith,
          z,
          ap (λ (x : Translated). x.remaining) inside,
          remains (table_of t) id side g.0 a ∙ remains_to_end g.0 r k,
        )

  pub stretch_is_consecutive_by : StretchIsConsecutiveBy m o
  stretch_is_consecutive_by = further_outside

  pub nothing_remains_by : NothingRemainsBy m o
  nothing_remains_by c t id side g = ((λ z e. some_accepted c t id side g e z), none_refused c t id side g)

-- ---- document 01's terminals
module _ (lim : Limits) where
  pub plain_is_honest : Honest (plain_steps lim) (plain_outside lim)
  unfolding answer translated run_answer run_from standing_rules next next_by apply answer_alone read_plan read_file
  plain_is_honest = record {
    proper = plain_is_proper lim;
    gave =
        λ b p t e. (
          length_room lim.regions no_region p.regions,
          let r = plan_whole_read lim b p t e in
              let c = own_config_law lim b p [] r in
              record {
                config = record {
                  regions = ap (λ (x : Configuration). x.regions) c;
                  gic = ap (λ (x : Configuration). x.gic) c;
                };
                edition = refl;
                zones = own_zones lim b p [] r;
              },
        );
    check = λ c. is_sound (check lim c);
    tells_passed = λ c. (sound_answer (check lim c), λ e. ap is_sound e ∙ sound_is);
    standing_so = λ c t. refl;
    answer_so = λ c t q. refl;
    address_so = λ c t id s a. refl;
    requests_so = λ c t qs. refl;
    deliver_so = λ s b. refl;
    alone_so = λ b. refl;
    number_so = λ c t q. refl;
    after_so = λ c t q. refl;
    leads = λ c t q. refl;
    number_exact = refusal_is_exact lim;
    passed_there = λ c full e. (full, e);
    sound_there = table_stands lim;
    accepted_there = λ c t q e. (e, refl);
    read_so = λ b. refl;
    part = (lawful_plan lim).part;
    told = (lawful_plan lim).refuses;
    gives_model = λ c p g i. record { regions = g.regions i; gic = g.gic i };
  }
