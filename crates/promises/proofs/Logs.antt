-- Logs: the format's laws are the rules'; and what the check answers is what an audit comes to, which either finds the
-- first false claim or goes through all of them.
use Prim.Native.Nat.{ℕ, zero, suc, ◌+◌, ◌-◌, ◌*◌, ◌^◌, ◌≤◌, ◌<◌}
use native.Mathlib.Omega.{arith}
use mathlib.Core.Bool.{Bool, true, false, cond, true≢false}
use mathlib.Core.List.{List, [], ◌∷◌, ◌++◌}
use mathlib.Core.Logic.{◌⊎◌, inl, inr, ◌↔◌, ⊎_elim}
use mathlib.Core.Path.{◌≡◌, refl, sym, ap, ap₂, subst, ◌∙◌}
use borrow.Author.Tests.{ltb-true, ltb-false, lt-ltb, le-ltb, eqb-true, eqb-false, ne_eqb}
use lib.Dec.{ltb, eqb}
use lib.ListN.{length, get_or, take, drop, replicate, length-append, length-map, length-replicate}
use lib.Seq.{drop-drop, ext_get_or}
use Rattle.lists.specs.Bytes.{little, Bytes}
use Rattle.lists.specs.Lines.{FirstOf, Exactly}
use Rattle.lists.specs.Rules.{first_rule}
use Rattle.lists.specs.Runs.{runs}
use Rattle.lists.proofs.Room.{length_room}
use Rattle.lists.proofs.Runs.{run_keeps}
use Rattle.lists.proofs.Lines.{exactly, exactly_of}
use Rattle.lists.proofs.Tests.{not_fails}
use Rattle.formats.specs.Formats.{Out, got, bad, when, then, within, read_count, read_both, read_as, read_headed}
use Rattle.formats.specs.Formats.{read_with, read_file, at_end, number, both}
use Rattle.formats.specs.Formats as formats
use Rattle.formats.proofs.Formats.{then_got, both_got, count_got, only_one}
use Rattle.formats.proofs.Sizes.{all_replicate}
use Rattle.formats.proofs.Widths.{wide_number, wide_got}
use Rattle.rules.specs.Applying.{plain, plan_config}
use Rattle.rules.specs.Configuration.{config_of, check, is_sound, Configuration}
use Rattle.rules.specs.Regions.{no_region}
use Rattle.rules.specs.Fields.{short_size}
use Rattle.rules.specs.Filling.{fill_answer}
use Rattle.rules.specs.Limits.{in_format, Limits, Sayable}
use Rattle.rules.specs.Logs.{log_format, log_limits, read_log, encode_log, LogFits, claims_size, log_size, claimless, false_claim, audit_from, Audit}
use Rattle.rules.specs.Logs.{own_config, own_table, audit_log, audit_rules, settled_log, check_read, check_log, LogChecked, Log}
use Rattle.rules.specs.Plan.{requests_of, short, marks_to, marks_format, zones_section, plan_format, read_plan}
use Rattle.rules.specs.Plan.{Short, Plan}
use Rattle.rules.specs.Requests.{next, answers, standing}
use Rattle.rules.specs.Sizes.{marks_size, regions_size, requests_size, sets_size, plan_with, no_asked}
use Rattle.rules.specs.Tables.{table_of, Zone}
use Rattle.rules.specs.declared.Checked.{Checked}
use Rattle.rules.specs.declared.Checked.TheVariants.{Sound}
use Rattle.rules.specs.declared.LogAnswer.{LogAnswer}
use Rattle.rules.specs.declared.Request.{Request}
use Rattle.rules.proofs.Configuration.{sound_is, sound_answer, passed, SoundConfiguration}
use Rattle.rules.proofs.Keeps.{next_keeps, SoundTable}
use Rattle.rules.proofs.Filling.{leaves_all}
use Rattle.rules.proofs.Logs.{read_encoded_log, no_slack_log, log_ends, log_parts, log_config, log_zones, log_refuses}
use Rattle.rules.proofs.Logs.{log_length, least_log_law, most_log, whole_log, log_past, audit_all, audit_stops, all_or_first}
use Rattle.rules.proofs.Logs.{audit_inside, audit_away, lawful_log, FirstWrong}
use Rattle.rules.proofs.Sections.{sections, whole_read}
use Rattle.rules.proofs.Sizes.{encoded_length, counts_length, counts_fit}
use Rattle.promises.specs.Answers.{standing_lines, no_ask, number_at}
use Rattle.promises.specs.Filling.{Fills}
use Rattle.promises.specs.Logs.{LogsReadBack, LogsAreTight, LogLengths, PastTheLongestLog, LogsAreNoPlans}
use Rattle.promises.specs.Logs.{right_at, claim_at, AllHold, end_zones, end_bytes, FalseAt, TrueLogHolds}
use Rattle.promises.specs.Logs.{wrong, short as tooShort, fits, LogSays, LogIsExact, Proper, FalseClaimIsExact}
use Rattle.promises.specs.Logs.{AllHoldIsExact, LogRefusalLeaves, LogSuccessFills, LogLongestSuffices, LogComesTo, LogReadingIsExact}
use Rattle.promises.proofs.Answers.{standing_exactly, none_told, table_stands}
use Rattle.promises.proofs.Outside.{reading_exactly}
use Rattle.promises.proofs.Differing.{zones_within}
use Rattle.promises.proofs.Filling.{filled}

-- ---- the format
module _ (lim : Limits) where
  pub logs_read_back : LogsReadBack lim
  logs_read_back = read_encoded_log lim

  pub logs_are_tight : LogsAreTight lim
  logs_are_tight = no_slack_log lim

  -- a log with so many of each, every number 0
  log_with : ℕ → ℕ → ℕ → ℕ → ℕ → Log
  log_with r z c i q = record { plan = plan_with r z c i q; claims = replicate q 0 }

  log_sayable : Sayable lim → Sayable (log_limits lim)
  log_sayable say = record {
    guest_reach = say.guest_reach;
    phys_reach = say.phys_reach;
    regions = say.regions;
    zones = say.zones;
    in_set = say.in_set;
    requests = say.requests;
    mark_count = omega arith;
    last_marks = (omega arith, tt);
  }

  module _ (r z c i q : ℕ) where
    with_length : length (encode_log lim (log_with r z c i q))
        ≡ (marks_size (log_limits lim) + (regions_size r + ((short_size + z * sets_size c i) + requests_size q)))
        + claims_size q
    unfolding log_with log_size
    with_length =
        omega (
          arith,
          log_length lim (log_with r z c i q),
          encoded_length (log_limits lim) (plan_with r z c i q),
          counts_length (log_limits lim) r z c i q,
          length-replicate {A = ℕ} q 0,
        )

    with_fits : Sayable lim → 1 ≤ r → r ≤ lim.regions → z ≤ lim.zones → c ≤ lim.in_set → i ≤ lim.in_set
        → q ≤ lim.requests → LogFits lim (log_with r z c i q)
    unfolding log_with
    with_fits say one mr mz mc mi mq =
        let said : lim.requests < 256 ^ 4 = say.requests in
        let n = length-replicate {A = ℕ} q 0 in
        let m = length-replicate q no_asked in (
          counts_fit (log_limits lim) (log_sayable say) r z c i q one mr mz mc mi mq,
          record {
            said = omega arith;
            least = omega arith;
            most = omega arith;
            fits = (refl, all_replicate Short q 0 (omega arith));
          },
        )

  pub log_lengths : LogLengths lim
  log_lengths = record {
    written = λ g h. (least_log_law lim g h, most_log lim g h);
    whole = λ b g h e. whole_log lim b g [] h e;
    least_met =
        λ r say. (
          log_with 1 0 0 0 0,
          with_fits 1 0 0 0 0 say (omega arith) r (omega arith) (omega arith) (omega arith) (omega arith),
          with_length 1 0 0 0 0,
        );
    longest_met = λ r say.
        let n : ℕ = lim.regions in
        let z : ℕ = lim.zones in
        let k : ℕ = lim.in_set in
        let q : ℕ = lim.requests in (
          log_with n z k k q,
          with_fits n z k k q say r (omega arith) (omega arith) (omega arith) (omega arith) (omega arith),
          with_length n z k k q,
        );
  }

  pub past_the_longest_log : PastTheLongestLog lim
  unfolding check_read
  past_the_longest_log u v w h =
      let (k, t, eu, ev) = log_past lim u v h in
      let e : length (u ++ v) - length (t ++ v) ≡ length u - length t =
      omega (arith, length-append u v, length-append t v) in
      ap (check_read lim (u ++ v) w) ev
      ∙ (λ i. record { answer = claimless (plain k (e i)); buffer = w })
      ∙ sym (ap (check_read lim u w) eu)

-- ---- another mark
-- bytes that read in a format with one last mark are refused in one with another, at that mark
other_mark : (l : Limits) (m n : ℕ) → (m ≡ n → ⊥) → (b : List ℕ) (p : Plan) (t : List ℕ)
    → (plan_format (in_format (m ∷ []) l)).read b ≡ got p t
    → (plan_format (in_format (n ∷ []) l)).read b ≡ bad 21 (drop 12 b)
unfolding read_headed read_as read_both read_count then when
other_mark l m n ne b p t e =
    let L : Limits = in_format (m ∷ []) l in
    let h = sections L b p t e in
    let (c, s, ec, em) = then_got (read_count 4 3 3 b) (λ c s. (marks_format L).read s) p.marks h.after_marks h.marks in
    let (x, v, ex, ev) =
    then_got ((both short (both short (formats.exactly 4 (m ∷ [])))).read s) (λ x t. got (marks_to x) t) p.marks
    h.after_marks em in
    let (u1, ea, f1) = both_got short (both short (formats.exactly 4 (m ∷ []))) s x.0 x.1 v ex in
    let (u2, eb, f2) = both_got short (formats.exactly 4 (m ∷ [])) u1 x.1.0 x.1.1 v f1 in
    let (k, y, ek, ey) = then_got (read_count 4 m m u2) (λ c s. got tt s) x.1.1 v f2 in
    let (en, (lo, hi)) = count_got 4 m m u2 k y ek in
    let out : within n n k ≡ false = only_one n k ∙ ne_eqb k n (λ z. ne (omega arith)) in
    let q0 = (wide_got (number 4) 4 (λ b. little (take 4 b)) (wide_number 4) b c s (count_got 4 3 3 b c s ec).0).1 in
    let q1 = (wide_got (number 4) 4 (λ b. little (take 4 b)) (wide_number 4) s x.0 u1 ea).1 in
    let q2 = (wide_got (number 4) 4 (λ b. little (take 4 b)) (wide_number 4) u1 x.1.0 u2 eb).1 in
    let at : u2 ≡ drop 12 b =
    q2 ∙ ap (drop 4) (q1 ∙ ap (drop 4) q0 ∙ drop-drop 4 4 b) ∙ drop-drop 4 8 b in
    rw (ec, ea, eb, en, out) (ap (bad 21) at)

pub logs_are_no_plans : (l : Limits) → LogsAreNoPlans l
unfolding read_plan read_log read_file read_as read_with then
logs_are_no_plans l = record {
  log = λ marks b g e.
      let (s, ep, ec) = log_parts l b g [] e in
      ap (λ (m : List ℕ). read_plan (in_format m l) b) marks
      ∙ rw (other_mark l 3 2 (λ z. omega arith) b g.plan s ep);
  plan = λ marks b p e.
      rw (other_mark l 2 3 (λ z. omega arith) b p []
      (ap (λ (m : List ℕ). (plan_format (in_format m l)).read b) (sym marks) ∙ whole_read l b p [] e));
}

-- ---- the claims
module _ (lim : Limits) where
  -- answers in turn are those at each index
  answers_many : (c : Configuration) (t : List Zone) (qs : List Request) → length (answers lim c t qs) ≡ length qs
  unfolding answers
  answers_many c t [] = refl
  answers_many c t (q ∷ qs) = ap suc (answers_many c (next lim c t q) qs)

  answers_at : (c : Configuration) (t : List Zone) (qs : List Request) (j : ℕ) → j < length qs
      → number_at lim c t qs j ≡ get_or (answers lim c t qs) j 0
  unfolding answers runs
  answers_at c t [] j h = absurd (omega arith)
  answers_at c t (q ∷ qs) zero h = refl
  answers_at c t (q ∷ qs) (suc j) h = answers_at c (next lim c t q) qs j (omega arith)

  module _ (b : List ℕ) (g : Log) (bytes : Bytes b) (e : read_log lim b ≡ got g []) where
    abbrev c : Configuration
    c = plan_config g.plan

    abbrev t : List Zone
    t = g.plan.zones

    abbrev qs : List Request
    qs = requests_of g.plan

    as_many : length g.claims ≡ length qs
    as_many =
        let fit = (no_slack_log lim b g [] bytes e).1.1 in
        let n : length qs ≡ length g.plan.asked = length-map g.plan.asked _ in
        omega (arith, fit.least, fit.most)

    pub true_holds : AllHold lim g ↔ (g.claims ≡ answers lim c t qs)
    true_holds = (
      (λ f. ext_get_or 0 g.claims (answers lim c t qs) (as_many ∙ sym (answers_many c t qs)) (λ j h.
          sym (f j h) ∙ answers_at c t qs j (omega (arith, as_many)))),
      (λ q j h. answers_at c t qs j (omega (arith, as_many)) ∙ ap (λ (ns : List ℕ). get_or ns j 0) (sym q)),
    )

    -- ---- what the check answers, where its own contents stand
    abbrev inside : Audit
    inside = audit_from lim c 0 t qs g.claims

    own_inside : standing lim (own_config lim g) (own_table lim g) ≡ 0 → audit_log lim g ≡ inside
    own_inside z =
        audit_inside lim (own_config lim g) (own_table lim g) qs g.claims z
        ∙ ap₂ (λ (x : Configuration) (y : List Zone). audit_from lim x 0 y qs g.claims) (log_config lim b g [] e)
        (log_zones lim b g [] e)

    module _ (w : List ℕ) where
      abbrev last : LogAnswer
      last = (settled_log lim inside w).answer

      audit_wrong : (i : ℕ) → FalseAt lim g i
          → inside
          ≡ record {
            answer = false_claim i (claim_at g i) (right_at lim g i);
            table = runs (next lim c) t (take i qs);
          }
      audit_wrong i f =
          audit_stops lim c no_ask 0 t qs g.claims i (omega (arith, f.there, as_many)) f.there f.before f.differ
          ∙ (let z : 0 + i ≡ i = omega arith in
          (λ x. record {
            answer = false_claim (z x) (claim_at g i) (right_at lim g i);
            table = runs (next lim c) t (take i qs);
          }))

      audit_held : AllHold lim g
          → inside ≡ record { answer = claimless (plain 0 (0 + length qs)); table = end_zones lim g }
      audit_held f = audit_all lim c no_ask 0 t qs g.claims as_many (λ j h. f j (omega (arith, as_many)))

      -- 28 or 0, where all hold
      abbrev room : Bool → LogAnswer
      room x = claimless (cond x (plain 28 0) (plain 0 (length (end_bytes lim g))))

      held_answer_law : AllHold lim g → last ≡ room (ltb (length w) (length (end_bytes lim g)))
      unfolding settled_log fill_answer first_rule
      held_answer_law f = ap (λ (a : Audit). (settled_log lim a w).answer) (audit_held f)

      says_so : (o : LogAnswer) → LogSays lim g (length w) o → last ≡ o
      unfolding settled_log fill_answer first_rule
      says_so o (wrong i f) = ap (λ (a : Audit). (settled_log lim a w).answer) (audit_wrong i f)
      says_so o (tooShort f h) = held_answer_law f ∙ ap room (lt-ltb _ _ h)
      says_so o (fits f h) = held_answer_law f ∙ ap room (le-ltb _ _ h)

      some_says : (o : LogAnswer) × LogSays lim g (length w) o
      some_says = by (all_or_first lim c no_ask t qs g.claims as_many)
        where
          held : AllHold lim g → (x : Bool) → ltb (length w) (length (end_bytes lim g)) ≡ x
              → (o : LogAnswer) × LogSays lim g (length w) o
          held f true h = (room true, tooShort f (ltb-true _ _ h))
          held f false h = (room false, fits f (ltb-false _ _ h))

          by : ((j : ℕ) → j < length qs → number_at lim c t qs j ≡ claim_at g j)
              ⊎ ((i : ℕ) × FirstWrong lim c no_ask t qs g.claims i)
              → (o : LogAnswer) × LogSays lim g (length w) o
          by (inl f) = held (λ j h. f j (omega (arith, as_many))) _ refl
          by (inr (i, f)) = (
            _,
            wrong i (record { there = f.claimed; before = f.before; differ = f.wrong }),
          )

      last_exactly : Exactly last (LogSays lim g (length w))
      last_exactly = exactly last (LogSays lim g (length w)) some_says says_so

      -- ---- 1 and 2 before it
      abbrev own : ℕ
      own = standing lim (own_config lim g) (own_table lim g)

      in_order_law : (check_log lim b w).answer ≡ cond (eqb own 0) last (claimless (plain own 0))
      unfolding check_read settled_log fill_answer first_rule
      in_order_law = ap (λ (o : Out Log). (check_read lim b w o).answer) e ∙ by (eqb own 0) refl
        where
          by : (x : Bool) → eqb own 0 ≡ x
              → (settled_log lim (audit_log lim g) w).answer ≡ cond x last (claimless (plain own 0))
          by true h =
              ap (λ (a : Audit). (settled_log lim a w).answer) (own_inside (eqb-true _ _ h))
          by false h =
              ap (λ (a : Audit). (settled_log lim a w).answer)
              (audit_away lim (own_config lim g) (own_table lim g) qs g.claims (eqb-false _ _ h))
              ∙ ap (λ (x : Bool). claimless (cond x (plain own 0) (cond
              (ltb (length w) (length ((zones_section lim).write (table_of (own_table lim g))))) (plain 28 0)
              (plain 0 (length ((zones_section lim).write (table_of (own_table lim g)))))))) (not_fails _ h)

      judged_exactly : Exactly (check_log lim b w).answer
          (FirstOf (standing_lines (λ n. claimless (plain n 0)) lim (own_config lim g) (own_table lim g))
          (LogSays lim g (length w)))
      judged_exactly =
          exactly_of in_order_law
          (standing_exactly lim (own_config lim g) (own_table lim g) (λ n. claimless (plain n 0)) last
          (LogSays lim g (length w)) last_exactly)

  pub true_log_holds : TrueLogHolds lim
  true_log_holds b g bytes e = true_holds b g bytes e

  pub log_is_exact : LogIsExact lim
  unfolding check_read
  log_is_exact = record {
    refused = λ b w k t e. ap (λ (o : Out Log). (check_read lim b w o).answer) e;
    judged = λ b w g bytes e. judged_exactly b g bytes e w;
  }

  -- ---- by the answer
  -- what reads and stands is answered by its claims, and nothing else has one of these answers
  module _ (b w : List ℕ) (bytes : Bytes b) where
    from_claims : (g : Log) → Proper lim b g → (a : LogAnswer) → LogSays lim g (length w) a → (check_log lim b w).answer ≡ a
    from_claims g ok a s =
        (judged_exactly b g bytes ok.reads w a).1
        (inr ((λ ne. ne ok.stands.config), inr ((λ f. true≢false (sym ok.stands.table ∙ f)), s)))

    -- a number that neither reading nor 1 and 2 give
    Later : ℕ → Type 0
    Later n = ((n ≡ 1 → ⊥) × (n ≡ 2 → ⊥)) × ((n ≡ 20 → ⊥) × ((n ≡ 21 → ⊥) × (n ≡ 22 → ⊥)))

    to_claims : (a : LogAnswer) → (check_log lim b w).answer ≡ a → Later a.outcome.number
        → (g : Log) × Proper lim b g × LogSays lim g (length w) a
    unfolding Later check_read
    to_claims a q ((n1, n2), (n20, (n21, n22))) = by (read_log lim b) refl
      where
        number : LogAnswer → ℕ
        number x = x.outcome.number

        lines : (g : Log) → read_log lim b ≡ got g []
            → FirstOf (standing_lines (λ n. claimless (plain n 0)) lim (own_config lim g) (own_table lim g))
            (LogSays lim g (length w)) a
            → (g : Log) × Proper lim b g × LogSays lim g (length w) a
        lines g e (inl (h, f)) = absurd (n1 (sym (ap number f)))
        lines g e (inr (h, inl (j, f))) = absurd (n2 (sym (ap number f)))
        lines g e (inr (h, inr (j, s))) = (
          g,
          record { reads = e; stands = record { config = sound_or (check lim (own_config lim g)) h; table = held _ j } },
          s,
        )
          where
            held : (x : Bool) → (x ≡ false → ⊥) → x ≡ true
            held true n = refl
            held false n = absurd (n refl)

            sound_or : (f : Checked) → ((f ≡ Sound → ⊥) → ⊥) → f ≡ Sound
            sound_or f nn = sound_answer f (held (is_sound f) (λ h. nn (λ z. true≢false (sym (ap is_sound z ∙ sound_is) ∙ h))))

        by : (o : Out Log) → read_log lim b ≡ o → (g : Log) × Proper lim b g × LogSays lim g (length w) a
        by (bad k t) e =
            absurd (let f : k ≡ number a = ap number (sym (log_is_exact.refused b w k t e) ∙ q) in
            ⊎_elim (λ y. ⊎_elim (λ z. n20 (sym f ∙ z)) (λ z. n21 (sym f ∙ z)) y) (λ z. n22 (sym f ∙ z)) (log_refuses lim b k t e))
        by (got g t) e =
            let r : read_log lim b ≡ got g [] = e ∙ ap (got g) (log_ends lim b g t e) in
            lines g r ((judged_exactly b g bytes r w a).0 q)

  pub false_claim_is_exact : FalseClaimIsExact lim
  unfolding Later
  false_claim_is_exact b w i a n bytes = (
    (λ q.
        let (g, ok, s) = to_claims b w bytes (false_claim i a n) q (omega arith) in
        let (f, ea, en) = found g (false_claim i a n) refl s in
        (g, ok, f, ea, en)),
    (λ (g, ok, f, ea, en). from_claims b w bytes g ok _ (wrong i f) ∙ (λ x. false_claim i (ea x) (en x))),
  )
    where
      found : (g : Log) (o : LogAnswer) → o ≡ false_claim i a n → LogSays lim g (length w) o
          → FalseAt lim g i × (claim_at g i ≡ a) × (right_at lim g i ≡ n)
      found g o q (wrong j f) =
          let e : j ≡ i = ap (λ (x : LogAnswer). x.outcome.place) q in (
            subst (FalseAt lim g) e f,
            ap (claim_at g) (sym e) ∙ ap (λ (x : LogAnswer). x.claimed) q,
            ap (right_at lim g) (sym e) ∙ ap (λ (x : LogAnswer). x.outcome.inner) q,
          )
      found g o q (tooShort f h) = absurd (omega (arith, ap (λ (x : LogAnswer). x.outcome.number) q))
      found g o q (fits f h) = absurd (omega (arith, ap (λ (x : LogAnswer). x.outcome.number) q))

  pub all_hold_is_exact : AllHoldIsExact lim
  unfolding Later
  all_hold_is_exact = record {
    zero = λ b w bytes. (
      (λ q.
          let (g, ok, s) = to_claims b w bytes (check_log lim b w).answer refl (omega (arith, q)) in
          let (f, h) = fitted g (length w) (check_log lim b w).answer q s in
          (g, ok, f, h)),
      (λ (g, ok, f, h). ap (λ (x : LogAnswer). x.outcome.number) (from_claims b w bytes g ok _ (fits f h))),
    );
    twenty_eight_law = λ b w bytes. (
      (λ q.
          let (g, ok, s) = to_claims b w bytes (check_log lim b w).answer refl (omega (arith, q)) in
          let (f, h) = shorter g (length w) (check_log lim b w).answer q s in
          (g, ok, f, h)),
      (λ (g, ok, f, h). ap (λ (x : LogAnswer). x.outcome.number) (from_claims b w bytes g ok _ (tooShort f h))),
    );
  }
    where
      fitted : (g : Log) (room : ℕ) (o : LogAnswer) → o.outcome.number ≡ 0 → LogSays lim g room o
          → AllHold lim g × (length (end_bytes lim g) ≤ room)
      fitted g room o q (wrong i f) = absurd (omega arith)
      fitted g room o q (tooShort f h) = absurd (omega arith)
      fitted g room o q (fits f h) = (f, h)

      shorter : (g : Log) (room : ℕ) (o : LogAnswer) → o.outcome.number ≡ 28 → LogSays lim g room o
          → AllHold lim g × (room < length (end_bytes lim g))
      shorter g room o q (wrong i f) = absurd (omega arith)
      shorter g room o q (tooShort f h) = (f, h)
      shorter g room o q (fits f h) = absurd (omega arith)

  -- ---- the buffer
  pub log_refusal_leaves : LogRefusalLeaves lim
  unfolding check_read settled_log
  log_refusal_leaves b w = by (read_log lim b)
    where
      by : (o : Out Log) → ((check_read lim b w o).answer.outcome.number ≡ 0 → ⊥) → (check_read lim b w o).buffer ≡ w
      by (bad k t) ne = refl
      by (got g t) ne = leaves_all _ ((zones_section lim).write (audit_log lim g).table) w ne

  pub log_success_fills : LogSuccessFills lim
  unfolding check_read settled_log
  log_success_fills b w bytes q =
      let (g, ok, f, h) = (all_hold_is_exact.zero b w bytes).0 q in
      let own : standing lim (own_config lim g) (own_table lim g) ≡ 0 = none_told lim (own_config lim g) (own_table lim g) ok.stands in
      let e : check_log lim b w ≡ settled_log lim (ended g) w =
      ap (check_read lim b w) ok.reads
      ∙ ap (λ (a : Audit). settled_log lim a w) (own_inside b g bytes ok.reads own ∙ audit_held b g bytes ok.reads w f) in (
        g,
        ok.reads,
        subst (λ (x : LogChecked). Fills (end_bytes lim g) w x.answer.outcome x.buffer) (sym e)
            (filled (audit_rules (ended g)) (end_bytes lim g) w ((λ t z. absurd (true≢false (sym t))), tt)
            (ap (λ (x : LogChecked). x.answer.outcome.number) (sym e) ∙ q)),
      )
    where
      ended : Log → Audit
      ended g = record { answer = claimless (plain 0 (0 + length (requests_of g.plan))); table = end_zones lim g }

  pub log_longest_suffices : LogLongestSuffices lim
  log_longest_suffices say b w bytes long q =
      let (g, ok, f, h) = (all_hold_is_exact.twenty_eight_law b w bytes).0 q in
      let c : Configuration = plan_config g.plan in
      let same = log_config lim b g [] ok.reads in
      let good : SoundConfiguration lim c =
      subst (SoundConfiguration lim) same
      (passed lim (own_config lim g) (length_room lim.regions no_region g.plan.regions) ok.stands.config) in
      let tab : SoundTable lim c g.plan.zones =
      subst (λ (x : Configuration). SoundTable lim x g.plan.zones) same
      (subst (SoundTable lim (config_of (own_config lim g))) (log_zones lim b g [] ok.reads)
      (table_stands lim (own_config lim g) (own_table lim g) ok.stands.table)) in
      omega (
        arith,
        h,
        long,
        zones_within lim say c good (end_zones lim g)
            (run_keeps (next lim c) (SoundTable lim c) (next_keeps lim c) g.plan.zones (requests_of g.plan) tab),
      )

  -- ---- from the first byte on
  outcome_exactly : (f : LogAnswer) (P : LogAnswer → Type 0) → Exactly f P
      → Exactly f.outcome (λ o. (a : LogAnswer) × (a.outcome ≡ o) × P a)
  outcome_exactly f P x o = (
    (λ e. (f, e, (x f).0 refl)),
    λ (a, q, p). ap (λ (y : LogAnswer). y.outcome) ((x a).1 p) ∙ q,
  )

  pub log_reading_is_exact : LogReadingIsExact lim
  unfolding check_read read_log read_file then at_end
  log_reading_is_exact = record {
    outcome =
        λ b w bytes. reading_exactly (log_format lim).read (lawful_log lim).part (lawful_log lim).refuses b
        (λ o. (check_read lim b w o).answer.outcome) (λ k t. refl)
        (λ g o. (a : LogAnswer) × (a.outcome ≡ o) × LogComesTo lim w g a)
        (λ g e.
        let whole : read_log lim b ≡ got g [] = ap (λ (x : Out Log). then x at_end) e in
        outcome_exactly (check_read lim b w (got g [])).answer (LogComesTo lim w g)
        (exactly_of (sym (ap (λ (x : Out Log). (check_read lim b w x).answer) whole))
        (log_is_exact.judged b w g bytes whole)));
    claimed = λ b w k t e. ap (λ (x : Out Log). (check_read lim b w x).answer.claimed) e;
  }
