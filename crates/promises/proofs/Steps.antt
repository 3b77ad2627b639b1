-- Plans and demand 3 for the terminals of any proper step rule: 0 is answered exactly where no rule applies and the run
-- has no refusal, so the five laws of a machine hold; and the machine's planner has the states that the rules give.
use Prim.Native.Nat.{ℕ, zero, suc, ◌+◌, ◌-◌, ◌<◌}
use native.Mathlib.Decide.{dec_lt}
use native.Mathlib.Omega.{arith}
use mathlib.Core.Bool.{Bool, true, false, cond}
use mathlib.Core.List.{List, [], ◌++◌, map}
use mathlib.Core.Path.{◌≡◌, refl, sym, ap, subst, ◌∙◌}
use borrow.Author.Tests.{eqb-true, eqb-false, eq-eqb}
use lib.Dec.{eqb}
use lib.ListN.{length, take, drop, length-append, length-take, length-map, take-append-drop}
use lib.Seq.{take_all}
use Rattle.lists.specs.Places.{places}
use Rattle.lists.specs.Runs.{runs}
use Rattle.lists.proofs.Runs.{runs_seen}
use Rattle.formats.specs.Formats.{got, bad, Out}
use Rattle.rules.specs.Applying.{last_edition, store, plain, moved, settled, Kept, judged_by, apply_read_by, apply_by}
use Rattle.rules.specs.Applying.{answer_read_by, answer_alone_by, AppliedOf}
use Rattle.rules.specs.Limits.{Sayable}
use Rattle.rules.specs.Plan.{requests_from, Asked}
use Rattle.rules.specs.Planner.{plan_for_by, plan_bytes_by, MayAskBy}
use Rattle.rules.specs.Run.{run_by, Run}
use Rattle.rules.specs.Steps.{ran_by, StepRule}
use Rattle.rules.specs.Tables.{table_of, Zone}
use Rattle.rules.specs.declared.Outcome.{Outcome}
use Rattle.rules.proofs.Applying.{accepted_base, base_accepted, outcome_by, refused_by, apply_keeps, SameBase}
use Rattle.rules.proofs.Run.{run_by_keeps, run_through}
use Rattle.promises.specs.Editions.{table_at, at, plan_of, world, State, Machine, Planner}
use Rattle.promises.specs.Steps.{NeverAheadBy, PlanForBy, run_of_by, RefusalStaysBy, ConfigurationStaysBy, ApplyKeepsSoundBy}
use Rattle.promises.specs.Steps.{AcceptedIsPlanBy, PlanIsAcceptedBy, PastTheLongestBy, terminal, state_of}
use Rattle.promises.specs.Steps.{terminals_by, StepsAreLawful, planned_by, plan_file_by, planner_by, TurnsAwayBy}
use Rattle.promises.specs.Steps.{PastBy, terminal_in_by, StepsFollow, EqualEditionsBy, LowerIsBehindBy, Proper, HeldOf}
use Rattle.promises.specs.Steps.{SoundHeldBy}
use Rattle.promises.proofs.Editions.{never_ahead, always_in_step, equal_editions_equal_tables, lower_is_behind}

module _ (m : StepRule) where
  -- the machine, its planner, and the terminal after a history
  abbrev pub machine : Machine
  machine = terminals_by m (apply_by m)

  abbrev pub planner : m.Config → (ℕ → List Asked) → Planner machine
  planner c asked = planner_by m (apply_by m) c asked

  abbrev now : (c : m.Config) (asked : ℕ → List Asked) → PastBy m (apply_by m) c asked → Kept m
  now c asked = terminal_in_by m (apply_by m) c asked

  -- ---- what is accepted
  module _ (s : Kept m) (b : List ℕ) where
    -- 1 or 2
    abbrev unsound : AppliedOf m.Config
    unsound = record { outcome = plain (m.standing s.config s.table) 0; state = s }

  pub refusal_stays_by : RefusalStaysBy m (apply_by m)
  refusal_stays_by s b ne = refused_by m s b ne

  -- at a state at which neither 1 nor 2 is answered
  pub accepted_stands_by : (s : Kept m) (b : List ℕ) → (apply_by m s b).outcome.number ≡ 0
      → m.standing s.config s.table ≡ 0
  unfolding apply_by
  accepted_stands_by s b e = by (eqb (m.standing s.config s.table) 0) refl e
    where
      by : (c : Bool) → eqb (m.standing s.config s.table) 0 ≡ c
          → (cond c (apply_read_by m s b (m.read b)) (unsound s b)).outcome.number ≡ 0
          → m.standing s.config s.table ≡ 0
      by true h e = eqb-true _ _ h
      by false h e = e

  module _ (ok : Proper m) where
    pub accepted_is_plan_by : AcceptedIsPlanBy m (apply_by m)
    unfolding apply_by apply_read_by
    accepted_is_plan_by s b e = by (eqb (m.standing s.config s.table) 0) refl (m.read b) refl e
      where
        by : (c : Bool) → eqb (m.standing s.config s.table) 0 ≡ c → (o : Out m.Said) → m.read b ≡ o
            → (cond c (apply_read_by m s b o) (unsound s b)).outcome.number ≡ 0
            → (p : m.Said) × PlanForBy m s b p × (s.edition ≡ last_edition → ⊥) × ((run_of_by m s p).inner ≡ 0)
        by true h (got p t) g e =
            let (f, last, inner) =
            accepted_base s (m.same s.config p) (m.edition p) (m.zones p) (run_of_by m s p) (sym
            (ap (λ (x : Outcome). x.number)
            (outcome_by m.limits s (judged_by m s p (run_of_by m s p)) (run_of_by m s p)))
            ∙ e) in (
              p,
              (
                g ∙ ap (got p) (ok.ends b p t g),
                record { config = (ok.tells s.config p).0 f.config; edition = f.edition; zones = f.zones },
              ),
              last,
              inner,
            )
        by true h (bad k t) g e = absurd (ok.refuses b k t g e)
        by false h o g e = absurd (eqb-false _ _ h e)

    pub plan_is_accepted_by : PlanIsAcceptedBy m (apply_by m)
    unfolding apply_by apply_read_by settled moved
    plan_is_accepted_by s b p st (g, f) last inner =
        let r : Run = run_of_by m s p in
        let qs = requests_from (m.asked p) in
        let by : r ≡ run_by (m.refusal s.config) (m.next s.config) 0 (table_of s.table) qs =
        ok.runs_so s.config (table_of s.table) qs in
        let n : r.place ≡ length qs =
        ap (λ (x : Run). x.place) by
        ∙ run_through (m.refusal s.config) (m.next s.config) 0 (table_of s.table) qs
        (sym (ap (λ (x : Run). x.inner) by) ∙ inner)
        ∙ omega arith in
        let base : SameBase s (m.same s.config p) (m.edition p) (m.zones p) =
        record { config = (ok.tells s.config p).1 f.config; edition = f.edition; zones = f.zones } in
        let j : judged_by m s p r ≡ plain 0 (length qs) =
        base_accepted s (m.same s.config p) (m.edition p) (m.zones p) r base last inner ∙ ap (plain 0) n in
        ap (λ (c : Bool). cond c (apply_read_by m s b (m.read b)) (unsound s b)) (eq-eqb _ 0 st)
        ∙ ap (apply_read_by m s b) g ∙ ap (λ (o : Outcome). settled m.limits s o r) j

    -- ---- soundness
    ran_keeps : (c : m.Config) (t : List Zone) (q : List Asked) → ok.Sound c t → ok.Sound c (ran_by m c t q).table
    ran_keeps c t q s =
        subst (λ (r : Run). ok.Sound c r.table) (sym (ok.runs_so c t (requests_from q)))
        (run_by_keeps (m.refusal c) (m.next c) (ok.Sound c) (ok.keeps c) 0 t (requests_from q) s)

  pub configuration_stays_by : ConfigurationStaysBy m (apply_by m)
  unfolding moved
  configuration_stays_by s b = apply_keeps m s b (λ u. u.config ≡ s.config) refl (λ p. refl)

  pub apply_keeps_sound_by : Proper m → ApplyKeepsSoundBy m (apply_by m)
  unfolding moved
  apply_keeps_sound_by ok s b st =
      apply_keeps m s b (λ u. m.standing u.config u.table ≡ 0) st
      (λ p. ok.stored s.config (run_of_by m s p).table
      (ran_keeps ok s.config (table_of s.table) (m.asked p) (ok.stands s.config s.table st)))

  -- ---- bytes past the longest plan: both are refused alike, with places that are the same
  module _ (u v : List ℕ) (k : ℕ) (t : List ℕ) (e : m.read u ≡ bad k t) (f : m.read (u ++ v) ≡ bad k (t ++ v)) where
    same_place : length u - length t ≡ length (u ++ v) - length (t ++ v)
    same_place = omega (arith, length-append u v, length-append t v)

    alone_past : answer_alone_by m u ≡ answer_alone_by m (u ++ v)
    unfolding answer_alone_by answer_read_by
    alone_past = ap (answer_read_by m u) e ∙ ap (plain k) same_place ∙ ap (answer_read_by m (u ++ v)) (sym f)

    apply_past : (s : Kept m) → apply_by m s u ≡ apply_by m s (u ++ v)
    unfolding apply_by apply_read_by
    apply_past s =
        let same : apply_read_by m s u (bad k t) ≡ apply_read_by m s (u ++ v) (bad k (t ++ v)) =
        (λ i. record { outcome = plain k (same_place i); state = s }) in
        ap (λ (a : AppliedOf m.Config). cond (eqb (m.standing s.config s.table) 0) a (unsound s u))
        (ap (apply_read_by m s u) e ∙ same ∙ ap (apply_read_by m s (u ++ v)) (sym f))

  pub past_the_longest_by : (longest : ℕ)
      → ((u v : List ℕ) → longest < length u
      → (k : ℕ) × (t : List ℕ) × (m.read u ≡ bad k t) × (m.read (u ++ v) ≡ bad k (t ++ v)))
      → PastTheLongestBy m (apply_by m) (answer_alone_by m) longest
  past_the_longest_by longest past b n h =
      elim (dec_lt n (length b)) [
        | yes l ↦
            (let e : take n b ++ drop n b ≡ b = take-append-drop n b in
            let (k, t, x, y) = past (take n b) (drop n b) (omega (arith, length-take n b)) in (
              alone_past (take n b) (drop n b) k t x y ∙ ap (answer_alone_by m) e,
              λ s. apply_past (take n b) (drop n b) k t x y s ∙ ap (apply_by m s) e,
            ))
        | no l ↦
            let e : take n b ≡ b = take_all n b (omega arith) in (ap (answer_alone_by m) e, λ s. ap (apply_by m s) e)
      ]

  -- ---- the laws of a machine
  -- the edition that bytes name
  edition_read : Out m.Said → ℕ
  edition_read (got p t) = m.edition p
  edition_read (bad k t) = 0

  one_edition : (s t : Kept m) (b : List ℕ) → (p : m.Said) × PlanForBy m s b p → (p : m.Said) × PlanForBy m t b p
      → s.edition ≡ t.edition
  unfolding edition_read
  one_edition s t b (p, (f, x)) (q, (g, y)) = x.edition ∙ ap edition_read (sym f ∙ g) ∙ sym y.edition

  -- what the planner may ask for at a sound state is accepted there, and leads where its run leads
  pub asked_is_accepted_by : Proper m → Sayable m.limits → (s : Kept m) (q : List Asked) → m.Whole s.config
      → m.standing s.config s.table ≡ 0 → MayAskBy m s q
      → apply_by m s (plan_bytes_by m s q)
      ≡ record {
        outcome = plain 0 (length q);
        state = record {
          config = s.config;
          table = store m.limits (ran_by m s.config (table_of s.table) q).table;
          edition = s.edition + 1;
        };
      }
  asked_is_accepted_by ok say s q full st may =
      let p : m.Said = plan_for_by m s q in
      let below : s.edition < last_edition = may.edition in
      let w : m.asked p ≡ q = ok.asks s q in
      let n : length (requests_from (m.asked p)) ≡ length q = length-map (m.asked p) _ ∙ ap length w in
      let inner : (run_of_by m s p).inner ≡ 0 =
      ap (λ (a : List Asked). (ran_by m s.config (table_of s.table) a).inner) w ∙ may.accepted in
      let read : m.read (plan_bytes_by m s q) ≡ got p [] =
      ok.reads say s.config s.edition (table_of s.table) q full (ok.stands s.config s.table st) below
      may.fits in
      plan_is_accepted_by ok s (plan_bytes_by m s q) p st (read, ok.based s q) (λ l. omega arith) inner
      ∙ (λ i. record {
        outcome = plain 0 (n i);
        state = record {
          config = s.config;
          table = store m.limits (ran_by m s.config (table_of s.table) (w i)).table;
          edition = s.edition + 1;
        };
      })

  module _ (ok : Proper m) (say : Sayable m.limits) where
    plan_leads : (s : State (HeldOf m.Config)) (q : List Asked) → SoundHeldBy m s.table
        → MayAskBy m (terminal s) q
        → (machine.number s (machine.encode s q) ≡ 0)
        × (machine.after s (machine.encode s q)
        ≡ record { edition = suc s.edition; table = machine.next s.table q })
    plan_leads s q held may =
        let e = asked_is_accepted_by ok say (terminal s) q held.records held.stands may in
        let n : s.edition + 1 ≡ suc s.edition = omega arith in (
          ap (λ (a : AppliedOf m.Config). a.outcome.number) e,
          ap (λ (a : AppliedOf m.Config). state_of a.state) e
              ∙ (λ i. record { edition = n i; table = machine.next s.table q }),
        )

    next_sound : (h : HeldOf m.Config) (q : List Asked) → SoundHeldBy m h → SoundHeldBy m (machine.next h q)
    next_sound h q held = record {
      records = held.records;
      stands =
          ok.stored h.config (ran_by m h.config (table_of h.table) q).table
          (ran_keeps ok h.config (table_of h.table) q (ok.stands h.config h.table held.stands));
    }

  pub steps_are_lawful : StepsAreLawful m
  steps_are_lawful ok say = record {
    stays = λ s b ne. ap state_of (refusal_stays_by (terminal s) b ne);
    fits = λ s b e. (let (p, f, last, inner) = accepted_is_plan_by ok (terminal s) b e in (p, f));
    tells = λ s t b f g. one_edition (terminal s) (terminal t) b f g;
    leads = plan_leads ok say;
    keeps = λ s q held may. next_sound ok say s.table q held;
  }

  -- ---- the planner's states are those of the rules
  module _ (c : m.Config) (asked : ℕ → List Asked) where
    config_stays : (k : ℕ) → c ≡ (table_at machine (planner c asked) k).config
    unfolding table_at
    config_stays zero = refl
    config_stays (suc k) = config_stays k

    pub planned_at_by_law : (k : ℕ) → planned_by m c asked k ≡ terminal (at machine (planner c asked) k)
    unfolding planned_by table_at
    planned_at_by_law zero = refl
    planned_at_by_law (suc k) =
        let p : c ≡ (table_at machine (planner c asked) k).config = config_stays k in
        let e : planned_by m c asked k ≡ terminal (at machine (planner c asked) k) = planned_at_by_law k in
        (λ i. record {
          config = p i;
          table = store m.limits (ran_by m (p i) (table_of (e i).table) (asked (suc k))).table;
          edition = suc k;
        })

    file_at : (i : ℕ) → plan_file_by m c asked i ≡ plan_of machine (planner c asked) i
    file_at i = ap (λ (s : Kept m). plan_bytes_by m s (asked i)) (planned_at_by_law (i - 1))

  pub steps_follow : Proper m → Sayable m.limits → StepsFollow m (apply_by m)
  steps_follow ok say c good asked h =
      let (k, f) = always_in_step machine (steps_are_lawful ok say) (planner c asked) good h in (
        k,
        record {
          behind = f.behind;
          same = ap terminal f.same ∙ sym (planned_at_by_law c asked k);
          onward =
              λ l. subst (λ (b : List ℕ). ((apply_by m (now c asked h) b).outcome.number ≡ 0)
              × ((apply_by m (now c asked h) b).state ≡ planned_by m c asked (suc k)))
              (sym (file_at c asked (suc k)))
              ((f.onward l).0, ap terminal (f.onward l).1 ∙ sym (planned_at_by_law c asked (suc k)));
          others =
              λ i low high ne. subst (TurnsAwayBy m (apply_by m) (now c asked h)) (sym (file_at c asked i))
              (let r = f.others i low high ne in
              (r.0, ap terminal r.1));
          stray = λ b ne. let r = f.stray b (λ x. ne x.0 x.1) in (r.0, ap terminal r.1);
        },
      )

  pub equal_editions_by : Proper m → Sayable m.limits → EqualEditionsBy m (apply_by m)
  equal_editions_by ok say c good asked g h e =
      let t = equal_editions_equal_tables machine (steps_are_lawful ok say) (planner c asked) good g h e in
      (λ i. terminal (record { edition = e i; table = t i }))

  -- deliveries in turn, to the state and to the terminal
  in_turn : (s : State (HeldOf m.Config)) (bs : List (List ℕ))
      → runs (λ (t : Kept m) (b : List ℕ). (apply_by m t b).state) (terminal s) bs
      ≡ terminal (runs machine.after s bs)
  in_turn s bs =
      sym (runs_seen (λ (x : State (HeldOf m.Config)). terminal x) machine.after
      (λ (t : Kept m) (b : List ℕ). (apply_by m t b).state) (λ x b. refl) s bs)

  pub lower_is_behind_by : Proper m → Sayable m.limits → LowerIsBehindBy m (apply_by m)
  lower_is_behind_by ok say c good asked g h l =
      let j : ℕ = (now c asked g).edition in
      let k : ℕ = (now c asked h).edition in
      in_turn (world machine (planner c asked) g).state
      (map (plan_file_by m c asked) (places (suc j) (k - j)))
      ∙ ap (λ (f : ℕ → List ℕ). terminal
      (runs machine.after (world machine (planner c asked) g).state
      (map f (places (suc j) (k - j)))))
      (λ x i. file_at c asked i x)
      ∙ ap terminal (lower_is_behind machine (steps_are_lawful ok say) (planner c asked) good g h l)

  pub never_ahead_by : Proper m → Sayable m.limits → NeverAheadBy m (apply_by m)
  never_ahead_by ok say c good asked h =
      let j : ℕ = (now c asked h).edition in
      let k : ℕ = (world machine (planner c asked) h).made in
      let (low, level) = never_ahead machine (steps_are_lawful ok say) (planner c asked) good h in (
        low,
        in_turn (world machine (planner c asked) h).state (map (plan_file_by m c asked) (places (suc j) (k - j)))
            ∙ ap (λ (f : ℕ → List ℕ). terminal
            (runs machine.after (world machine (planner c asked) h).state
            (map f (places (suc j) (k - j)))))
            (λ x i. file_at c asked i x)
            ∙ ap terminal level
            ∙ sym (planned_at_by_law c asked k),
      )
