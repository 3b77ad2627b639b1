-- Demand 3 of the code of any step rule: what the words hold after a call is what the rules' terminal holds after the
-- delivery, so the laws of the rules' terminals are laws of the code, and the demand over any lawful machine gives it of
-- the words.
use Prim.Native.Nat.{ℕ, zero, suc, ◌-◌, ◌≤◌, ◌<◌}
use native.Mathlib.Omega.{arith}
use mathlib.Core.List.{List, [], ◌∷◌, map}
use mathlib.Core.Path.{◌≡◌, refl, sym, ap, subst, ◌∙◌}
use lib.ListN.{length, get_or, length-map, get_or-map}
use Rattle.lists.specs.Places.{places}
use Rattle.lists.specs.Runs.{runs}
use Rattle.lists.proofs.Runs.{runs_seen}
use Rattle.rules.specs.Applying.{store, Kept, apply_by, AppliedOf}
use Rattle.rules.specs.Plan.{requests_from, Asked}
use Rattle.rules.specs.Planner.{plan_bytes_by, MayAskBy}
use Rattle.rules.specs.Steps.{ran_by, StepRule}
use Rattle.rules.specs.Tables.{table_of, Zone}
use Rattle.rules.specs.declared.Outcome.{Outcome}
use Rattle.promises.specs.Editions.{makes, plan, noise, restart, table_at, at, plan_of, begin, taken, happens, Legal, AllLegal}
use Rattle.promises.specs.Editions.{missing, State, Machine, Lawful, Event, Planner, World}
use Rattle.promises.specs.Neighbours.{Alike, TranslatesAlike}
use Rattle.promises.proofs.Neighbours.{planned_alike}
use Rattle.promises.specs.Steps.{PlanForBy, state_of, terminal, terminals_by, planned_by, planner_by, GoodConfig, HeldOf}
use Rattle.promises.specs.Steps.{SoundHeldBy}
use Rattle.promises.proofs.Editions.{never_ahead, plans_made, always_in_step, planners_table, lower_is_behind}
use Rattle.promises.proofs.Steps.{steps_are_lawful, planned_at_by_law}
use Rattle.plan.specs.Deliveries.{CalledBy, FaithfulBy}
use Rattle.plan.proofs.Deliveries.{steps_are_faithful}
use Rattle.demands.specs.Steps.{NeverAheadByCode, OweNothingByCode, CodePast, code_made, MeetsBy, TurnsAwayBy, now_by, code_terminals, CodeOfStepsIsLawful, planned_at_by, plan_at_by}
use Rattle.demands.specs.Steps.{code_planner, code_held, code_state, CodeOfStepsFollows, CodeOfStepsGoesAlong}
use Rattle.demands.specs.Steps.{EqualEditionsByCode, LowerIsBehindByCode, Kind, Fits, CodeBy}

module _ (k : Kind) (ok : Fits k) where
  abbrev m : StepRule
  m = k.rule

  law : Lawful (terminals_by m (apply_by m))
  law = steps_are_lawful m ok.proper ok.sayable

  faith : FaithfulBy m k.lending (apply_by m) (CalledBy m k.lending)
  faith =
      steps_are_faithful m k.lending ok.lendable ok.stores (CalledBy m k.lending) (λ s b o u c. c)

  -- a state as the rules see it
  abbrev view : State k.Held → State (HeldOf m.Config)
  view s = record { edition = s.edition; table = k.holds s.table }

  -- ---- one call
  module _ (f : CodeBy k) (meets : MeetsBy k f) where
    module _ (s : State k.Held) (b : List ℕ) where
      abbrev done : AppliedOf m.Config
      done = apply_by m (now_by k s) b

      abbrev left : k.lending.State
      left = f.leaves (k.lent s) b

      number_is : (f.says (k.lent s) b).number ≡ done.outcome.number
      number_is =
          ap (λ (o : Outcome). o.number) (meets (k.lent s) b).answer
          ∙ ap (λ (t : Kept m). (apply_by m t b).outcome.number) (ok.held s)

      moves : (f.says (k.lent s) b).number ≡ 0
          → k.kept left
          ≡ record { edition = done.state.edition; table = k.storing s.table (table_of done.state.table) }
      moves z =
          ap k.kept
          (faith.accepted (k.lent s) b (f.says (k.lent s) b) left (meets (k.lent s) b) z
          ∙ ap (λ (t : Kept m). k.lending.next (k.lent s) (apply_by m t b).state) (ok.held s)
          ∙ ok.stored s done.state)
          ∙ ok.kept_lent _

      stays : ((f.says (k.lent s) b).number ≡ 0 → ⊥) → k.kept left ≡ s
      stays ne =
          ap k.kept (faith.refused (k.lent s) b (f.says (k.lent s) b) left (meets (k.lent s) b) ne)
          ∙ ok.kept_lent s

      -- what is left, as it is lent and as it is kept
      left_holds : k.lending.terminal left ≡ now_by k (k.kept left)
      left_holds = sym (ap k.lending.terminal (ok.lent_kept left)) ∙ ok.held (k.kept left)

      next_is : now_by k (k.kept left) ≡ done.state
      next_is =
          sym left_holds
          ∙ faith.next (k.lent s) b (f.says (k.lent s) b) left (meets (k.lent s) b)
          ∙ ap (λ (t : Kept m). (apply_by m t b).state) (ok.held s)

    -- ---- the laws, from those of the rules' terminals
    module _ (s : State k.Held) (q : List Asked) (sound : (code_terminals k f).Sound s.table)
        (may : (code_terminals k f).Accepts s q) where
      abbrev ran : List Zone
      ran = (ran_by m (k.holds s.table).config (table_of (k.holds s.table).table) q).table

      plan_leads : ((code_terminals k f).number s ((code_terminals k f).encode s q) ≡ 0)
          × ((code_terminals k f).after s ((code_terminals k f).encode s q)
          ≡ record { edition = suc s.edition; table = (code_terminals k f).next s.table q })
      plan_leads =
          let b : List ℕ = plan_bytes_by m (now_by k s) q in
          let r = law.leads (view s) q sound may in
          let n : (f.says (k.lent s) b).number ≡ 0 = number_is s b ∙ r.0 in
          let back : table_of (store m.limits ran) ≡ ran =
          ok.lendable.back (k.holds s.table).config (k.holds s.table).table sound.stands
          (requests_from q) in (
            n,
            moves s b n
                ∙ (λ i. record {
                  edition = (r.1 i).edition;
                  table = k.storing s.table (table_of (r.1 i).table.table);
                })
                ∙ (λ i. record { edition = suc s.edition; table = k.storing s.table (back i) }),
          )

      next_sound : (code_terminals k f).Sound ((code_terminals k f).next s.table q)
      next_sound = subst (SoundHeldBy m) (sym (ok.holds_stored s.table ran)) (law.keeps (view s) q sound may)

    code_law : Lawful (code_terminals k f)
    code_law = record {
      stays = stays;
      fits = λ s b e. law.fits (view s) b (sym (number_is s b) ∙ e);
      tells = λ s t b g h. law.tells (view s) (view t) b g h;
      leads = plan_leads;
      keeps = next_sound;
    }

  -- ---- the planner's states are those of the rules
  module _ (h : k.Held) (asked : ℕ → List Asked) (f : CodeBy k) where
    config_stays : (n : ℕ)
        → (k.holds h).config ≡ (k.holds (table_at (code_terminals k f) (code_planner k h asked f) n)).config
    unfolding table_at
    config_stays zero = sym (ap (λ (x : HeldOf m.Config). x.config) (ok.holds_stored h []))
    config_stays (suc n) =
        config_stays n ∙ sym (ap (λ (x : HeldOf m.Config). x.config) (ok.holds_stored _ _))

    planned_at_law : (n : ℕ) → now_by k (at (code_terminals k f) (code_planner k h asked f) n) ≡ planned_at_by k h asked n
    unfolding planned_by table_at
    planned_at_law zero =
        let e = ok.holds_stored h [] in (λ i. record { config = (e i).config; table = (e i).table; edition = 0 })
    planned_at_law (suc n) =
        let p : (k.holds h).config ≡ (k.holds (table_at (code_terminals k f) (code_planner k h asked f) n)).config =
        config_stays n in
        let q : now_by k (at (code_terminals k f) (code_planner k h asked f) n) ≡ planned_at_by k h asked n = planned_at_law n in
        let e =
        ok.holds_stored (table_at (code_terminals k f) (code_planner k h asked f) n)
        (ran_by m (k.holds (table_at (code_terminals k f) (code_planner k h asked f) n)).config
        (table_of (k.holds (table_at (code_terminals k f) (code_planner k h asked f) n)).table) (asked (suc n))).table in
        (λ i. record { config = (e i).config; table = (e i).table; edition = suc n })
        ∙ (λ i. record {
          config = sym p i;
          table = store m.limits (ran_by m (sym p i) (table_of (q i).table) (asked (suc n))).table;
          edition = suc n;
        })

    file_at : (i : ℕ) → plan_of (code_terminals k f) (code_planner k h asked f) i ≡ plan_at_by k h asked i
    file_at i = ap (λ (s : Kept m). plan_bytes_by m s (asked i)) (planned_at_law (i - 1))

    pub start_sound : GoodConfig m (k.holds h).config → (code_terminals k f).Sound (k.storing h [])
    start_sound good = subst (SoundHeldBy m) (sym (ok.holds_stored h [])) good

pub code_of_steps_is_lawful : (k : Kind) → CodeOfStepsIsLawful k
code_of_steps_is_lawful k ok f meets = code_law k ok f meets

pub code_of_steps_follows : (k : Kind) → CodeOfStepsFollows k
code_of_steps_follows k ok f meets h good asked p =
    let (n, g) =
    always_in_step (code_terminals k f) (code_law k ok f meets) (code_planner k h asked f)
    (start_sound k ok h asked f good) p in
    let x : State k.Held = code_held k h asked f p in
    let s : k.lending.State = k.lent x in
    let back : (b : List ℕ) → k.kept (f.leaves s b) ≡ x → f.leaves s b ≡ s =
    λ b e. sym (ok.lent_kept (f.leaves s b)) ∙ ap k.lent e in (
      n,
      record {
        behind = g.behind;
        holds = ok.held x ∙ ap (now_by k) g.same ∙ planned_at_law k ok h asked f n;
        onward =
            λ l. subst (λ (b : List ℕ). ((f.says s b).number ≡ 0)
            × (k.lending.terminal (f.leaves s b) ≡ planned_at_by k h asked (suc n))) (file_at k ok h asked f (suc n)) (
              (g.onward l).0,
              left_holds k ok f meets x _ ∙ ap (now_by k) (g.onward l).1 ∙ planned_at_law k ok h asked f (suc n),
            );
        others =
            λ i low high ne. subst (TurnsAwayBy k f s) (file_at k ok h asked f i)
            (let r = g.others i low high ne in
            (r.0, back _ r.1));
        stray =
            λ b ne. (let r = g.stray b (λ y. ne y.0
            (subst (λ (t : Kept k.rule). PlanForBy k.rule t b y.0) (sym (ok.held x)) y.1)) in
            (r.0, back b r.1));
      },
    )

-- ---- a history of the rules' terminals, event by event
module _ (k : Kind) (ok : Fits k) (f : CodeBy k) (meets : MeetsBy k f) (h : k.Held) (asked : ℕ → List Asked) where
  abbrev rules : Machine
  rules = terminals_by k.rule (apply_by k.rule)

  abbrev mine : Planner (code_terminals k f)
  mine = code_planner k h asked f

  abbrev theirs : Planner rules
  theirs = planner_by k.rule (apply_by k.rule) (k.holds h).config asked

  abbrev seen : World (code_terminals k f) → World rules
  seen w = record { made = w.made; state = view k ok w.state; held = map (view k ok) w.held }

  at_same : (n : ℕ) → view k ok (at (code_terminals k f) mine n) ≡ at rules theirs n
  at_same n = ap state_of (planned_at_law k ok h asked f n ∙ planned_at_by_law k.rule (k.holds h).config asked n)

  plan_same : (i : ℕ) → plan_of (code_terminals k f) mine i ≡ plan_of rules theirs i
  plan_same i = ap (λ (s : State (HeldOf k.rule.Config)). plan_bytes_by k.rule (terminal s) (asked i)) (at_same (i - 1))

  taken_same : (w : World (code_terminals k f)) (b d : List ℕ) → b ≡ d
      → seen (taken (code_terminals k f) w b) ≡ taken rules (seen w) d
  taken_same w b d e =
      let s : view k ok ((code_terminals k f).after w.state b) ≡ rules.after (view k ok w.state) d =
      ap state_of (next_is k ok f meets w.state b
      ∙ ap (λ (x : List ℕ). (apply_by k.rule (now_by k w.state) x).state) e) in
      (λ i. record { made = w.made; state = s i; held = s i ∷ map (view k ok) w.held })

  event_same : (w : World (code_terminals k f)) (e : Event (List ℕ))
      → seen (happens (code_terminals k f) mine w e) ≡ happens rules theirs (seen w) e
  unfolding happens
  event_same w makes = refl
  event_same w (plan i) = taken_same w (plan_of (code_terminals k f) mine i) (plan_of rules theirs i) (plan_same i)
  event_same w (noise b) = taken_same w b b refl
  event_same w (restart i) =
      let s : view k ok (get_or w.held i (at (code_terminals k f) mine 0))
      ≡ get_or (map (view k ok) w.held) i (at rules theirs 0) =
      sym (get_or-map (view k ok) w.held i (at (code_terminals k f) mine 0))
      ∙ ap (get_or (map (view k ok) w.held) i) (at_same 0) in
      (λ j. record { made = w.made; state = s j; held = map (view k ok) w.held })

  event_legal : (w : World (code_terminals k f)) (e : Event (List ℕ)) → Legal rules theirs (seen w) e
      → Legal (code_terminals k f) mine w e
  event_legal w makes a =
      subst (λ (s : State (HeldOf k.rule.Config)). MayAskBy k.rule (terminal s) (asked (suc w.made)))
      (sym (at_same w.made)) a
  event_legal w (plan i) a = a
  event_legal w (noise b) a = a
  event_legal w (restart i) a =
      let n : length (map (view k ok) w.held) ≡ length w.held = length-map w.held (view k ok) in
      omega arith

  all_legal : (w : World (code_terminals k f)) (es : List (Event (List ℕ))) → AllLegal rules theirs (seen w) es
      → AllLegal (code_terminals k f) mine w es
  all_legal w [] l = tt
  all_legal w (e ∷ es) (a, l) = (
    event_legal w e a,
    all_legal (happens (code_terminals k f) mine w e) es
        (subst (λ (v : World rules). AllLegal rules theirs v es) (sym (event_same w e)) l),
  )

  begin_same : seen (begin (code_terminals k f) mine) ≡ begin rules theirs
  begin_same = λ i. record { made = 0; state = at_same 0 i; held = at_same 0 i ∷ [] }

  along : (es : List (Event (List ℕ))) (l : AllLegal rules theirs (begin rules theirs) es)
      → AllLegal (code_terminals k f) mine (begin (code_terminals k f) mine) es
      × (seen (runs (happens (code_terminals k f) mine) (begin (code_terminals k f) mine) es)
      ≡ runs (happens rules theirs) (begin rules theirs) es)
  along es l = (
    all_legal (begin (code_terminals k f) mine) es
        (subst (λ (v : World rules). AllLegal rules theirs v es) (sym begin_same) l),
    runs_seen seen (happens (code_terminals k f) mine) (happens rules theirs) event_same
        (begin (code_terminals k f) mine) es
        ∙ ap (λ (v : World rules). runs (happens rules theirs) v es) begin_same,
  )

pub code_of_steps_goes_along : (k : Kind) → CodeOfStepsGoesAlong k
code_of_steps_goes_along k ok f meets h asked (es, l) =
    let (legal, e) = along k ok f meets h asked es l in (
      (es, legal),
      refl,
      ap (λ (v : World (rules k ok f meets h asked)). v.made) e,
      ok.held _ ∙ ap (λ (v : World (rules k ok f meets h asked)). terminal v.state) e,
    )

-- the planner's words are the same whichever code runs
same_words : (k : Kind) (h : k.Held) (asked : ℕ → List Asked) (f g : CodeBy k) (n : ℕ)
    → table_at (code_terminals k f) (code_planner k h asked f) n ≡ table_at (code_terminals k g) (code_planner k h asked g) n
unfolding table_at
same_words k h asked f g zero = refl
same_words k h asked f g (suc n) =
    ap (λ (x : k.Held). (code_terminals k f).next x (asked (suc n))) (same_words k h asked f g n)

pub equal_editions_by_code : (k : Kind) → EqualEditionsByCode k
equal_editions_by_code k ok f g mf mg h good asked p q e =
    let n : ℕ = (code_held k h asked g q).edition in
    let a =
    planners_table (code_terminals k f) (code_law k ok f mf) (code_planner k h asked f)
    (start_sound k ok h asked f good) p n e in
    let b =
    planners_table (code_terminals k g) (code_law k ok g mg) (code_planner k h asked g)
    (start_sound k ok h asked g good) q n refl in
    (λ i. k.lent (record { edition = e i; table = (a ∙ same_words k h asked f g n ∙ sym b) i }))

pub lower_is_behind_by_code : (k : Kind) → LowerIsBehindByCode k
lower_is_behind_by_code k ok f meets h good asked p q l =
    let i : ℕ = (code_held k h asked f p).edition in
    let j : ℕ = (code_held k h asked f q).edition in
    ap (λ (g : ℕ → List ℕ). runs f.leaves (code_state k h asked f p) (map g (places (suc i) (j - i))))
    (λ x n. sym (file_at k ok h asked f n) x)
    ∙ sym (runs_seen k.lent (code_terminals k f).after f.leaves
    (λ s b. ok.lent_kept (f.leaves (k.lent s) b)) (code_held k h asked f p)
    (missing (code_terminals k f) (code_planner k h asked f) i j))
    ∙ ap k.lent
    (lower_is_behind (code_terminals k f) (code_law k ok f meets) (code_planner k h asked f)
    (start_sound k ok h asked f good) p q l)

pub never_ahead_by_code : (k : Kind) → NeverAheadByCode k
never_ahead_by_code k ok f meets h good asked p =
    let i : ℕ = (code_held k h asked f p).edition in
    let j : ℕ = code_made k h asked f p in
    let (low, level) =
    never_ahead (code_terminals k f) (code_law k ok f meets) (code_planner k h asked f) (start_sound k ok h asked f good) p in (
      low,
      ap k.lending.terminal
          (ap (λ (g : ℕ → List ℕ). runs f.leaves (code_state k h asked f p) (map g (places (suc i) (j - i))))
          (λ x n. sym (file_at k ok h asked f n) x)
          ∙ sym (runs_seen k.lent (code_terminals k f).after f.leaves
          (λ s b. ok.lent_kept (f.leaves (k.lent s) b)) (code_held k h asked f p)
          (missing (code_terminals k f) (code_planner k h asked f) i j))
          ∙ ap k.lent level)
          ∙ ok.held (at (code_terminals k f) (code_planner k h asked f) j)
          ∙ planned_at_law k ok h asked f j,
    )

-- ---- neighbours
module _ (k : Kind) (ok : Fits k) (f : CodeBy k) (meets : MeetsBy k f) (h : k.Held)
    (good : GoodConfig k.rule (k.holds h).config) (asked : ℕ → List Asked) (p : CodePast k h asked f) where
  abbrev config : k.rule.Config
  config = (k.holds h).config

  planned_edition : (n : ℕ) → (planned_at_by k h asked n).edition ≡ n
  planned_edition n = ap (λ (s : Kept k.rule). s.edition) (planned_at_by_law k.rule config asked n)

  planned_config : (n : ℕ) → (planned_at_by k h asked n).config ≡ config
  unfolding planned_by
  planned_config zero = refl
  planned_config (suc n) = refl

  -- the plans that were made ask for what the rules accept
  made_accepts : (n : ℕ) → n < code_made k h asked f p
      → (ran_by k.rule config (table_of (planned_at_by k h asked n).table) (asked (suc n))).inner ≡ 0
  made_accepts n l =
      let a =
      plans_made (code_terminals k f) (code_law k ok f meets) (code_planner k h asked f) (start_sound k ok h asked f good) p n
      l in
      ap (λ (c : k.rule.Config). (ran_by k.rule c (table_of (planned_at_by k h asked n).table) (asked (suc n))).inner)
      (sym (planned_config n))
      ∙ ap (λ (s : Kept k.rule). (ran_by k.rule s.config (table_of s.table) (asked (suc n))).inner)
      (sym (planned_at_law k ok h asked f n))
      ∙ a.accepted

  -- the words hold the planner's state of their edition
  at_edition_law : ((code_held k h asked f p).edition ≤ code_made k h asked f p)
      × (k.lending.terminal (code_state k h asked f p) ≡ planned_at_by k h asked (code_held k h asked f p).edition)
  at_edition_law =
      let (n, g) = code_of_steps_follows k ok f meets h good asked p in
      let e : (code_held k h asked f p).edition ≡ n =
      ap (λ (s : Kept k.rule). s.edition) (sym (ok.held (code_held k h asked f p)) ∙ g.holds) ∙ planned_edition n in (
        subst (λ (i : ℕ). i ≤ code_made k h asked f p) (sym e) g.behind,
        g.holds ∙ ap (planned_at_by k h asked) (sym e),
      )

pub owe_nothing_by_code : (k : Kind) → OweNothingByCode k
owe_nothing_by_code k ok near f g mf mg h good z asked other p q e =
    let i : ℕ = (code_held k h asked f p).edition in
    let j : ℕ = (code_held k h other g q).edition in
    let (low, one) = at_edition_law k ok f mf h good asked p in
    let (less, two) = at_edition_law k ok g mg h good other q in
    let both =
    planned_alike k.rule ok.proper near (k.holds h).config asked other i j
    (λ n l. made_accepts k ok f mf h good asked p n (omega arith))
    (λ n l. made_accepts k ok g mg h good other q n (omega arith)) z e in
    subst (λ (s : Kept k.rule).
    Alike z (table_of s.table) (table_of (k.lending.terminal (code_state k h other g q)).table)
    × TranslatesAlike z (table_of s.table) (table_of (k.lending.terminal (code_state k h other g q)).table)) (sym one)
    (subst (λ (s : Kept k.rule).
    Alike z (table_of (planned_at_by k h asked i).table) (table_of s.table)
    × TranslatesAlike z (table_of (planned_at_by k h asked i).table) (table_of s.table)) (sym two) both)
