-- One call does what the rules say, since what is stored of a sound table is read back; so do calls in turn, and what
-- is promised of tables that stand holds of the words that they leave.
use Prim.Native.Nat.{ℕ}
use native.Mathlib.Decide.{ℕ_discrete}
use mathlib.Core.Bool.{Bool, false, cond}
use mathlib.Core.List.{List, [], ◌∷◌}
use mathlib.Core.Path.{◌≡◌, refl, sym, ap, subst, ◌∙◌}
use borrow.Author.Tests.{eq-eqb, ne_eqb}
use lib.Dec.{eqb}
use Rattle.lists.proofs.Runs.{in_turn, run_keeps, Seen}
use Rattle.rules.specs.Applying.{store, apply_by, plain_steps, apply, Kept}
use Rattle.rules.specs.Closure.{state_of, Transition}
use Rattle.rules.specs.Configuration.{config_of}
use Rattle.rules.specs.Limits.{limits}
use Rattle.rules.specs.OwnedPlan.{owned_steps}
use Rattle.rules.specs.Requests.{after, next_by}
use Rattle.rules.specs.Run.{requests_in, run_by, ended, Run}
use Rattle.rules.specs.Steps.{StepRule}
use Rattle.rules.specs.Tables.{table_of, Zone, StoredTable}
use Rattle.rules.specs.declared.Outcome.{Outcome}
use Rattle.rules.specs.declared.Request.{Request}
use Rattle.rules.proofs.Run.{goes_on, run_by_keeps}
use Rattle.promises.specs.Outside.{plain_outside, Outside}
use Rattle.promises.specs.Closure.{Corrections}
use Rattle.promises.specs.Owned.{owned_outside}
use Rattle.promises.specs.Standing.{AllRecords, KeptApart}
use Rattle.promises.proofs.Outside.{inside_request_by, answered_stands, unsound_request_by, run_so, plain_is_honest, Honest}
use Rattle.promises.proofs.Owned.{owned_is_honest}
use Rattle.promises.proofs.Standing.{kept_apart, stands_is_sound_by, answered_is_upstream_by, upstream_is_answered}
use Rattle.promises.proofs.Steps.{configuration_stays_by, apply_keeps_sound_by}
use Rattle.zones.specs.Kept.{table_in}
use Rattle.zones.specs.Run.{words_run, run_words}
use Rattle.zones.specs.Step.{words_after, afterwards}
use Rattle.zones.specs.View.{stored_config, stored_table}
use Rattle.zones.specs.Words.{words_of}
use Rattle.zones.proofs.Spelling.{table_view}
use Rattle.owners.specs.Run.{owned_run_words}
use Rattle.plan.specs.Deliveries.{CallsBy, own_number_by, states_lent, Lending, Lendable, FaithfulBy}
use Rattle.plan.proofs.Deliveries.{plainly_lendable}
use Rattle.owned.specs.Deliveries.{owned_lent}
use Rattle.owned.proofs.Deliveries.{owned_lendable}
use Rattle.demands.specs.Requests.{standing_at, StandsAt, number_at, next_at, run_at, CallsHold, CallIsUpstreamBy}
use Rattle.demands.specs.Requests.{CallsKeepApartBy, PlansKeepApartBy, plain_calls, CallIsUpstream, UpstreamIsCalled}
use Rattle.demands.specs.Requests.{CallsKeepApart, PlansKeepApart, bank_calls, BankCallsHold, BankCallIsUpstream}
use Rattle.demands.specs.Requests.{BankCallsKeepApart, BankPlansKeepApart, RequestCalls}
use Rattle.demands.proofs.Following.{all_records_law}

-- what is asked of calls: they answer from outside, and write the words of the next table, or of what a run leaves, or
-- nothing
record Answering (m : StepRule) (o : Outside m) (k : RequestCalls m) : Type 0 where
  pub asks : (w : k.Fixed) (t : List ℕ) (q : Request) (n : ℕ) (u : List ℕ) → k.Asks w t q n u
      → (n ≡ o.answer (k.config w) (stored_table t) q)
      × (u ≡ words_after (o.answer (k.config w) (stored_table t) q) t q)
  pub runs : (w : k.Fixed) (t b : List ℕ) (r : Outcome) (u : List ℕ) → k.Runs w t b r u
      → (r ≡ o.requests (k.config w) (stored_table t) (requests_in b))
      × (u ≡ words_run (m.standing (k.config w) (stored_table t)) (run_at m o k w (table_in t) b) t)
  pub stored : (t : List Zone) → stored_table (words_of t) ≡ store m.limits t
  pub records : (w : k.Fixed) → AllRecords m o (k.config w)

module _ (m : StepRule) (o : Outside m) (ok : Honest m o) (back : Lendable m) (k : RequestCalls m) (so : Answering m o k)
    (w : k.Fixed) where
  abbrev c : m.Config
  c = k.config w

  -- ---- words that were made from what a run leaves
  module _ (t : List ℕ) (z : StandsAt m o k w t) (qs : List Request) (u : List ℕ)
      (e : u ≡ words_of (m.run c (table_in t) qs).table) where
    abbrev left : List Zone
    left = (m.run c (table_in t) qs).table

    made : stored_table u ≡ store m.limits left
    made = ap stored_table e ∙ so.stored left

    made_holds : table_in u ≡ left
    made_holds = ap table_of made ∙ back.back c (stored_table t) z qs

    made_stands : StandsAt m o k w u
    made_stands =
        ap (λ (x : StoredTable). m.standing c x) made
        ∙ ok.proper.stored c left
        (subst (λ (r : Run). ok.proper.Sound c r.table) (sym (ok.proper.runs_so c (table_in t) qs))
        (run_by_keeps (m.refusal c) (m.next c) (ok.proper.Sound c) (ok.proper.keeps c) 0 (table_in t) qs
        (ok.proper.stands c (stored_table t) z)))

  -- ---- one request
  module _ (t : List ℕ) (q : Request) (n : ℕ) (u : List ℕ) (h : k.Asks w t q n u) where
    number_is : n ≡ o.answer c (stored_table t) q
    number_is = (so.asks w t q n u h).0

    refused_stays : (n ≡ 0 → ⊥) → u ≡ t
    refused_stays ne =
        (so.asks w t q n u h).1
        ∙ ap (λ (x : Bool). cond x (words_of (after q.kind q.zone (table_in t))) t)
        (ne_eqb _ 0 (λ z. ne (number_is ∙ z)))

    module _ (z : StandsAt m o k w t) where
      inside : n ≡ number_at m o k w (table_in t) q
      inside = number_is ∙ inside_request_by m o ok c (stored_table t) z q

      -- accepted, the next table is what a run of the one request leaves
      run_of_one : n ≡ 0 → (m.run c (table_in t) (q ∷ [])).table ≡ next_at m o k w (table_in t) q
      unfolding run_by
      run_of_one a =
          ap (λ (r : Run). r.table) (ok.proper.runs_so c (table_in t) (q ∷ [])
          ∙ goes_on (m.refusal c) (m.next c) 0 (table_in t) q [] (ok.number_so c (table_in t) q ∙ sym inside ∙ a))
          ∙ ok.after_so c (table_in t) q

      next_is : n ≡ 0 → after q.kind q.zone (table_in t) ≡ next_at m o k w (table_in t) q
      unfolding next_by
      next_is a =
          sym (ok.leads (o.model c) (table_in t) q
          ∙ ap (λ (x : Bool). cond x (after q.kind q.zone (table_in t)) (table_in t)) (eq-eqb _ 0 (sym inside ∙ a)))

      stays : (n ≡ 0 → ⊥) → table_in t ≡ next_at m o k w (table_in t) q
      unfolding next_by
      stays ne =
          sym (ok.leads (o.model c) (table_in t) q
          ∙ ap (λ (x : Bool). cond x (after q.kind q.zone (table_in t)) (table_in t))
          (ne_eqb _ 0 (λ a. ne (inside ∙ a))))

      written : n ≡ 0 → u ≡ words_of (m.run c (table_in t) (q ∷ [])).table
      written a =
          (so.asks w t q n u h).1
          ∙ ap (λ (x : Bool). cond x (words_of (after q.kind q.zone (table_in t))) t)
          (eq-eqb _ 0 (sym number_is ∙ a))
          ∙ ap words_of (next_is a ∙ sym (run_of_one a))

      step_seen : Seen table_in (number_at m o k w) (next_at m o k w) (StandsAt m o k w) t q n u
      step_seen = elim (ℕ_discrete n 0) [
        | yes a ↦ record {
          says = inside;
          does = made_holds t z (q ∷ []) u (written a) ∙ run_of_one a;
          keeps = made_stands t z (q ∷ []) u (written a);
        }
        | no ne ↦ let e : u ≡ t = refused_stays ne in
            record {
              says = inside;
              does = ap (λ (x : List ℕ). table_in x) e ∙ stays ne;
              keeps = subst (StandsAt m o k w) (sym e) z;
            }
      ]

  -- ---- a run
  module _ (t b : List ℕ) (r : Outcome) (u : List ℕ) (h : k.Runs w t b r u) where
    ran : Run
    ran = run_at m o k w (table_in t) b

    told_by_law : r ≡ cond (eqb (standing_at m o k w t) 0) (ended ran)
        (record { number = standing_at m o k w t; place = 0; inner = 0 })
    unfolding ran
    told_by_law =
        (so.runs w t b r u h).0 ∙ ok.requests_so c (stored_table t) (requests_in b)
        ∙ ap (λ (x : Run). cond (eqb (standing_at m o k w t) 0) (ended x)
        (record { number = standing_at m o k w t; place = 0; inner = 0 })) (sym (run_so m o ok c (table_in t) (requests_in b)))

    run_unsound : (StandsAt m o k w t → ⊥) → (r.number ≡ standing_at m o k w t) × (u ≡ t)
    unfolding ran
    run_unsound ne =
        let f : eqb (standing_at m o k w t) 0 ≡ false = ne_eqb _ 0 ne in (
          ap (λ (x : Outcome). x.number) told_by_law
              ∙ ap (λ (x : Bool). (cond x (ended ran) (record
              { number = standing_at m o k w t; place = 0; inner = 0 })).number) f,
          (so.runs w t b r u h).1 ∙ ap (λ (x : Bool). cond x (words_of ran.table) t) f,
        )

    run_seen : StandsAt m o k w t
        → Seen table_in (λ t b. ended (run_at m o k w t b)) (λ t b. (run_at m o k w t b).table) (StandsAt m o k w) t b r u
    unfolding ran
    run_seen z =
        let e : u ≡ words_of ran.table =
        (so.runs w t b r u h).1 ∙ ap (λ (x : Bool). cond x (words_of ran.table) t) (eq-eqb _ 0 z) in
        record {
          says =
              told_by_law
              ∙ ap (λ (x : Bool). cond x (ended ran) (record
              { number = standing_at m o k w t; place = 0; inner = 0 })) (eq-eqb _ 0 z);
          does = made_holds t z (requests_in b) u e;
          keeps = made_stands t z (requests_in b) u e;
        }

  -- ---- isolation
  apart : (t : List ℕ) → StandsAt m o k w t → KeptApart (o.first c) (table_in t)
  apart t z =
      kept_apart m.limits (o.first c) (table_in t) (stands_is_sound_by m o ok c (stored_table t) (so.records w) z)

module _ (m : StepRule) (o : Outside m) (ok : Honest m o) (back : Lendable m) (k : RequestCalls m) (so : Answering m o k) where
  calls_hold : CallsHold m o k
  calls_hold = record {
    step_holds = λ w t q n u h z. (step_seen m o ok back k so w t q n u h z).does;
    step_stands = λ w t q n u h z. (step_seen m o ok back k so w t q n u h z).keeps;
    step_refused = λ w t q n u h ne. refused_stays m o ok back k so w t q n u h ne;
    step_unsound =
        λ w t q n u h ne. number_is m o ok back k so w t q n u h
        ∙ unsound_request_by m o ok (k.config w) (stored_table t) ne q;
    run_holds = λ w t b r u h z. (run_seen m o ok back k so w t b r u h z).does;
    run_stands = λ w t b r u h z. (run_seen m o ok back k so w t b r u h z).keeps;
    run_unsound = λ w t b r u h ne. run_unsound m o ok back k so w t b r u h ne;
    steps =
        λ w t qs ns u h z. in_turn table_in (number_at m o k w) (next_at m o k w) (StandsAt m o k w) (k.Asks w)
        (step_seen m o ok back k so w) h z;
    runs_too =
        λ w t bs rs u h z. in_turn table_in (λ t b. ended (run_at m o k w t b)) (λ t b. (run_at m o k w t b).table)
        (StandsAt m o k w) (k.Runs w) (λ t b r u h z. run_seen m o ok back k so w t b r u h z) h z;
  }

  call_is_upstream_by : CallIsUpstreamBy m o k
  call_is_upstream_by w t q n u h e =
      let c : m.Config = k.config w in
      let zero : o.answer c (stored_table t) q ≡ 0 = sym (number_is m o ok back k so w t q n u h) ∙ e in
      let st = answered_stands m o ok c (stored_table t) q zero in
      subst (λ (v : List Zone).
      Transition m.limits (config_of (o.first c)) q.kind q.zone (state_of (table_in t)) (state_of v)
      × Corrections m.limits q.kind q.zone (table_in t)) (sym (step_seen m o ok back k so w t q n u h st).does)
      (answered_is_upstream_by m o ok c (stored_table t) q (so.records w) zero)

  calls_keep_apart_by : CallsKeepApartBy m o k
  calls_keep_apart_by = record {
    steps = λ w t qs ns u h z. apart m o ok back k so w u (calls_hold.steps w t qs ns u h z).2;
    runs = λ w t bs rs u h z. apart m o ok back k so w u (calls_hold.runs_too w t bs rs u h z).2;
  }

-- ---- plans
module _ (m : StepRule) (o : Outside m) (ok : Honest m o) (l : Lending m) where
  -- what every delivery keeps
  Standing : m.Config → Kept m → Type 0
  Standing c s = (s.config ≡ c) × (m.standing s.config s.table ≡ 0)

  stays_standing : (c : m.Config) (s : Kept m) (b : List ℕ) → Standing c s → Standing c (o.deliver s b).state
  unfolding Standing
  stays_standing c s b (e, z) =
      subst (λ (x : Kept m). (x.config ≡ c) × (m.standing x.config x.table ≡ 0))
      (sym (ap (λ x. x.state) (ok.deliver_so s b)))
      (configuration_stays_by m s b ∙ e, apply_keeps_sound_by m ok.proper s b z)

  plans_keep_apart_by : PlansKeepApartBy m o l
  unfolding Standing
  plans_keep_apart_by Call faithful s bs os u calls full z =
      let c : m.Config = (l.terminal s).config in
      let (e, st) =
      subst (λ (x : Kept m). (x.config ≡ c) × (m.standing x.config x.table ≡ 0))
      (sym (faithful.in_turn s bs os u calls).1)
      (run_keeps (λ s b. (o.deliver s b).state) (Standing c) (stays_standing c) (l.terminal s) bs (refl, z)) in
      kept_apart m.limits (o.first c) (table_of (l.terminal u).table)
      (stands_is_sound_by m o ok c (l.terminal u).table full
      (subst (λ (x : m.Config). m.standing x (l.terminal u).table ≡ 0) e st))

-- ---- both kinds
plain_answering : Answering (plain_steps limits) (plain_outside limits) plain_calls
unfolding afterwards run_words
plain_answering = record {
  asks = λ w t q n u h. (h.number, h.table);
  runs = λ w t b r u h. (h.answer, h.table);
  stored = table_view;
  records = all_records_law;
}

pub call_is_upstream : CallIsUpstream
call_is_upstream =
    call_is_upstream_by (plain_steps limits) (plain_outside limits) (plain_is_honest limits) plainly_lendable plain_calls
    plain_answering

pub upstream_is_called : UpstreamIsCalled
upstream_is_called c t q n u v h z tr co =
    let (e, w) = upstream_is_answered limits (stored_config c) (stored_table t) q v (all_records_law c) z tr co in (
      h.number ∙ e,
      ap state_of (step_seen (plain_steps limits) (plain_outside limits) (plain_is_honest limits) plainly_lendable plain_calls
          plain_answering c t q n u h z).does
          ∙ w,
    )

pub calls_keep_apart : CallsKeepApart
calls_keep_apart =
    calls_keep_apart_by (plain_steps limits) (plain_outside limits) (plain_is_honest limits) plainly_lendable plain_calls
    plain_answering

pub plans_keep_apart : PlansKeepApart
plans_keep_apart = plans_keep_apart_by (plain_steps limits) (plain_outside limits) (plain_is_honest limits) states_lent

bank_answering : Answering (owned_steps limits) (owned_outside limits) bank_calls
unfolding owned_run_words
bank_answering = record {
  asks = λ w t q n u h. (h.number, h.table);
  runs = λ w t b r u h. (h.answer, h.table);
  stored = table_view;
  records = λ w. all_records_law w.0;
}

pub bank_calls_hold : BankCallsHold
bank_calls_hold =
    calls_hold (owned_steps limits) (owned_outside limits) (owned_is_honest limits) owned_lendable bank_calls bank_answering

pub bank_call_is_upstream : BankCallIsUpstream
bank_call_is_upstream =
    call_is_upstream_by (owned_steps limits) (owned_outside limits) (owned_is_honest limits) owned_lendable bank_calls
    bank_answering

pub bank_calls_keep_apart : BankCallsKeepApart
bank_calls_keep_apart =
    calls_keep_apart_by (owned_steps limits) (owned_outside limits) (owned_is_honest limits) owned_lendable bank_calls
    bank_answering

pub bank_plans_keep_apart : BankPlansKeepApart
bank_plans_keep_apart = plans_keep_apart_by (owned_steps limits) (owned_outside limits) (owned_is_honest limits) owned_lent
