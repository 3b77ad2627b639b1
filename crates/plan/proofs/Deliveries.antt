-- A call that says what the rules say leaves words that hold the rules' next state, since what is stored is read back; so
-- calls in turn do what the rules do in turn.
use Prim.Native.Nat.{ℕ, ◌+◌}
use mathlib.Core.Bool.{Bool, true, false, cond}
use mathlib.Core.List.{List}
use mathlib.Core.Path.{◌≡◌, refl, sym, ap, subst, ◌∙◌}
use borrow.Author.Tests.{eqb-true, eqb-false, eq-eqb, ne_eqb}
use lib.Dec.{eqb}
use Rattle.lists.specs.Runs.{none, call, InTurn}
use Rattle.lists.proofs.Runs.{in_turn, Seen}
use Rattle.formats.specs.Formats.{All}
use Rattle.rules.specs.Applying.{store, plain, moved, apply_by, plain_steps, apply, AppliedOf}
use Rattle.rules.specs.Configuration.{config_of}
use Rattle.rules.specs.Limits.{limits}
use Rattle.rules.specs.Plan.{requests_from}
use Rattle.rules.specs.Steps.{StepRule}
use Rattle.rules.specs.Tables.{table_of}
use Rattle.rules.specs.declared.Outcome.{Outcome}
use Rattle.rules.proofs.Applying.{unsound_by, refused_by, moved_by}
use Rattle.rules.proofs.Plan.{plan_refuses}
use Rattle.rules.proofs.Stored.{table_back, stands_well, run_from_keeps}
use Rattle.zones.proofs.Spelling.{table_view}
use Rattle.plan.specs.Applying.{terminal_in, state_for, in_words, applied}
use Rattle.plan.specs.Deliveries.{CallsBy, own_number_by, StepsAreFaithful, states_lent, Calls, Called, Faithful}
use Rattle.plan.specs.Deliveries.{ApplyIsFaithful, Lending, Stores, Lendable, CalledBy, FaithfulBy}
use Rattle.plan.specs.declared.applying.Applied.{Applied}
use Rattle.plan.specs.declared.applying.State.{State}

module _ (m : StepRule) (l : Lending m) (ok : Lendable m) (stores : Stores m l) where
  -- ---- one call
  module _ (s : l.State) (b : List ℕ) (o : Outcome) (u : l.State) (h : CalledBy m l s b o u) where
    abbrev done : AppliedOf m.Config
    done = apply_by m (l.terminal s) b

    abbrev either : Bool → l.State
    either x = cond x (l.next s done.state) s

    number_is : o.number ≡ done.outcome.number
    number_is = ap (λ (x : Outcome). x.number) h.answer

    accepted_moves : o.number ≡ 0 → u ≡ l.next s done.state
    accepted_moves z = h.state ∙ ap (λ (x : Bool). either x) (eq-eqb _ 0 z)

    refused_stays : (o.number ≡ 0 → ⊥) → u ≡ s
    refused_stays ne = h.state ∙ ap (λ (x : Bool). either x) (ne_eqb _ 0 ne)

    -- after 0 what is held is what was stored, and that is read back
    moved_holds : o.number ≡ 0 → l.terminal u ≡ done.state
    unfolding moved
    moved_holds z =
        let (stands, p, e) = moved_by m (l.terminal s) b (ok.refuses b) (sym number_is ∙ z) in
        ap l.terminal (accepted_moves z)
        ∙ stores.held s done.state
        ∙ (λ i. record {
          config = (l.terminal s).config;
          table = store m.limits (table_of (e i).table);
          edition = (e i).edition;
        })
        ∙ (λ i. record {
          config = (l.terminal s).config;
          table =
              store m.limits
              (ok.back (l.terminal s).config (l.terminal s).table stands (requests_from (m.asked p)) i);
          edition = (l.terminal s).edition + 1;
        })
        ∙ sym e

    next_is : l.terminal u ≡ done.state
    next_is = by (eqb o.number 0) refl
      where
        by : (x : Bool) → eqb o.number 0 ≡ x → l.terminal u ≡ done.state
        by true e = moved_holds (eqb-true _ _ e)
        by false e =
            ap l.terminal (refused_stays (eqb-false _ _ e))
            ∙ sym (refused_by m (l.terminal s) b (λ z. eqb-false _ _ e (number_is ∙ z)))

    config_stays : l.config u ≡ l.config s
    config_stays = ap l.config h.state ∙ by (eqb o.number 0)
      where
        by : (x : Bool) → l.config (either x) ≡ l.config s
        by true = stores.config s done.state
        by false = refl

    unsound_stays : (own_number_by m l s ≡ 0 → ⊥) → (o ≡ plain (own_number_by m l s) 0) × (u ≡ s)
    unsound_stays ne =
        let e : o ≡ plain (own_number_by m l s) 0 =
        h.answer ∙ ap (λ (a : AppliedOf m.Config). a.outcome) (unsound_by m (l.terminal s) b ne) in
        (e, refused_stays (λ z. ne (sym (ap (λ (x : Outcome). x.number) e) ∙ z)))

    seen : Seen l.terminal (λ t b. (apply_by m t b).outcome) (λ t b. (apply_by m t b).state) (λ (x : l.State). Unit {0}) s
        b o u
    seen = record { says = h.answer; does = next_is; keeps = tt }

  -- ---- any calls that are such calls
  module _ (Call : CallsBy m l)
      (is : (s : l.State) (b : List ℕ) (o : Outcome) (u : l.State) → Call s b o u → CalledBy m l s b o u) where
    all_refused : {s u : l.State} {bs : List (List ℕ)} {os : List Outcome} → InTurn Call s bs os u
        → All (λ (o : Outcome). o.number ≡ 0 → ⊥) os → u ≡ s
    all_refused none ne = refl
    all_refused (call {s} {t} {q = b} {a = o} c cs) (ne, nes) =
        all_refused cs nes ∙ refused_stays s b o t (is s b o t c) ne

    all_unsound : {s u : l.State} {bs : List (List ℕ)} {os : List Outcome} (w : l.State) → InTurn Call s bs os u → s ≡ w
        → (own_number_by m l w ≡ 0 → ⊥) → All (λ (o : Outcome). o ≡ plain (own_number_by m l w) 0) os × (u ≡ w)
    all_unsound w none e ne = (tt, e)
    all_unsound w (call {s} {t} {q = b} {a = o} c cs) e ne =
        let (a, k) =
        unsound_stays w b o t (subst (λ (x : l.State). CalledBy m l x b o t) e (is s b o t c)) ne in
        let (rest, r) = all_unsound w cs k ne in
        ((a, rest), r)

    pub faithful_by : FaithfulBy m l (apply_by m) Call
    faithful_by = record {
      answer = λ s b o u c. (is s b o u c).answer;
      next = λ s b o u c. next_is s b o u (is s b o u c);
      accepted = λ s b o u c. accepted_moves s b o u (is s b o u c);
      refused = λ s b o u c. refused_stays s b o u (is s b o u c);
      config = λ s b o u c. config_stays s b o u (is s b o u c);
      in_turn =
          λ s bs os u cs. (let r = in_turn l.terminal (λ t b. (apply_by m t b).outcome) (λ t b. (apply_by m t b).state)
          (λ (x : l.State). Unit {0}) Call (λ s b o u c k. seen s b o u (is s b o u c)) cs tt in
          (r.0, r.1));
      all_refused = λ s bs os u cs ne. all_refused cs ne;
      unsound = λ s bs os u cs ne. all_unsound s cs refl ne;
    }

pub steps_are_faithful : (m : StepRule) (l : Lending m) → StepsAreFaithful m l
steps_are_faithful m l ok stores Call is = faithful_by m l ok stores Call is

-- ---- document 01's terminals
pub plainly_lendable : Lendable (plain_steps limits)
plainly_lendable = record {
  back =
      λ c t z qs. table_back limits (config_of c) _
      (run_from_keeps limits (config_of c) 0 (table_of t) qs (stands_well limits c t z).1);
  refuses = λ b k t e. plan_refuses limits b k t e;
}

pub states_store : Stores (plain_steps limits) states_lent
states_store = record {
  held =
      λ s t i. record {
        config = (terminal_in s).config;
        table = table_view (table_of t.table) i;
        edition = t.edition;
      };
  config = λ s t. refl;
}

pub called_by : (s : State) (b : List ℕ) (o : Outcome) (u : State) → Called s b o u
    → CalledBy (plain_steps limits) states_lent s b o u
unfolding applied in_words apply
called_by s b o u h =
    let e : o ≡ (apply_by (plain_steps limits) (terminal_in s) b).outcome = ap (λ (a : Applied). a.outcome) h in record {
      answer = e;
      state =
          ap (λ (a : Applied). a.state) h
          ∙ ap (λ (x : Outcome). cond (eqb x.number 0)
          (state_for s (apply_by (plain_steps limits) (terminal_in s) b).state) s) (sym e);
    }

pub faithful : (Call : Calls)
    → ((s : State) (b : List ℕ) (o : Outcome) (u : State) → Call s b o u → Called s b o u) → Faithful Call
unfolding apply
faithful Call is =
    steps_are_faithful (plain_steps limits) states_lent plainly_lendable states_store Call
    (λ s b o u c. called_by s b o u (is s b o u c))

pub apply_is_faithful : ApplyIsFaithful
apply_is_faithful = faithful Called (λ s b o u c. c)
