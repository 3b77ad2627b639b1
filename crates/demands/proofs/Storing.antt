-- Terminals in storage, of the code: what a call leaves in the other slot holds the rules' next table, so the slots meet what
-- is asked of them, and the rest is said of every machine.
use Prim.Native.Nat.{ℕ}
use mathlib.Core.Bool.{Bool, true, false, cond}
use mathlib.Core.List.{List}
use mathlib.Core.Path.{◌≡◌, refl, sym, ap, ◌∙◌}
use borrow.Author.Tests.{eqb-true, eq-eqb}
use lib.Dec.{eqb}
use Rattle.rules.specs.Applying.{store, moved, Kept, apply_by, plain_steps, apply, Terminal}
use Rattle.rules.specs.Limits.{limits}
use Rattle.rules.specs.OwnedPlan.{owned_steps}
use Rattle.rules.specs.Plan.{requests_from}
use Rattle.rules.specs.Steps.{StepRule}
use Rattle.rules.specs.Tables.{table_of}
use Rattle.rules.specs.declared.Outcome.{Outcome}
use Rattle.rules.proofs.Applying.{moved_by}
use Rattle.rules.proofs.Planner.{limits_sayable}
use Rattle.promises.specs.Editions.{State}
use Rattle.promises.specs.Steps.{terminals_by, planner_by}
use Rattle.promises.proofs.Owned.{owned_is_proper, owned_passed_is_good}
use Rattle.promises.proofs.Storing.{stored_follows}
use Rattle.promises.proofs.StoringSteps.{raised, any_slots_follow}
use Rattle.promises.proofs.Terminals.{plain_is_proper, passed_is_good}
use Rattle.zones.specs.View.{stored_config, stored_table}
use Rattle.zones.specs.Words.{words_of}
use Rattle.zones.proofs.Spelling.{table_view}
use Rattle.owners.specs.View.{stored_owned}
use Rattle.plan.specs.Applying.{state_in}
use Rattle.plan.specs.Steps.{kept_in}
use Rattle.plan.specs.declared.applying.State as words
use Rattle.plan.proofs.Deliveries.{plainly_lendable}
use Rattle.owned.proofs.Deliveries.{owned_lendable}
use Rattle.storage.specs.Beside.{PreparedBy}
use Rattle.storage.specs.declared.Prepared.{Prepared}
use Rattle.demands.specs.Pieces.{InPieces}
use Rattle.demands.specs.Storing.{word_slots, WordSlotsWork, StoredWordsFollow, StoredWordsTasks, StoredCallsFollow}
use Rattle.demands.specs.Storing.{StoredPiecesFollow, StoredBankFollows, InWords, CalledBeside}
use Rattle.demands.proofs.Following.{all_records_law}
use Rattle.demands.proofs.Pieces.{pieces_are_faithful}

-- ---- by any step rule
module _ (m : StepRule) where
  -- after 0 the words that were left hold the rules' next table
  module _ (ok : InWords m) (c : m.Config) (t : List ℕ) (e : ℕ) (b : List ℕ) (r : Prepared) (u : List ℕ)
      (h : CalledBeside m c t e b r u) (z : (apply_by m (kept_in m c t e) b).outcome.number ≡ 0) where
    zero_said : r.outcome.number ≡ 0
    zero_said = ap (λ (o : Outcome). o.number) h.applied.answer ∙ z

    left_is : u ≡ words_of (table_of (apply_by m (kept_in m c t e) b).state.table)
    left_is =
        let yes : eqb r.outcome.number 0 ≡ true = eq-eqb _ 0 zero_said in
        sym (ap (λ (x : Bool). cond x u t) yes)
        ∙ h.applied.table
        ∙ ap (λ (x : Bool). cond x (words_of (table_of (apply_by m (kept_in m c t e) b).state.table)) t) yes

    -- what requests leave is read back as it was stored
    read_back : store m.limits (table_of (apply_by m (kept_in m c t e) b).state.table)
        ≡ (apply_by m (kept_in m c t e) b).state.table
    unfolding moved
    read_back =
        let (stands, p, to) = moved_by m (kept_in m c t e) b (ok.lendable.refuses b) z in
        ap (λ (k : Kept m). store m.limits (table_of k.table)) to
        ∙ ap (store m.limits) (ok.lendable.back c (stored_table t) stands (requests_from (m.asked p)))
        ∙ sym (ap (λ (k : Kept m). k.table) to)

    left_holds : stored_table u ≡ (apply_by m (kept_in m c t e) b).state.table
    left_holds = ap stored_table left_is ∙ ok.view _ ∙ read_back

  pub word_slots_work : WordSlotsWork m
  word_slots_work ok f touched c meets = record {
    accepted =
        λ e t y b z. (let up = raised m ok.proper (kept_in m c t e) b z in
        let held = left_holds ok c t e b (f.says e t y b) (f.leaves e t y b) (meets e t y b) z in
        (λ i. record {
          edition = (up i).edition;
          table = record { config = (up i).table.config; table = sym held i };
        }));
  }

  pub stored_words_tasks : StoredWordsTasks m
  stored_words_tasks f touched c asked law works =
      stored_follows (terminals_by m (apply_by m)) (word_slots m f touched c) (planner_by m (apply_by m) c asked) law works

  pub stored_words_follow : StoredWordsFollow m
  stored_words_follow ok f touched c meets good asked h =
      any_slots_follow m ok.proper ok.sayable (word_slots m f touched c) (word_slots_work ok f touched c meets) c good
      asked h

  -- a call beside says more: which refusals leave the other slot
  prepared_called : (c : m.Config) (t y : List ℕ) (e : ℕ) (b : List ℕ) (r : Prepared) (u : List ℕ)
      → PreparedBy m c t y e b r u → CalledBeside m c t e b r u
  prepared_called c t y e b r u p = record { applied = p.beside.applied; mark = p.mark }

-- ---- document 01's terminals
pub plainly_in_words : InWords (plain_steps limits)
plainly_in_words = record {
  proper = plain_is_proper limits;
  sayable = limits_sayable;
  lendable = plainly_lendable;
  view = table_view;
}

pub stored_calls_follow : StoredCallsFollow
stored_calls_follow c ok f calls touched asked h =
    stored_words_follow (plain_steps limits) plainly_in_words f touched (stored_config c)
    (λ e t y b. prepared_called (plain_steps limits) (stored_config c) t y e b _ _ (calls e t y b))
    (passed_is_good limits (stored_config c) (all_records_law c, ok)) asked h

-- ---- plans in pieces
module _ (c t : List ℕ) (e : ℕ) (b : List ℕ) (r : Prepared) (u : List ℕ)
    (d : InPieces (state_in c t e) b r.outcome (state_in c u r.mark)) where
  abbrev told : Kept (plain_steps limits)
  told = (apply_by (plain_steps limits) (kept_in (plain_steps limits) (stored_config c) t e) b).state

  pieces_called : CalledBeside (plain_steps limits) (stored_config c) t e b r u
  unfolding apply
  pieces_called = record {
    applied = record {
      answer = pieces_are_faithful.answer (state_in c t e) b r.outcome (state_in c u r.mark) d;
      table = by (eqb r.outcome.number 0) refl;
    };
    mark =
        ap (λ (s : Terminal). s.edition)
        (pieces_are_faithful.next (state_in c t e) b r.outcome (state_in c u r.mark) d);
  }
    where
      by : (x : Bool) → eqb r.outcome.number 0 ≡ x
          → cond (eqb r.outcome.number 0) u t ≡ cond (eqb r.outcome.number 0) (words_of (table_of told.table)) t
      by true q =
          ap (λ (x : Bool). cond x u t) q
          ∙ ap (λ (s : words.State). s.table.words)
          (pieces_are_faithful.accepted (state_in c t e) b r.outcome (state_in c u r.mark) d (eqb-true _ _ q))
          ∙ sym (ap (λ (x : Bool). cond x (words_of (table_of told.table)) t) q)
      by false q =
          ap (λ (x : Bool). cond x u t) q
          ∙ sym (ap (λ (x : Bool). cond x (words_of (table_of told.table)) t) q)

pub stored_pieces_follow : StoredPiecesFollow
stored_pieces_follow c ok f calls touched asked h =
    stored_words_follow (plain_steps limits) plainly_in_words f touched (stored_config c)
    (λ e t y b. pieces_called c t e b (f.says e t y b) (f.leaves e t y b) (calls e t y b))
    (passed_is_good limits (stored_config c) (all_records_law c, ok)) asked h

-- ---- terminals with owners
pub owned_in_words : InWords (owned_steps limits)
owned_in_words = record {
  proper = owned_is_proper limits;
  sayable = limits_sayable;
  lendable = owned_lendable;
  view = table_view;
}

pub stored_bank_follows : StoredBankFollows
stored_bank_follows c o ok f calls touched asked h =
    stored_words_follow (owned_steps limits) owned_in_words f touched (stored_owned c o)
    (λ e t y b. prepared_called (owned_steps limits) (stored_owned c o) t y e b _ _ (calls e t y b))
    (owned_passed_is_good limits (stored_owned c o) ok) asked h
