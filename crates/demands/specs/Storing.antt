-- Demand 3 of the code of terminals whose state is in storage, by any step rule: the slots are words, and a delivery is a
-- call that leaves words in the other slot. Document 01's terminals are one kind, those with owners another.
use Rattle.std.specs.Prelude.{ℕ, Bool, cond, List, ◌≡◌, eqb}
use Rattle.rules.specs.Applying.{store, apply_by, plain_steps}
use Rattle.rules.specs.Limits.{limits, Sayable}
use Rattle.rules.specs.OwnedPlan.{owned_steps}
use Rattle.rules.specs.Plan.{Asked}
use Rattle.rules.specs.Steps.{StepRule}
use Rattle.rules.specs.Tables.{Zone}
use Rattle.promises.specs.OwnedConfiguration.{OwnedPassed}
use Rattle.promises.specs.Steps.{terminals_by, planner_by, GoodConfig, Proper}
use Rattle.promises.specs.Storing.{StoredFollows, Slots, Works}
use Rattle.promises.specs.StoringSteps.{SlotsFollow}
use Rattle.zones.specs.View.{stored_config, stored_table, ConfigPassed}
use Rattle.zones.specs.Words.{words_of}
use Rattle.owners.specs.View.{stored_owned}
use Rattle.plan.specs.Applying.{state_in}
use Rattle.plan.specs.Deliveries.{Lendable}
use Rattle.plan.specs.Steps.{kept_in, AppliedBy}
use Rattle.storage.specs.Beside.{PreparedBy}
use Rattle.storage.specs.declared.Prepared.{Prepared}
use Rattle.demands.specs.Pieces.{InPieces}

-- ---- the code
-- what a call at an edition with the words of the current slot, those that lie in the other, and bytes answers; and the
-- words that it leaves in the other
pub record BesideCode : Type 0 where
  pub says : ℕ → List ℕ → List ℕ → List ℕ → Prepared
  pub leaves : ℕ → List ℕ → List ℕ → List ℕ → List ℕ

-- what is asked of the step rule: it is proper, and what is stored as words is read back
pub record InWords (m : StepRule) : Type 1 where
  pub proper : Proper m
  pub sayable : Sayable m.limits
  pub lendable : Lendable m
  pub view : (t : List Zone) → stored_table (words_of t) ≡ store m.limits t

module _ (m : StepRule) where
  -- one call: the rules' answer; what is current afterwards, the words left in the other slot after 0 and else those that
  -- were, is the rules' next table; and the mark to write is its edition
  pub record CalledBeside (c : m.Config) (t : List ℕ) (e : ℕ) (b : List ℕ) (r : Prepared) (u : List ℕ) : Type 0 where
    pub applied : AppliedBy m c t e b r.outcome (cond (eqb r.outcome.number 0) u t)
    pub mark : r.mark ≡ (apply_by m (kept_in m c t e) b).state.edition

  -- the code says this of every call
  abbrev pub BesideMeets : m.Config → BesideCode → Type 0
  BesideMeets c f = (e : ℕ) (t y b : List ℕ) → CalledBeside c t e b (f.says e t y b) (f.leaves e t y b)

  -- ---- the slots: words under the configuration c, and what calls leave in the other one
  abbrev pub word_slots : BesideCode → (ℕ → List ℕ → List ℕ → Bool) → m.Config → Slots (terminals_by m (apply_by m))
  word_slots f touched c = record {
    Words = List ℕ;
    holds = λ w. record { config = c; table = stored_table w };
    worked = f.leaves;
    touched = touched;
  }

  -- they meet what is asked of slots
  abbrev pub WordSlotsWork : Type 1
  WordSlotsWork =
      InWords m → (f : BesideCode) (touched : ℕ → List ℕ → List ℕ → Bool) (c : m.Config) → BesideMeets c f
      → Works (terminals_by m (apply_by m)) (word_slots f touched c)

  -- so, whatever happened and wherever the power was cut: the words of the slot that the mark names hold exactly the
  -- planner's table of some edition, the next plan brings the next edition, and all else is refused; and no edition that
  -- was told is above. So it is whichever refusals touch the other slot
  abbrev pub StoredWordsFollow : Type 1
  StoredWordsFollow =
      InWords m → (f : BesideCode) (touched : ℕ → List ℕ → List ℕ → Bool) (c : m.Config) → BesideMeets c f
      → GoodConfig m c → (asked : ℕ → List Asked) → SlotsFollow m (apply_by m) (word_slots f touched c) c asked

  -- and task by task
  abbrev pub StoredWordsTasks : Type 0
  StoredWordsTasks =
      (f : BesideCode) (touched : ℕ → List ℕ → List ℕ → Bool) (c : m.Config) (asked : ℕ → List Asked)
      → StoredFollows (terminals_by m (apply_by m)) (word_slots f touched c) (planner_by m (apply_by m) c asked)

-- ---- document 01's terminals: calls of `storage::apply_beside`, and of the library's `peatmitten_beside_words`
abbrev pub StoredCallsFollow : Type 0
StoredCallsFollow =
    (c : List ℕ) → ConfigPassed c → (f : BesideCode)
    → ((e : ℕ) (t y b : List ℕ)
    → PreparedBy (plain_steps limits) (stored_config c) t y e b (f.says e t y b) (f.leaves e t y b))
    → (touched : ℕ → List ℕ → List ℕ → Bool) (asked : ℕ → List Asked)
    → SlotsFollow (plain_steps limits) (apply_by (plain_steps limits)) (word_slots (plain_steps limits) f touched (stored_config c))
    (stored_config c) asked

-- ---- plans in pieces: the current table is copied to the other slot, and the end call of `receiver` is made there
abbrev pub StoredPiecesFollow : Type 0
StoredPiecesFollow =
    (c : List ℕ) → ConfigPassed c → (f : BesideCode)
    → ((e : ℕ) (t y b : List ℕ)
    → InPieces (state_in c t e) b (f.says e t y b).outcome (state_in c (f.leaves e t y b) (f.says e t y b).mark))
    → (touched : ℕ → List ℕ → List ℕ → Bool) (asked : ℕ → List Asked)
    → SlotsFollow (plain_steps limits) (apply_by (plain_steps limits)) (word_slots (plain_steps limits) f touched (stored_config c))
    (stored_config c) asked

-- ---- terminals with owners: calls of `owned_storage::apply_beside`, and of the library's `peatmitten_bank_beside_words`
abbrev pub StoredBankFollows : Type 0
StoredBankFollows =
    (c o : List ℕ) → OwnedPassed limits (stored_owned c o) → (f : BesideCode)
    → ((e : ℕ) (t y b : List ℕ)
    → PreparedBy (owned_steps limits) (stored_owned c o) t y e b (f.says e t y b) (f.leaves e t y b))
    → (touched : ℕ → List ℕ → List ℕ → Bool) (asked : ℕ → List Asked)
    → SlotsFollow (owned_steps limits) (apply_by (owned_steps limits)) (word_slots (owned_steps limits) f touched (stored_owned c o))
    (stored_owned c o) asked
