-- Plans delivered to a state that is words, one after another: what a caller may count on. It is said of the terminals of any
-- step rule; document 01's are one kind.
use Rattle.std.specs.Prelude.{ℕ, cond, List, ◌≡◌, eqb}
use Rattle.lists.specs.Runs.{runs, told, InTurn}
use Rattle.formats.specs.Formats.{bad, All}
use Rattle.rules.specs.Applying.{store, plain, Kept, apply_by, plain_steps, apply, Terminal, AppliedOf}
use Rattle.rules.specs.Limits.{limits}
use Rattle.rules.specs.Requests.{standing}
use Rattle.rules.specs.Steps.{StepRule}
use Rattle.rules.specs.Tables.{table_of, StoredTable}
use Rattle.rules.specs.declared.Outcome.{Outcome}
use Rattle.rules.specs.declared.Request.{Request}
use Rattle.zones.specs.declared.config.Config.{Config}
use Rattle.plan.specs.Applying.{terminal_in, state_for, applied}
use Rattle.plan.specs.declared.applying.State.{State}

-- ---- states that are words
-- of a step rule's terminals
pub record Lending (m : StepRule) : Type 1 where
  -- the words of a state, and the part of them that no call changes
  pub State : Type 0
  pub Fixed : Type 0
  pub config : State → Fixed
  -- the terminal that they hold; and the words of a terminal's next state, where these were lent
  pub terminal : State → Kept m
  pub next : State → Kept m → State

-- what is stored in them is held
pub record Stores (m : StepRule) (l : Lending m) : Type 0 where
  pub held : (s : l.State) (t : Kept m)
      → l.terminal (l.next s t)
      ≡ record {
        config = (l.terminal s).config;
        table = store m.limits (table_of t.table);
        edition = t.edition;
      }
  pub config : (s : l.State) (t : Kept m) → l.config (l.next s t) ≡ l.config s

-- what is asked of the step rule: what requests leave at a state that stands is read back as it was stored, and no
-- refusal of bytes has number 0
pub record Lendable (m : StepRule) : Type 0 where
  pub back : (c : m.Config) (t : StoredTable) → m.standing c t ≡ 0 → (qs : List Request)
      → table_of (store m.limits (m.run c (table_of t) qs).table) ≡ (m.run c (table_of t) qs).table
  pub refuses : (b : List ℕ) (k : ℕ) (t : List ℕ) → m.read b ≡ bad k t → k ≡ 0 → ⊥

module _ (m : StepRule) (l : Lending m) where
  -- what is said of one call: the state that it had, the bytes, the answer, and the state that it left
  abbrev pub CallsBy : Type 1
  CallsBy = l.State → List ℕ → Outcome → l.State → Type 0

  -- what code for the step rule says: the rules' answer; and the words of the rules' next state after 0, else those that
  -- were lent
  pub record CalledBy (s : l.State) (b : List ℕ) (o : Outcome) (u : l.State) : Type 0 where
    pub answer : o ≡ (apply_by m (l.terminal s) b).outcome
    pub state : u ≡ cond (eqb o.number 0) (l.next s (apply_by m (l.terminal s) b).state) s

  -- 1 or 2, or 0 where neither applies
  abbrev pub own_number_by : l.State → ℕ
  own_number_by s = m.standing (l.terminal s).config (l.terminal s).table

  -- a delivery by the rules: `apply_by`, or the name that a machine has for it
  module _ (deliver : Kept m → List ℕ → AppliedOf m.Config) where
    abbrev pub says_by : Kept m → List ℕ → Outcome
    says_by t b = (deliver t b).outcome

    abbrev pub leaves_by : Kept m → List ℕ → Kept m
    leaves_by t b = (deliver t b).state

    -- such calls do what the rules say, at any words
    pub record FaithfulBy (Call : CallsBy) : Type 0 where
      -- one call: the answer is the rules' answer, and the words hold the rules' next state
      pub answer : (s : l.State) (b : List ℕ) (o : Outcome) (u : l.State) → Call s b o u
          → o ≡ says_by (l.terminal s) b
      pub next : (s : l.State) (b : List ℕ) (o : Outcome) (u : l.State) → Call s b o u
          → l.terminal u ≡ leaves_by (l.terminal s) b
      -- after 0 they are the words of that state; after any other number every word is what it was; after any at all
      -- the configuration is
      pub accepted : (s : l.State) (b : List ℕ) (o : Outcome) (u : l.State) → Call s b o u → o.number ≡ 0
          → u ≡ l.next s (leaves_by (l.terminal s) b)
      pub refused : (s : l.State) (b : List ℕ) (o : Outcome) (u : l.State) → Call s b o u → (o.number ≡ 0 → ⊥)
          → u ≡ s
      pub config : (s : l.State) (b : List ℕ) (o : Outcome) (u : l.State) → Call s b o u
          → l.config u ≡ l.config s
      -- calls in turn, each at the state that the one before left: the answers are the rules' in turn, and the words
      -- hold the rules' last state
      pub in_turn : (s : l.State) (bs : List (List ℕ)) (os : List Outcome) (u : l.State) → InTurn Call s bs os u
          → (os ≡ told says_by leaves_by (l.terminal s) bs) × (l.terminal u ≡ runs leaves_by (l.terminal s) bs)
      -- where all are refused, every word is what it was
      pub all_refused : (s : l.State) (bs : List (List ℕ)) (os : List Outcome) (u : l.State) → InTurn Call s bs os u
          → All (λ (o : Outcome). o.number ≡ 0 → ⊥) os → u ≡ s
      -- so an unsound state is never left: 1 or 2 each time, whatever the bytes are
      pub unsound : (s : l.State) (bs : List (List ℕ)) (os : List Outcome) (u : l.State) → InTurn Call s bs os u
          → (own_number_by s ≡ 0 → ⊥) → All (λ (o : Outcome). o ≡ plain (own_number_by s) 0) os × (u ≡ s)

  -- calls of such code do
  abbrev pub StepsAreFaithful : Type 1
  StepsAreFaithful =
      Lendable m → Stores m l → (Call : CallsBy)
      → ((s : l.State) (b : List ℕ) (o : Outcome) (u : l.State) → Call s b o u → CalledBy s b o u)
      → FaithfulBy (apply_by m) Call

-- ---- document 01's terminals
abbrev pub states_lent : Lending (plain_steps limits)
states_lent = record { State = State; Fixed = Config; config = λ s. s.config; terminal = terminal_in; next = state_for }

abbrev pub Calls : Type 1
Calls = CallsBy (plain_steps limits) states_lent

-- what `apply` says of a call by value
abbrev pub Called : Calls
Called s b o u = record { outcome = o; state = u } ≡ applied s b

-- by the rules: what a delivery is answered, and the state after it
abbrev pub says_to : Terminal → List ℕ → Outcome
says_to t b = (apply limits t b).outcome

abbrev pub leaves : Terminal → List ℕ → Terminal
leaves t b = (apply limits t b).state

-- 1 or 2, or 0 where neither applies
abbrev pub own_number : State → ℕ
own_number s = standing limits (terminal_in s).config (terminal_in s).table

abbrev pub Faithful : Calls → Type 0
Faithful Call = FaithfulBy (plain_steps limits) states_lent (apply limits) Call

-- calls of `apply` by value do what the rules say
abbrev pub ApplyIsFaithful : Type 0
ApplyIsFaithful = Faithful Called
