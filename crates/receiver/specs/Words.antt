-- The calls where the state is words: what the code answers.
use Rattle.std.specs.Prelude.{ℕ, ◌-◌, cond, List, ◌≡◌, length}
use Rattle.formats.specs.Formats.{Out, got, bad}
use Rattle.rules.specs.Applying.{plain}
use Rattle.rules.specs.Limits.{limits}
use Rattle.rules.specs.Plan.{read_plan, Plan}
use Rattle.rules.specs.declared.Outcome.{Outcome}
use Rattle.plan.specs.Applying.{turned_away, applied, state_in}
use Rattle.plan.specs.declared.applying.State.{State}
use Rattle.rules.specs.Receiving.{no_bytes, is_short, take_piece, received}
use Rattle.receiver.specs.declared.Ending.{Ending}
use Rattle.rules.specs.declared.Receiver.{Receiver}

-- ---- a piece call with the receiver r, the buffer w and the piece p: the number n is answered, s is the receiver
-- afterwards, and v is what the buffer then is
pub record TakesIn (r : Receiver) (w p : List ℕ) (n : ℕ) (s : Receiver) (v : List ℕ) : Type 0 where
  pub number : n ≡ (take_piece limits r w p).number
  pub receiver : s ≡ (take_piece limits r w p).receiver
  pub buffer : v ≡ (take_piece limits r w p).buffer

-- ---- the end call at a state of words: the rules' answer, and the words of the next state
pub record EndedWords : Type 0 where
  pub outcome : Outcome
  pub state : State
  pub receiver : Receiver

unfoldable pub ended_in : State → Receiver → List ℕ → EndedWords
ended_in s r w =
    cond (is_short limits w) (record { outcome = plain 28 0; state = s; receiver = r })
    (record {
      outcome = (applied s (received limits r w)).outcome;
      state = (applied s (received limits r w)).state;
      receiver = no_bytes;
    })

-- a is answered, and u is what the table's words then are
pub record EndsIn (c t : List ℕ) (e : ℕ) (r : Receiver) (w : List ℕ) (a : Ending) (u : List ℕ) : Type 0 where
  pub outcome : a.outcome ≡ (ended_in (state_in c t e) r w).outcome
  pub receiver : a.receiver ≡ (ended_in (state_in c t e) r w).receiver
  pub table : u ≡ (ended_in (state_in c t e) r w).state.table.words

-- ---- how the code goes about it: bytes after which more came are refused by what they read to, and bytes that read
-- whole with 22 at their end
unfoldable pub over_number : Out Plan → ℕ
over_number (got p left) = 22
over_number (bad k left) = k

unfoldable pub over_place : ℕ → Out Plan → ℕ
over_place n (got p left) = n
over_place n (bad k left) = n - length left

unfoldable pub over_away : List ℕ → List ℕ → List ℕ → Outcome
over_away c t b = turned_away c t (over_number (read_plan limits b)) (over_place (length b) (read_plan limits b))
