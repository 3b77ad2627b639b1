-- Demand 3 over deliveries in pieces: each is any cutting of its bytes into calls, followed by the end call.
use Rattle.std.specs.Prelude.{ℕ, ◌≤◌, List, ◌≡◌, length}
use Rattle.lists.specs.Runs.{InTurn}
use Rattle.rules.specs.Limits.{limits}
use Rattle.rules.specs.Plan.{Asked}
use Rattle.rules.specs.Receiving.{no_bytes}
use Rattle.rules.specs.Sizes.{longest_size}
use Rattle.rules.specs.declared.Outcome.{Outcome}
use Rattle.rules.specs.declared.Receiver.{Receiver}
use Rattle.promises.specs.Receiving.{joined, Receipt}
use Rattle.zones.specs.View.{ConfigPassed}
use Rattle.zones.specs.declared.config.Config.{Config}
use Rattle.plan.specs.Deliveries.{Faithful}
use Rattle.plan.specs.declared.applying.State.{State}
use Rattle.receiver.specs.Words.{ended_in, TakesIn}
use Rattle.demands.specs.Following.{Code, Meets, made_in, state_in, Past, Follows}

-- what `receiver::take_piece` says of a piece call, at the receiver and the buffer that the call before left
abbrev pub PieceCall : Receipt → List ℕ → ℕ → Receipt → Type 0
PieceCall k p n j = TakesIn k.receiver k.buffer p n j.receiver j.buffer

-- the state s was lent with the bytes b: o was answered, and u lies there afterwards. The buffer is long enough and
-- holds anything, as what pieces left in it before the power was lost; the receiver is empty
pub record InPieces (s : State) (b : List ℕ) (o : Outcome) (u : State) : Type 0 where
  pub buffer : List ℕ
  pub long : longest_size limits ≤ length buffer
  -- the cutting
  pub pieces : List (List ℕ)
  pub cut : joined pieces ≡ b
  -- the piece calls, one after another
  pub numbers : List ℕ
  pub last : Receipt
  pub taken : InTurn PieceCall (record { receiver = no_bytes; buffer = buffer }) pieces numbers last
  -- what `receiver::end_words` says of the end call
  pub emptied : Receiver
  pub ended : record { outcome = o; state = u; receiver = emptied } ≡ ended_in s last.receiver last.buffer

-- deliveries in pieces do what the rules say, each cut in its own way
abbrev pub PiecesAreFaithful : Type 0
PiecesAreFaithful = Faithful InPieces

-- after each the receiver is empty, so the next delivery begins as this one did
abbrev pub ReceiverIsEmptied : Type 0
ReceiverIsEmptied = (s : State) (b : List ℕ) (o : Outcome) (u : State) (d : InPieces s b o u) → d.emptied ≡ no_bytes

-- a terminal that takes its plans so meets what demand 3 asks of code: all of Following is true of it
abbrev pub PiecesMeet : Type 0
PiecesMeet = (f : Code) → ((s : State) (b : List ℕ) → InPieces s b (f s b).outcome (f s b).state) → Meets f

-- as that after any history the words hold exactly the planner's state of some edition
abbrev pub PiecesFollow : Type 0
PiecesFollow =
    (f : Code) → ((s : State) (b : List ℕ) → InPieces s b (f s b).outcome (f s b).state) → (c : Config)
    → ConfigPassed c.words → (asked : ℕ → List Asked) (h : Past c asked f)
    → (k : ℕ) × Follows c asked f (made_in c asked f h) (state_in c asked f h) k

-- there is one: any bytes can be delivered in any pieces
abbrev pub PiecesDeliver : Type 0
PiecesDeliver =
    (s : State) (w : List ℕ) → longest_size limits ≤ length w → (ps : List (List ℕ))
    → (o : Outcome) × (u : State) × InPieces s (joined ps) o u
