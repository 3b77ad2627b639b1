-- Plans in pieces: however the bytes were cut, the end call answers what the whole plan would have been answered.
use Rattle.std.specs.Prelude.{ℕ, ◌+◌, ◌≤◌, ◌<◌, true, ◌≡◌, length, take, drop}
use mathlib.Core.List.{List, ◌++◌, flat_map}
use Rattle.lists.specs.Runs.{runs}
use Rattle.rules.specs.Applying.{plain, apply, Terminal}
use Rattle.rules.specs.Limits.{Limits}
use Rattle.rules.specs.Receiving.{no_bytes, is_over, stored_in, fitting, take_piece, end_pieces}
use Rattle.rules.specs.Sizes.{longest_size}
use Rattle.rules.specs.declared.Receiver.{Receiver}

-- ---- one call
pub record PieceCalls (l : Limits) : Type 0 where
  -- a buffer that is shorter than the longest plan: 28 at both calls, and nothing changes
  pub short_piece : (r : Receiver) (w p : List ℕ) → length w < longest_size l
      → take_piece l r w p ≡ record { number = 28; receiver = r; buffer = w }
  pub short_end : (s : Terminal) (r : Receiver) (w : List ℕ) → length w < longest_size l
      → end_pieces l s r w ≡ record { outcome = plain 28 0; state = s; receiver = r }
  -- else a piece call answers 0
  pub taken : (r : Receiver) (w p : List ℕ) → longest_size l ≤ length w → (take_piece l r w p).number ≡ 0
  -- the buffer keeps its length, what was stored before, and what lies behind the bytes that were added: these end
  -- within the longest plan
  pub long : (r : Receiver) (w p : List ℕ) → length (take_piece l r w p).buffer ≡ length w
  pub before : (r : Receiver) (w p : List ℕ) → take (stored_in l r) (take_piece l r w p).buffer ≡ take (stored_in l r) w
  pub behind : (r : Receiver) (w p : List ℕ)
      → drop (stored_in l r + fitting l r (length p)) (take_piece l r w p).buffer
      ≡ drop (stored_in l r + fitting l r (length p)) w
  -- what is added is the piece's own bytes, as many as fit, behind what was stored; and so many more are then stored
  pub added : (r : Receiver) (w p : List ℕ) → longest_size l ≤ length w
      → take (stored_in l r + fitting l r (length p)) (take_piece l r w p).buffer
      ≡ take (stored_in l r) w ++ take (fitting l r (length p)) p
  pub counted : (r : Receiver) (w p : List ℕ) → longest_size l ≤ length w
      → stored_in l (take_piece l r w p).receiver ≡ stored_in l r + fitting l r (length p)
  pub within : (r : Receiver) (n : ℕ) → stored_in l r + fitting l r n ≤ longest_size l
  -- after any other end call the receiver is empty
  pub emptied : (s : Terminal) (r : Receiver) (w : List ℕ) → longest_size l ≤ length w
      → (end_pieces l s r w).receiver ≡ no_bytes
  -- where more came, and so at words that no call leaves, nothing is accepted and the state stays
  pub over : (s : Terminal) (r : Receiver) (w : List ℕ) → is_over l r ≡ true
      → ((end_pieces l s r w).outcome.number ≡ 0 → ⊥) × ((end_pieces l s r w).state ≡ s)

-- ---- pieces one after another
-- what an agent keeps between calls
pub record Receipt : Type 0 where
  pub receiver : Receiver
  pub buffer : List ℕ

abbrev pub took : Limits → Receipt → List ℕ → Receipt
took l k p = record {
  receiver = (take_piece l k.receiver k.buffer p).receiver;
  buffer = (take_piece l k.receiver k.buffer p).buffer;
}

-- from an empty receiver, whatever the buffer holds
abbrev pub took_all : Limits → List ℕ → List (List ℕ) → Receipt
took_all l w ps = runs (took l) (record { receiver = no_bytes; buffer = w }) ps

-- the bytes that the pieces are cut from
abbrev pub joined : List (List ℕ) → List ℕ
joined ps = flat_map (λ (p : List ℕ). p) ps

-- however they were cut: number, place, inner number and state are those of the whole bytes applied at the end call's
-- state, and the receiver is empty
abbrev pub HoweverCut : Limits → Type 0
HoweverCut l =
    (s : Terminal) (w : List ℕ) (ps : List (List ℕ)) → longest_size l ≤ length w
    → end_pieces l s (took_all l w ps).receiver (took_all l w ps).buffer
    ≡ record {
      outcome = (apply l s (joined ps)).outcome;
      state = (apply l s (joined ps)).state;
      receiver = no_bytes;
    }
