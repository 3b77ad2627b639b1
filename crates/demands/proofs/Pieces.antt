-- A delivery in pieces is a delivery of the whole: piece calls in turn leave what the rules' piece calls leave, and
-- however they were cut the end call answers for the whole bytes.
use Prim.Native.Nat.{ℕ}
use mathlib.Core.List.{List, [], ◌∷◌}
use mathlib.Core.Path.{◌≡◌, refl, ap, ◌∙◌}
use Rattle.lists.specs.Runs.{none, call, runs, InTurn}
use Rattle.rules.specs.Limits.{limits}
use Rattle.rules.specs.Receiving.{no_bytes, received, take_piece}
use Rattle.rules.specs.declared.Outcome.{Outcome}
use Rattle.promises.specs.Receiving.{took, took_all, Receipt}
use Rattle.promises.proofs.Receiving.{came_whole, still_long}
use Rattle.plan.specs.Applying.{terminal_in, in_words, applied}
use Rattle.plan.specs.Deliveries.{Called}
use Rattle.plan.specs.declared.applying.Applied.{Applied}
use Rattle.plan.specs.declared.applying.State.{State}
use Rattle.plan.proofs.Deliveries.{faithful}
use Rattle.receiver.specs.Words.{ended_in, EndedWords}
use Rattle.receiver.proofs.Calls.{ended_enough}
use Rattle.demands.specs.Pieces.{PieceCall, PiecesAreFaithful, ReceiverIsEmptied, PiecesMeet, PiecesFollow}
use Rattle.demands.specs.Pieces.{PiecesDeliver, InPieces}
use Rattle.demands.proofs.Following.{code_follows}

-- piece calls in turn
took_is : {k j : Receipt} {ps : List (List ℕ)} {ns : List ℕ} → InTurn PieceCall k ps ns j → j ≡ runs (took limits) k ps
unfolding runs
took_is none = refl
took_is (call {s = k} {t = j} {q = p} {qs = ps} c cs) =
    took_is cs
    ∙ ap (λ (x : Receipt). runs (took limits) x ps) (λ i. record { receiver = c.receiver i; buffer = c.buffer i })

module _ (s : State) (b : List ℕ) (o : Outcome) (u : State) (d : InPieces s b o u) where
  abbrev there : Receipt
  there = took_all limits d.buffer d.pieces

  -- what is answered and left, and the receiver
  abbrev whole : EndedWords
  whole = record {
    outcome = (applied s (received limits there.receiver there.buffer)).outcome;
    state = (applied s (received limits there.receiver there.buffer)).state;
    receiver = no_bytes;
  }

  ends : record { outcome = o; state = u; receiver = d.emptied } ≡ whole
  ends =
      d.ended ∙ ap (λ (k : Receipt). ended_in s k.receiver k.buffer) (took_is d.taken)
      ∙ ended_enough s there.receiver there.buffer (still_long limits d.buffer d.pieces d.long)

  same : applied s (received limits there.receiver there.buffer) ≡ applied s b
  unfolding applied
  same =
      ap (in_words s) (came_whole limits (terminal_in s) d.buffer d.pieces d.long)
      ∙ ap (applied s) d.cut

  by_value : Called s b o u
  by_value = (λ i. record { outcome = (ends i).outcome; state = (ends i).state }) ∙ same

  empties : d.emptied ≡ no_bytes
  empties = ap (λ (x : EndedWords). x.receiver) ends

pub pieces_are_faithful : PiecesAreFaithful
pieces_are_faithful = faithful InPieces by_value

pub receiver_is_emptied : ReceiverIsEmptied
receiver_is_emptied = empties

pub pieces_meet : PiecesMeet
pieces_meet f h s b =
    let e : ◌≡◌ {A = Applied} (record { outcome = (f s b).outcome; state = (f s b).state }) (applied s b) =
    by_value s b (f s b).outcome (f s b).state (h s b) in
    record { answer = ap (λ (a : Applied). a.outcome) e; next = ap (λ (a : Applied). a.state) e }

pub pieces_follow : PiecesFollow
pieces_follow f h c ok asked past = code_follows f (pieces_meet f h) c ok asked past

-- ---- there is one
calls : (k : Receipt) (ps : List (List ℕ)) → (ns : List ℕ) × InTurn PieceCall k ps ns (runs (took limits) k ps)
unfolding runs
calls k [] = ([], none)
calls k (p ∷ ps) =
    let (ns, cs) = calls (took limits k p) ps in
    ((take_piece limits k.receiver k.buffer p).number ∷ ns, call (record { number = refl; receiver = refl; buffer = refl }) cs)

pub pieces_deliver : PiecesDeliver
pieces_deliver s w long ps =
    let k : Receipt = took_all limits w ps in
    let (ns, cs) = calls (record { receiver = no_bytes; buffer = w }) ps in
    let e : EndedWords = ended_in s k.receiver k.buffer in (
      e.outcome,
      e.state,
      record {
        buffer = w;
        long = long;
        pieces = ps;
        cut = refl;
        numbers = ns;
        last = k;
        taken = cs;
        emptied = e.receiver;
        ended = refl;
      },
    )
