-- Plans in pieces: a receiver takes bytes into one lent buffer, and an end call answers for all that came.
use Rattle.std.specs.Prelude.{ℕ, ◌+◌, ◌-◌, min, Bool, cond, not, ◌||◌, List, [], ◌∷◌, ◌++◌, ltb, eqb, length, take}
use Rattle.std.proofs.Math.Seq.{paste}
use Rattle.lists.specs.Rules.{◌when◌, first_rule}
use Rattle.rules.specs.Applying.{plain, apply, Terminal}
use Rattle.rules.specs.Limits.{Limits}
use Rattle.rules.specs.Sizes.{longest_size}
use Rattle.rules.specs.declared.Outcome.{Outcome}
use Rattle.rules.specs.declared.Receiver.{Receiver}

-- ---- the receiver: how many bytes are stored, and whether more came than the longest plan has
-- nothing came
abbrev pub no_bytes : Receiver
no_bytes = record { stored = 0; more = 0 }

-- the longest plan is stored, and more came
abbrev pub full : Limits → Receiver
full l = record { stored = longest_size l; more = 1 }

-- more came; what no call leaves counts so too
unfoldable pub is_over : Limits → Receiver → Bool
is_over l r = not (eqb r.more 0) || ltb (longest_size l) r.stored

-- how many bytes of the buffer are stored
unfoldable pub stored_in : Limits → Receiver → ℕ
stored_in l r = cond (is_over l r) (longest_size l) r.stored

-- ---- the buffer: one that is shorter than the longest plan is 28 at every call
unfoldable pub is_short : Limits → List ℕ → Bool
is_short l w = ltb (length w) (longest_size l)

-- ---- a piece call
-- how many of so many bytes there is room for: no more than the longest plan is stored
unfoldable pub fitting : Limits → Receiver → ℕ → ℕ
fitting l r n = min n (longest_size l - stored_in l r)

-- the receiver after so many bytes
unfoldable pub grown : Limits → Receiver → ℕ → Receiver
grown l r n =
    first_rule (full l when is_over l r ∷ full l when ltb (longest_size l - stored_in l r) n ∷ [])
    (record { stored = stored_in l r + n; more = 0 })

-- the number, the receiver and the buffer: those of the piece's bytes that fit stand after the stored ones, and all
-- other bytes are as they were
pub record Taken : Type 0 where
  pub number : ℕ
  pub receiver : Receiver
  pub buffer : List ℕ

unfoldable pub take_piece : Limits → Receiver → List ℕ → List ℕ → Taken
take_piece l r w p =
    cond (is_short l w) (record { number = 28; receiver = r; buffer = w })
    (record {
      number = 0;
      receiver = grown l r (length p);
      buffer = paste w (stored_in l r) p (fitting l r (length p));
    })

-- ---- the end call
-- the bytes that came: those stored and, where more came, one byte for the others; which one changes no answer
unfoldable pub received : Limits → Receiver → List ℕ → List ℕ
received l r w = take (stored_in l r) w ++ cond (is_over l r) (0 ∷ []) []

-- what is answered, the state and the receiver; the buffer stays as it is
pub record Ended : Type 0 where
  pub outcome : Outcome
  pub state : Terminal
  pub receiver : Receiver

unfoldable pub end_pieces : Limits → Terminal → Receiver → List ℕ → Ended
end_pieces l s r w =
    cond (is_short l w) (record { outcome = plain 28 0; state = s; receiver = r })
    (record {
      outcome = (apply l s (received l r w)).outcome;
      state = (apply l s (received l r w)).state;
      receiver = no_bytes;
    })
