-- What the two calls of a receiver answer, in numbers that C can hold.
use Prim.Native.Nat.{ℕ, ◌+◌, ◌^◌, ◌<◌}
use native.Mathlib.Omega.{arith}
use mathlib.Core.List.{List, [], ◌∷◌}
use mathlib.Core.Logic.{inl, inr}
use mathlib.Core.Path.{◌≡◌, sym, ap, ◌∙◌}
use lib.ListN.{get_or}
use Rattle.rules.specs.Limits.{limits}
use Rattle.rules.specs.Receiving.{received}
use Rattle.rules.specs.declared.Outcome.{Outcome}
use Rattle.rules.specs.declared.Receiver.{Receiver}
use Rattle.plan.specs.Applying.{applied, state_in, AppliedIn}
use Rattle.plan.specs.declared.applying.Applied.{Applied}
use Rattle.plan.specs.declared.applying.State.{State}
use Rattle.plan.proofs.Outcomes.{value_refused, edition_room, value_accepted}
use Rattle.receiver.specs.Words.{ended_in, EndedWords, EndsIn}
use Rattle.receiver.specs.declared.Ending.{Ending}
use Rattle.receiver.proofs.Calls.{ended_cases, config_stays, EndedCases}
use Rattle.agent.specs.Agent.{receiver_in, words_of_receiver, EndsWords, WordsAreAPiece, WordsAreAnEnd}

-- the end call: a was answered, u are the table's words then, j the two words and b the two places
module _ (c t : List ℕ) (e : ℕ) (k w : List ℕ) (r : Receiver) (er : r ≡ receiver_in k) (a : Ending) (u : List ℕ)
    (done : EndsIn c t e r w a u) where
  -- by what was applied
  abbrev came : List ℕ
  came = received limits r w

  applied_in : (ended_in (state_in c t e) r w).outcome ≡ (applied (state_in c t e) came).outcome
      → (ended_in (state_in c t e) r w).state ≡ (applied (state_in c t e) came).state
      → AppliedIn c t e came a.outcome u
  applied_in o s = record {
    answer = done.outcome ∙ o;
    table = done.table ∙ ap (λ (x : State). x.table.words) s;
  }

  edition_refused : (a.outcome.number ≡ 0 → ⊥) → e ≡ (ended_in (state_in c t e) r w).state.edition
  edition_refused ne = by (ended_cases (state_in c t e) r w)
    where
      by : EndedCases (state_in c t e) r w → e ≡ (ended_in (state_in c t e) r w).state.edition
      by (inl q) = ap (λ (x : EndedWords). x.state.edition) (sym q)
      by (inr q) =
          ap (λ (x : Applied). x.state.edition) (value_refused (state_in c t e) came a.outcome u
          (applied_in (ap (λ (x : EndedWords). x.outcome) q) (ap (λ (x : EndedWords). x.state) q)) ne)
          ∙ ap (λ (x : EndedWords). x.state.edition) (sym q)

  module _ (z : a.outcome.number ≡ 0) where
    whole : AppliedIn c t e came a.outcome u × ((ended_in (state_in c t e) r w).state ≡ (applied (state_in c t e) came).state)
    whole = by (ended_cases (state_in c t e) r w)
      where
        by : EndedCases (state_in c t e) r w
            → AppliedIn c t e came a.outcome u
            × ((ended_in (state_in c t e) r w).state ≡ (applied (state_in c t e) came).state)
        by (inl q) =
            absurd (let n : ◌≡◌ {A = ℕ} 28 0 =
            sym (ap (λ (x : Outcome). x.number) (done.outcome ∙ ap (λ (x : EndedWords). x.outcome) q)) ∙ z in
            omega arith)
        by (inr q) = (
          applied_in (ap (λ (x : EndedWords). x.outcome) q) (ap (λ (x : EndedWords). x.state) q),
          ap (λ (x : EndedWords). x.state) q,
        )

    edition_accepted : e + 1 ≡ (ended_in (state_in c t e) r w).state.edition
    edition_accepted =
        ap (λ (x : Applied). x.state.edition) (value_accepted (state_in c t e) came a.outcome u whole.0 z)
        ∙ ap (λ (x : State). x.edition) (sym whole.1)

    pub end_room : e < 2 ^ 32 → e + 1 < 2 ^ 32
    end_room = edition_room (state_in c t e) came a.outcome u whole.0 z

  module _ (j b : List ℕ) (ej : j ≡ a.receiver.stored ∷ a.receiver.more ∷ [])
      (eb : b ≡ a.outcome.place ∷ a.outcome.inner ∷ []) where
    ends : (d : ℕ) → d ≡ (ended_in (state_in c t e) r w).state.edition → EndsWords c t e k w a.outcome.number u d j b
    ends d ed =
        let f : ended_in (state_in c t e) r w ≡ ended_in (state_in c t e) (receiver_in k) w =
        ap (λ (x : Receiver). ended_in (state_in c t e) x w) er in
        record {
          number =
              ap (λ (x : Outcome). x.number) done.outcome ∙ ap (λ (x : EndedWords). x.outcome.number) f;
          table = done.table ∙ ap (λ (x : EndedWords). x.state.table.words) f;
          edition = ed ∙ ap (λ (x : EndedWords). x.state.edition) f;
          receiver = ej ∙ ap words_of_receiver (done.receiver ∙ ap (λ (x : EndedWords). x.receiver) f);
          places =
              eb
              ∙ ap (λ (x : Outcome). x.place ∷ x.inner ∷ []) (done.outcome ∙ ap (λ (x : EndedWords). x.outcome) f);
        }

    pub ends_refused : (a.outcome.number ≡ 0 → ⊥) → EndsWords c t e k w a.outcome.number u e j b
    ends_refused ne = ends e (edition_refused ne)

    pub ends_accepted : a.outcome.number ≡ 0 → EndsWords c t e k w a.outcome.number u (e + 1) j b
    ends_accepted z = ends (e + 1) (edition_accepted z)

pub words_are_a_piece : WordsAreAPiece
words_are_a_piece k w p n j v h = record {
  number = h.number;
  receiver = ap receiver_in h.receiver;
  buffer = h.buffer;
}

pub words_are_an_end : WordsAreAnEnd
words_are_an_end c t e k w n u d j a h =
    let q : (ended_in (state_in c t e) (receiver_in k) w).state.config ≡ record { words = c } =
    config_stays (state_in c t e) (receiver_in k) w in
    (λ i. record {
      outcome = record { number = h.number i; place = get_or (h.places i) 0 0; inner = get_or (h.places i) 1 0 };
      state = record { config = sym q i; table = record { words = h.table i }; edition = h.edition i };
      receiver = receiver_in (h.receiver i);
    })
