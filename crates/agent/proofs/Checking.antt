-- A call of the check of a log in numbers that C can hold: the answer, taken apart and put together again.
use Prim.Native.Nat.{ℕ}
use mathlib.Core.List.{List, [], ◌∷◌}
use mathlib.Core.Path.{◌≡◌, ap, ◌∙◌}
use lib.ListN.{get_or}
use Rattle.rules.specs.declared.LogAnswer.{LogAnswer}
use Rattle.rules.specs.declared.Outcome.{Outcome}
use Rattle.logs.specs.Logs.{CheckedIn}
use Rattle.agent.specs.Agent.{ChecksWords, WordsAreACheck}

pub checks_told : (c t b w : List ℕ) (r : LogAnswer) (o : Outcome) (d u v a : List ℕ) → CheckedIn c t b w r d u v
    → o ≡ r.outcome → a ≡ o.place ∷ o.inner ∷ r.claimed ∷ [] → ChecksWords c t b w o.number d u v a
checks_told c t b w r o d u v a h e p = record {
  number = ap (λ (x : Outcome). x.number) e ∙ ap (λ (x : LogAnswer). x.outcome.number) h.answer;
  config = h.config;
  table = h.table;
  buffer = h.buffer;
  places =
      p ∙ ap (λ (x : Outcome). x.place ∷ x.inner ∷ r.claimed ∷ []) e
      ∙ ap (λ (x : LogAnswer). x.outcome.place ∷ x.outcome.inner ∷ x.claimed ∷ []) h.answer;
}

pub words_are_a_check : WordsAreACheck
words_are_a_check c t b w n d u v a h = record {
  answer = (λ i. record {
    outcome = record {
      number = h.number i;
      place = ap (λ (l : List ℕ). get_or l 0 0) h.places i;
      inner = ap (λ (l : List ℕ). get_or l 1 0) h.places i;
    };
    claimed = ap (λ (l : List ℕ). get_or l 2 0) h.places i;
  });
  config = h.config;
  table = h.table;
  buffer = h.buffer;
}
