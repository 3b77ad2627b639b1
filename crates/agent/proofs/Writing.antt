-- A call of the writer in numbers that C can hold: the outcome, taken apart and put together again.
use Prim.Native.Nat.{ℕ}
use mathlib.Core.List.{List, [], ◌∷◌}
use mathlib.Core.Path.{◌≡◌, ap, ◌∙◌}
use lib.ListN.{get_or}
use Rattle.rules.specs.declared.Outcome.{Outcome}
use Rattle.writer.specs.Writer.{WritesIn}
use Rattle.agent.specs.Agent.{WritesWords, WordsAreAWrite}

pub writes_told : (c t : List ℕ) (e : ℕ) (r w : List ℕ) (o : Outcome) (u v a : List ℕ) → WritesIn c t e r w o u v
    → a ≡ o.place ∷ o.inner ∷ [] → WritesWords c t e r w o.number u v a
writes_told c t e r w o u v a h p = record {
  number = ap (λ (x : Outcome). x.number) h.answer;
  table = h.table;
  buffer = h.buffer;
  places = p ∙ ap (λ (x : Outcome). x.place ∷ x.inner ∷ []) h.answer;
}

pub words_are_a_write : WordsAreAWrite
words_are_a_write c t e r w n u v a h = record {
  answer =
      (λ i. record {
        number = h.number i;
        place = get_or (h.places i) 0 0;
        inner = get_or (h.places i) 1 0;
      });
  buffer = h.buffer;
  table = h.table;
}
