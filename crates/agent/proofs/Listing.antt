-- A call for the list in numbers that C can hold: the answer, taken apart and put together again.
use Prim.Native.Nat.{ℕ}
use mathlib.Core.List.{List}
use mathlib.Core.Path.{ap}
use lib.ListN.{get_or}
use Rattle.agent.specs.Agent.{WordsAreAList}

pub words_are_a_list : WordsAreAList
words_are_a_list c t w b n v a h = record {
  number = h.number;
  count = ap (λ (l : List ℕ). get_or l 0 0) h.count;
  buffer = h.buffer;
}
