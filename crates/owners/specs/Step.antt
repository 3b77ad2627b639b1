-- One request from outside: its number, and the words of the table afterwards.
use Rattle.std.specs.Prelude.{ℕ, List, ◌≡◌}
use Rattle.rules.specs.Limits.{limits}
use Rattle.rules.specs.Owners.{owned_answer}
use Rattle.rules.specs.declared.Request.{Request}
use Rattle.zones.specs.Step.{words_after}
use Rattle.zones.specs.View.{stored_table}
use Rattle.owners.specs.View.{stored_owned}

-- the number
abbrev pub owned_answer_in : List ℕ → List ℕ → List ℕ → Request → ℕ
owned_answer_in c o t q = owned_answer limits (stored_owned c o) (stored_table t) q

-- n is answered, and u is what the table's words then are
pub record OwnedStepped (c o t : List ℕ) (q : Request) (n : ℕ) (u : List ℕ) : Type 0 where
  pub number : n ≡ owned_answer_in c o t q
  pub table : u ≡ words_after (owned_answer_in c o t q) t q
