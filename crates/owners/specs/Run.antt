-- A run of requests from lent bytes: its answer, and the words of the table afterwards.
use Rattle.std.specs.Prelude.{ℕ, Bool, List, ◌≡◌, length, Option}
use Rattle.lists.specs.First.{first_index}
use Rattle.rules.specs.Limits.{limits}
use Rattle.rules.specs.Owners.{stranger, owned_standing, owned_run, owned_run_answer}
use Rattle.rules.specs.Run.{requests_in}
use Rattle.rules.specs.Tables.{table_of}
use Rattle.rules.specs.declared.Outcome.{Outcome}
use Rattle.rules.specs.declared.Request.{Request}
use Rattle.zones.specs.Run.{words_run}
use Rattle.zones.specs.View.{stored_table}
use Rattle.owners.specs.Fitting.{below}
use Rattle.owners.specs.View.{stored_owned, owned_in}

-- the words of the table that the accepted requests leave, or those that were given
unfoldable pub owned_run_words : List ℕ → List ℕ → List ℕ → List ℕ → List ℕ
owned_run_words c o t b =
    words_run (owned_standing limits (stored_owned c o) (stored_table t))
    (owned_run limits (owned_in c o) (table_of (stored_table t)) (requests_in b)) t

-- r is answered, and u is what the table's words then are
pub record OwnedRan (c o t b : List ℕ) (r : Outcome) (u : List ℕ) : Type 0 where
  pub answer : r ≡ owned_run_answer limits (stored_owned c o) (stored_table t) (requests_in b)
  pub table : u ≡ owned_run_words c o t b

-- ---- how the code goes about it
-- the request is an insert of a region that its zone may not hold
unfoldable pub strange : List ℕ → List ℕ → Request → Bool
strange c o q = stranger (owned_in c o) q.kind q.zone

-- the first of the requests that is one
abbrev pub first_stranger : List ℕ → List ℕ → List ℕ → Option ℕ
first_stranger c o b = below (length (requests_in b)) (first_index (strange c o) (requests_in b))
