-- A run of requests from lent bytes: its answer, and the words of the table afterwards.
use Rattle.std.specs.Prelude.{ℕ, cond, List, ◌≡◌, eqb}
use Rattle.rules.specs.Limits.{limits}
use Rattle.rules.specs.Requests.{standing}
use Rattle.rules.specs.Run.{requests_in, run, run_answer, Run}
use Rattle.rules.specs.Tables.{table_of}
use Rattle.rules.specs.declared.Outcome.{Outcome}
use Rattle.zones.specs.View.{stored_config, stored_table, config_in}
use Rattle.zones.specs.Words.{words_of}

-- by 1, 2 or 0, the words of the table that a run leaves, or those that were given
abbrev pub words_run : ℕ → Run → List ℕ → List ℕ
words_run n r t = cond (eqb n 0) (words_of r.table) t

unfoldable pub run_words : List ℕ → List ℕ → List ℕ → List ℕ
run_words c t b =
    words_run (standing limits (stored_config c) (stored_table t))
    (run limits (config_in c) (table_of (stored_table t)) (requests_in b)) t

pub record RanIn (c t b : List ℕ) (r : Outcome) (u : List ℕ) : Type 0 where
  pub answer : r ≡ run_answer limits (stored_config c) (stored_table t) (requests_in b)
  pub table : u ≡ run_words c t b
