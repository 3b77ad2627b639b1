-- One request from outside: its number, and the words of the table afterwards.
use Rattle.std.specs.Prelude.{ℕ, cond, List, ◌≡◌, eqb, Result, Ok, Err}
use Rattle.rules.specs.Limits.{limits}
use Rattle.rules.specs.Requests.{after, answer}
use Rattle.rules.specs.Tables.{table_of}
use Rattle.rules.specs.declared.Request.{Request}
use Rattle.rules.specs.declared.refusal.Refusal.{Refusal}
use Rattle.zones.specs.View.{stored_config, stored_table}
use Rattle.zones.specs.Words.{words_of}
use Rattle.zones.specs.declared.table.Table.{Table}

-- by the number of a request, the words of the next table, or those that were given
abbrev pub words_after : ℕ → List ℕ → Request → List ℕ
words_after n t q = cond (eqb n 0) (words_of (after q.kind q.zone (table_of (stored_table t)))) t

unfoldable pub afterwards : List ℕ → List ℕ → Request → List ℕ
afterwards c t q = words_after (answer limits (stored_config c) (stored_table t) q) t q

pub record Stepped (c t : List ℕ) (q : Request) (n : ℕ) (u : List ℕ) : Type 0 where
  pub number : n ≡ answer limits (stored_config c) (stored_table t) q
  pub table : u ≡ afterwards c t q

-- the words of the table that is answered; a refusal leaves those that were given
abbrev pub words_left : List ℕ → Result Table Refusal → List ℕ
words_left t (Ok u) = u.words
words_left t (Err r) = t
