-- Applying a plan by any step rule, where the table is lent as words: what is answered, and the words afterwards.
use Rattle.std.specs.Prelude.{ℕ, Bool, cond, not, List, [], ◌∷◌, ◌≡◌, eqb, length}
use Rattle.lists.specs.Rules.{◌when◌, first_rule}
use Rattle.rules.specs.Applying.{last_edition, store, plain, Kept, apply_by}
use Rattle.rules.specs.Run.{requests_in, ended_after, Run}
use Rattle.rules.specs.Steps.{StepRule}
use Rattle.rules.specs.Tables.{table_of}
use Rattle.rules.specs.declared.Outcome.{Outcome}
use Rattle.rules.specs.declared.Request.{Request}
use Rattle.zones.specs.Layout.{table_words}
use Rattle.zones.specs.View.{stored_table, zones_in}
use Rattle.zones.specs.Words.{words_of, Within}
use Rattle.plan.specs.Held.{table_held}

-- a number that the plan has earned, unless the state's own number is 1 or 2
unfoldable pub away_with : ℕ → ℕ → ℕ → Outcome
away_with own k place = cond (eqb own 0) (plain k place) (plain own 0)

-- 23 to 26, or 0: whether the plan gives the terminal's configuration; both editions; and the plan's bytes from the
-- zones on, held against the table's words
unfoldable pub base_number : Bool → List ℕ → ℕ → ℕ → List ℕ → ℕ
base_number same t e base zs =
    first_rule
    (23 when not same ∷ 24 when not (eqb e base) ∷ 25 when eqb e last_edition ∷ 26 when not (table_held zs t) ∷ [])
    0

module _ (m : StepRule) where
  -- the terminal with that configuration, with the table in the words t, at edition e
  abbrev pub kept_in : m.Config → List ℕ → ℕ → Kept m
  kept_in c t e = record { config = c; table = stored_table t; edition = e }

  -- r is answered, and u is what the table's words then are: those of the next table after 0, else those that were given
  pub record AppliedBy (c : m.Config) (t : List ℕ) (e : ℕ) (b : List ℕ) (r : Outcome) (u : List ℕ) : Type 0 where
    pub answer : r ≡ (apply_by m (kept_in c t e) b).outcome
    pub table : u ≡ cond (eqb r.number 0) (words_of (table_of (apply_by m (kept_in c t e) b).state.table)) t

  -- ---- how the code goes about it
  -- 1 or 2, or 0 where neither applies; and what the requests in the bytes b do
  abbrev pub own_by : m.Config → List ℕ → ℕ
  own_by c t = m.standing c (stored_table t)

  abbrev pub done_by : m.Config → List ℕ → List ℕ → Run
  done_by c t b = m.run c (table_of (stored_table t)) (requests_in b)

  -- a run of the requests where the table lies
  pub record RanBy (c : m.Config) (t b : List ℕ) (r : Outcome) (u : List ℕ) : Type 0 where
    pub answer : r ≡ ended_after (own_by c t) (done_by c t b)
    pub table : u ≡ cond (eqb (own_by c t) 0) (words_of (done_by c t b).table) t

  -- the same, after which the table is what it was unless the number is 0
  pub record RanOrUndoneBy (c : m.Config) (t b : List ℕ) (r : Outcome) (u : List ℕ) : Type 0 where
    pub answer : r ≡ ended_after (own_by c t) (done_by c t b)
    pub table : u ≡ cond (eqb r.number 0) (words_of (done_by c t b).table) t

  -- a plan that reads whole, by its base's number n
  pub record FoundBy (c : m.Config) (t : List ℕ) (n : ℕ) (b : List ℕ) (r : Outcome) (u : List ℕ) : Type 0 where
    pub base_other : (n ≡ 0 → ⊥) → (r ≡ away_with (own_by c t) n 0) × (u ≡ t)
    pub base_same : n ≡ 0 → RanOrUndoneBy c t b r u

  -- what is asked of a state that stands: readers find the zones that its words hold, words of the right length are
  -- those of the zones, and what requests leave is within limits and is read back as it was stored
  pub record Stood (c : m.Config) (t : List ℕ) : Type 0 where
    pub zones : zones_in t ≡ table_of (stored_table t)
    pub words : length t ≡ table_words → t ≡ words_of (zones_in t)
    pub within : (qs : List Request) → Within (m.run c (table_of (stored_table t)) qs).table
    pub back : (qs : List Request)
        → table_of (store m.limits (m.run c (table_of (stored_table t)) qs).table)
        ≡ (m.run c (table_of (stored_table t)) qs).table
