-- Requests worked out from two tables: all are accepted, and they lead to the wanted zones and sets.
use Rattle.std.specs.Prelude.{ℕ, ◌≤◌, ◌<◌, true, false, List, [], ◌∷◌, ◌⊎◌, ◌↔◌, ◌≡◌, length}
use Rattle.lists.specs.Lines.{◌given◌, FirstOf, Exactly, Line}
use Rattle.rules.specs.Applying.{plain}
use Rattle.rules.specs.Changes.{region_set}
use Rattle.rules.specs.Configuration.{config_of, check, StoredConfig}
use Rattle.rules.specs.Limits.{Limits}
use Rattle.rules.specs.Requests.{find, present, held_in}
use Rattle.rules.specs.Run.{run, run_answer}
use Rattle.rules.specs.Tables.{table_of, check_table, Zone, StoredTable}
use Rattle.rules.specs.Wanted.{requests_for, no_list, worked}
use Rattle.rules.specs.declared.Checked.TheVariants.{Sound}
use Rattle.rules.specs.declared.Region.{Region}
use Rattle.rules.specs.declared.Request.{Request}
use Rattle.rules.specs.declared.Side.{Side}
use Rattle.promises.specs.Tables.{SoundUnder}

-- the same zones, and in each the same two sets, whatever their order
pub record Alike (t w : List Zone) : Type 0 where
  pub zones : (id : ℕ) → present id t ≡ present id w
  pub sets : (id : ℕ) (side : Side) (r : Region)
      → held_in r (region_set t (find id t) side) ≡ held_in r (region_set w (find id w) side)

-- from the first table every request of the list is accepted in turn, and the end table has the wanted zones and sets
abbrev pub ListLeads : Limits → Type 0
ListLeads l =
    (s : StoredConfig) (t w : List Zone) → SoundUnder l s t → SoundUnder l s w
    → ((run l (config_of s) t (requests_for t w)).inner ≡ 0)
    × ((run l (config_of s) t (requests_for t w)).place ≡ length (requests_for t w))
    × Alike (run l (config_of s) t (requests_for t w)).table w

-- the list is empty exactly for two tables with the same zones and sets
abbrev pub EmptyIsAlike : Limits → Type 0
EmptyIsAlike l =
    (s : StoredConfig) (t w : List Zone) → SoundUnder l s t → SoundUnder l s w → (requests_for t w ≡ []) ↔ Alike t w

-- no list of requests that are accepted in turn, and lead to a table with the wanted zones and sets, is shorter: so 29
-- hides no list that a plan would have room for
abbrev pub NoShorterList : Limits → Type 0
NoShorterList l =
    (s : StoredConfig) (t w : List Zone) → SoundUnder l s t → SoundUnder l s w → (qs : List Request)
    → (run l (config_of s) t qs).inner ≡ 0 → Alike (run l (config_of s) t qs).table w
    → length (requests_for t w) ≤ length qs

-- ---- from outside, on any stored configuration and tables
-- the first that applies, in plain words: the configuration is unsound, either table is, the list is too long
abbrev pub work_lines : {R : Type 0} → (ℕ → R) → Limits → StoredConfig → StoredTable → StoredTable → List (Line R)
work_lines say l c t w =
    say 1 given (check l c ≡ Sound → ⊥)
    ∷ say 2 given ((check_table l c t ≡ false) ⊎ (check_table l c w ≡ false))
    ∷ say 29 given (l.requests < length (requests_for (table_of t) (table_of w)))
    ∷ []

-- each with an empty list; or 0 with the rule's list
abbrev pub WorkedIsExact : Limits → Type 0
WorkedIsExact l =
    (c : StoredConfig) (t w : StoredTable)
    → Exactly (worked l c t w)
    (FirstOf (work_lines no_list l c t w)
    (λ a. record { number = 0; requests = requests_for (table_of t) (table_of w) } ≡ a))

-- where it is not refused: a plan has room for the list, its run at the first table is answered 0, and the table after
-- it has the wanted zones and sets
pub record Reached (l : Limits) (c : StoredConfig) (t w : StoredTable) : Type 0 where
  pub few : length (worked l c t w).requests ≤ l.requests
  pub answer : run_answer l c t (worked l c t w).requests ≡ plain 0 (length (worked l c t w).requests)
  pub alike : Alike (run l (config_of c) (table_of t) (worked l c t w).requests).table (table_of w)

abbrev pub WorkedLeads : Limits → Type 0
WorkedLeads l =
    (c : StoredConfig) (t w : StoredTable) → length c.records ≡ l.regions → (worked l c t w).number ≡ 0
    → Reached l c t w

-- two sound tables with the same zones and sets: 0 and the empty list
abbrev pub NothingWorked : Limits → Type 0
NothingWorked l =
    (c : StoredConfig) (t w : StoredTable) → length c.records ≡ l.regions → check_table l c t ≡ true
    → check_table l c w ≡ true → Alike (table_of t) (table_of w) → worked l c t w ≡ no_list 0
