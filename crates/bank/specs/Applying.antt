-- What the second library's functions over plans answer, and what they leave.
use Rattle.std.specs.Prelude.{ℕ, cond, List, [], ◌∷◌, ◌≡◌, eqb, length, get_or}
use Rattle.rules.specs.Applying.{apply_by, AppliedOf}
use Rattle.rules.specs.Limits.{limits}
use Rattle.rules.specs.OwnedPlan.{read_owned, owned_steps}
use Rattle.rules.specs.Owners.{StoredOwned}
use Rattle.rules.specs.Tables.{table_of}
use Rattle.zones.specs.Words.{words_of}
use Rattle.owners.specs.View.{stored_owned}
use Rattle.plan.specs.Steps.{kept_in}
use Rattle.lent.specs.Lent.{told_number, told_by}
use Rattle.owned.specs.Deliveries.{OwnedCalled}
use Rattle.owned.specs.Found.{found_owned}

-- ---- reading: the number, and where the first request begins or the offset of a refusal
abbrev pub reading_number : List ℕ → ℕ
reading_number b = told_number (found_owned (length b) (read_owned limits b))

abbrev pub reading_place : List ℕ → ℕ
reading_place b = told_by (λ f. f.requests) (found_owned (length b) (read_owned limits b))

-- ---- applying
-- by the rules, at the state that is lent in four parts
abbrev pub applied_to : List ℕ → List ℕ → List ℕ → ℕ → List ℕ → AppliedOf StoredOwned
applied_to c o t e b = apply_by (owned_steps limits) (kept_in (owned_steps limits) (stored_owned c o) t e) b

-- the number, what then lies at the table and at the edition, and the place and inner number
pub record BankApplies (c o t : List ℕ) (e : ℕ) (b : List ℕ) (n : ℕ) (u : List ℕ) (d : ℕ) (a : List ℕ) : Type 0 where
  pub number : n ≡ (applied_to c o t e b).outcome.number
  pub table : u ≡ cond (eqb n 0) (words_of (table_of (applied_to c o t e b).state.table)) t
  pub edition : d ≡ (applied_to c o t e b).state.edition
  pub places : a ≡ (applied_to c o t e b).outcome.place ∷ (applied_to c o t e b).outcome.inner ∷ []

-- so the four parts are a state to which the plan is applied: what is proved of such calls (owned, Deliveries) and of code
-- that meets them (demands, Bank) is true of the library's
abbrev pub PartsAreAState : Type 0
PartsAreAState =
    (c o t : List ℕ) (e : ℕ) (b : List ℕ) (n : ℕ) (u : List ℕ) (d : ℕ) (a : List ℕ) → BankApplies c o t e b n u d a
    → OwnedCalled (record { config = c; owners = o; table = t; edition = e }) b
    (record { number = n; place = get_or a 0 0; inner = get_or a 1 0 })
    (record { config = c; owners = o; table = u; edition = d })
