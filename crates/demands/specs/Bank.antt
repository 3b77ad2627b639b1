-- Demand 3 of the code of terminals with owners: the second kind of Steps.
use Rattle.std.specs.Prelude.{ℕ, suc, ◌-◌, ◌≤◌, ◌<◌, List, [], ◌∷◌, map, ◌≡◌}
use Rattle.lists.specs.Orders.{keep}
use Rattle.lists.specs.Places.{places}
use Rattle.lists.specs.Room.{room}
use Rattle.lists.specs.Runs.{runs}
use Rattle.rules.specs.Applying.{apply_by}
use Rattle.rules.specs.Desk.{G}
use Rattle.rules.specs.Limits.{most_regions, limits}
use Rattle.rules.specs.OwnedPlan.{owned_steps}
use Rattle.rules.specs.Owners.{gic_owner, StoredOwned}
use Rattle.rules.specs.Plan.{Asked}
use Rattle.rules.specs.Tables.{table_of}
use Rattle.promises.specs.Editions.{Lawful}
use Rattle.promises.specs.Neighbours.{Alike, TranslatesAlike, names, asked_up_to}
use Rattle.promises.specs.OwnedConfiguration.{OwnedPassed}
use Rattle.promises.specs.Past.{asked_for, events, bank_with5}
use Rattle.promises.specs.Steps.{PastBy, made_in_by, terminal_in_by}
use Rattle.zones.specs.View.{stored_table}
use Rattle.zones.specs.Words.{words_of, words_of_config}
use Rattle.owners.specs.View.{stored_owned}
use Rattle.owned.specs.Deliveries.{owned_lent, OwnedState, OwnedCalled}
use Rattle.demands.specs.Steps.{code_terminals, planned_at_by, plan_at_by, CodePast, code_made, code_state, Kind, CodeBy, FollowsBy}

-- what is held under an edition: words
pub record OwnedWords : Type 0 where
  pub config : List ℕ
  pub owners : List ℕ
  pub table : List ℕ

abbrev pub bank_kind : Kind
bank_kind = record {
  rule = owned_steps limits;
  lending = owned_lent;
  Held = OwnedWords;
  lent =
      λ s. record {
        config = s.table.config;
        owners = s.table.owners;
        table = s.table.table;
        edition = s.edition;
      };
  kept =
      λ s. record {
        edition = s.edition;
        table = record { config = s.config; owners = s.owners; table = s.table };
      };
  holds = λ h. record { config = stored_owned h.config h.owners; table = stored_table h.table };
  storing = λ h t. record { config = h.config; owners = h.owners; table = words_of t };
}

-- the code says of every call what `owned::apply_words` says, and the library's `peatmitten_bank_apply_words`
abbrev pub BankMeets : CodeBy bank_kind → Type 0
BankMeets f = (s : OwnedState) (b : List ℕ) → OwnedCalled s b (f.says s b) (f.leaves s b)

-- such terminals meet what is asked of a machine
abbrev pub BankCodeIsLawful : Type 0
BankCodeIsLawful = (f : CodeBy bank_kind) → BankMeets f → Lawful (code_terminals bank_kind f)

-- the configuration and the owners that words hold
abbrev pub owned_held : OwnedWords → StoredOwned
owned_held h = stored_owned h.config h.owners

-- whatever happened, the words hold exactly the planner's state of some edition
abbrev pub BankCodeFollows : Type 0
BankCodeFollows =
    (f : CodeBy bank_kind) → BankMeets f → (h : OwnedWords) → OwnedPassed limits (owned_held h)
    → (asked : ℕ → List Asked) (p : CodePast bank_kind h asked f)
    → (k : ℕ) × FollowsBy bank_kind h asked f (code_made bank_kind h asked f p) (code_state bank_kind h asked f p) k

-- every history of the rules' terminals is one of the code's
abbrev pub BankGoesAlong : Type 0
BankGoesAlong =
    (f : CodeBy bank_kind) → BankMeets f
    → (h : OwnedWords) (asked : ℕ → List Asked) (p : PastBy (owned_steps limits) (apply_by (owned_steps limits)) (owned_held h) asked)
    → (g : CodePast bank_kind h asked f) × (g.0 ≡ p.0)
    × (code_made bank_kind h asked f g ≡ made_in_by (owned_steps limits) (apply_by (owned_steps limits)) (owned_held h) asked p)
    × (owned_lent.terminal (code_state bank_kind h asked f g)
    ≡ terminal_in_by (owned_steps limits) (apply_by (owned_steps limits)) (owned_held h) asked p)

-- equal editions, equal words
abbrev pub BankEqualEditions : Type 0
BankEqualEditions =
    (f g : CodeBy bank_kind) → BankMeets f → BankMeets g → (h : OwnedWords) → OwnedPassed limits (owned_held h)
    → (asked : ℕ → List Asked) (p : CodePast bank_kind h asked f) (q : CodePast bank_kind h asked g)
    → (code_state bank_kind h asked f p).edition ≡ (code_state bank_kind h asked g q).edition
    → code_state bank_kind h asked f p ≡ code_state bank_kind h asked g q

-- a zone owes nothing to its neighbours
abbrev pub BankWordsOweNothing : Type 0
BankWordsOweNothing =
    (f g : CodeBy bank_kind) → BankMeets f → BankMeets g → (h : OwnedWords) → OwnedPassed limits (owned_held h)
    → (z : ℕ) (asked other : ℕ → List Asked) (p : CodePast bank_kind h asked f) (q : CodePast bank_kind h other g)
    → keep (names z)
    (asked_up_to (owned_steps limits) (apply_by (owned_steps limits)) asked (code_state bank_kind h asked f p).edition)
    ≡ keep (names z)
    (asked_up_to (owned_steps limits) (apply_by (owned_steps limits)) other (code_state bank_kind h other g q).edition)
    → Alike z (table_of (owned_lent.terminal (code_state bank_kind h asked f p)).table)
    (table_of (owned_lent.terminal (code_state bank_kind h other g q)).table)
    × TranslatesAlike z (table_of (owned_lent.terminal (code_state bank_kind h asked f p)).table)
    (table_of (owned_lent.terminal (code_state bank_kind h other g q)).table)

-- a terminal is never ahead of its planner, and calls with the plans that it has missed bring it level
abbrev pub BankNeverAhead : Type 0
BankNeverAhead =
    (f : CodeBy bank_kind) → BankMeets f → (h : OwnedWords) → OwnedPassed limits (owned_held h)
    → (asked : ℕ → List Asked) (p : CodePast bank_kind h asked f)
    → ((code_state bank_kind h asked f p).edition ≤ code_made bank_kind h asked f p)
    × (owned_lent.terminal
    (runs f.leaves (code_state bank_kind h asked f p)
    (map (plan_at_by bank_kind h asked)
    (places (suc (code_state bank_kind h asked f p).edition)
    (code_made bank_kind h asked f p - (code_state bank_kind h asked f p).edition))))
    ≡ planned_at_by bank_kind h asked (code_made bank_kind h asked f p))

-- calls with the plans between two editions, in turn, bring the lower's words to the higher's
abbrev pub BankLowerIsBehind : Type 0
BankLowerIsBehind =
    (f : CodeBy bank_kind) → BankMeets f → (h : OwnedWords) → OwnedPassed limits (owned_held h)
    → (asked : ℕ → List Asked) (p q : CodePast bank_kind h asked f)
    → (code_state bank_kind h asked f p).edition < (code_state bank_kind h asked f q).edition
    → runs f.leaves (code_state bank_kind h asked f p)
    (map (plan_at_by bank_kind h asked)
    (places (suc (code_state bank_kind h asked f p).edition)
    ((code_state bank_kind h asked f q).edition - (code_state bank_kind h asked f p).edition)))
    ≡ code_state bank_kind h asked f q

-- ---- a past that there is
-- words of a configuration whose only region is the GIC, and its owner
abbrev pub bank_words : OwnedWords
bank_words = record {
  config = words_of_config (record { regions = G ∷ []; gic = 0 });
  owners = room most_regions 0 (gic_owner ∷ []);
  table = words_of [];
}

-- the events of `OwnedPastShown` are a history of the code, and the words then hold edition 1 with zone 5
abbrev pub BankPastShown : Type 0
BankPastShown =
    (f : CodeBy bank_kind) → BankMeets f
    → (g : CodePast bank_kind bank_words asked_for f) × (g.0 ≡ events)
    × (owned_lent.terminal (code_state bank_kind bank_words asked_for f g) ≡ bank_with5)
