-- Demand 3 of the code of terminals with owners: they are a kind that fits, so all is what is said of every kind.
use mathlib.Core.List.{[], ◌∷◌}
use mathlib.Core.Path.{◌≡◌, refl, sym, subst, ◌∙◌}
use Rattle.lists.specs.Room.{room}
use Rattle.lists.specs.Runs.{runs}
use Rattle.rules.specs.Configuration.{StoredConfig}
use Rattle.rules.specs.Desk.{G}
use Rattle.rules.specs.Limits.{most_regions, limits}
use Rattle.rules.specs.Owners.{gic_owner, StoredOwned}
use Rattle.rules.specs.OwnedPlan.{owned_steps}
use Rattle.rules.proofs.Planner.{limits_sayable}
use Rattle.promises.specs.Editions.{begin, happens, AllLegal}
use Rattle.promises.specs.Past.{asked_for, events, bank_terminals, bank_with5}
use Rattle.promises.specs.Steps.{terminal, planner_by}
use Rattle.rules.specs.Applying.{apply_by}
use Rattle.promises.proofs.Owned.{owned_is_proper, owned_passed_is_good}
use Rattle.promises.proofs.OwnedNeighbours.{owned_is_neighbourly}
use Rattle.promises.proofs.Past.{owned_past_shown}
use Rattle.zones.proofs.Spelling.{config_view, table_view}
use Rattle.owned.proofs.Deliveries.{owned_lendable, owned_store, owned_called}
use Rattle.demands.specs.Bank.{bank_kind, BankMeets, BankCodeIsLawful, owned_held, BankCodeFollows, BankGoesAlong}
use Rattle.demands.specs.Bank.{BankEqualEditions, BankNeverAhead, BankWordsOweNothing, BankLowerIsBehind, bank_words, BankPastShown}
use Rattle.demands.specs.Steps.{MeetsBy, Fits, CodeBy}
use Rattle.demands.proofs.Steps.{code_of_steps_is_lawful, code_of_steps_follows, code_of_steps_goes_along}
use Rattle.demands.proofs.Steps.{equal_editions_by_code, owe_nothing_by_code, never_ahead_by_code, lower_is_behind_by_code}

pub bank_fits : Fits bank_kind
bank_fits = record {
  proper = owned_is_proper limits;
  sayable = limits_sayable;
  lendable = owned_lendable;
  stores = owned_store;
  lent_kept = λ s. refl;
  kept_lent = λ s. refl;
  held = λ s. refl;
  stored = λ s t. refl;
  holds_stored = λ h t i. record { config = owned_held h; table = table_view t i };
}

calls_meet : (f : CodeBy bank_kind) → BankMeets f → MeetsBy bank_kind f
calls_meet f meets s b = owned_called s b (f.says s b) (f.leaves s b) (meets s b)

pub bank_code_is_lawful : BankCodeIsLawful
bank_code_is_lawful f meets = code_of_steps_is_lawful bank_kind bank_fits f (calls_meet f meets)

pub bank_code_follows : BankCodeFollows
bank_code_follows f meets h ok asked p =
    code_of_steps_follows bank_kind bank_fits f (calls_meet f meets) h (owned_passed_is_good limits (owned_held h) ok) asked p

pub bank_goes_along : BankGoesAlong
bank_goes_along f meets h asked p = code_of_steps_goes_along bank_kind bank_fits f (calls_meet f meets) h asked p

pub bank_equal_editions : BankEqualEditions
bank_equal_editions f g mf mg h ok asked p q e =
    equal_editions_by_code bank_kind bank_fits f g (calls_meet f mf) (calls_meet g mg) h
    (owned_passed_is_good limits (owned_held h) ok) asked p q e

pub bank_words_owe_nothing : BankWordsOweNothing
bank_words_owe_nothing f g mf mg h ok z asked other p q e =
    owe_nothing_by_code bank_kind bank_fits (owned_is_neighbourly limits) f g (calls_meet f mf) (calls_meet g mg) h
    (owned_passed_is_good limits (owned_held h) ok) z asked other p q e

pub bank_never_ahead : BankNeverAhead
bank_never_ahead f meets h ok asked p =
    never_ahead_by_code bank_kind bank_fits f (calls_meet f meets) h (owned_passed_is_good limits (owned_held h) ok) asked p

pub bank_lower_is_behind : BankLowerIsBehind
bank_lower_is_behind f meets h ok asked p q l =
    lower_is_behind_by_code bank_kind bank_fits f (calls_meet f meets) h
    (owned_passed_is_good limits (owned_held h) ok) asked p q l

-- ---- the past that there is
-- the rules' past under a configuration and its owners: legal, and its end
abbrev Shown : StoredConfig → Type 0
Shown c =
    let o : StoredOwned = record { config = c; owners = room most_regions 0 (gic_owner ∷ []) } in
    let p = planner_by (owned_steps limits) (apply_by (owned_steps limits)) o asked_for in
    AllLegal bank_terminals p (begin bank_terminals p) events
    × (terminal (runs (happens bank_terminals p) (begin bank_terminals p) events).state ≡ bank_with5)

shown : Shown (owned_held bank_words).config
shown =
    subst Shown (sym (config_view (record { regions = G ∷ []; gic = 0 }))) (owned_past_shown.0, owned_past_shown.2)

pub bank_past_shown : BankPastShown
bank_past_shown f meets =
    let r = bank_goes_along f meets bank_words asked_for (events, shown.0) in
    (r.0, r.1, r.3 ∙ shown.1)
