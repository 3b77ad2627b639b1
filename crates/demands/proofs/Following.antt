-- Demand 3 of the code of document 01's terminals: they are a kind that fits, so all is what is said of every kind.
use Prim.Native.Nat.{ℕ}
use mathlib.Core.List.{List, [], ◌∷◌}
use mathlib.Core.Path.{◌≡◌, refl, sym, ap, subst, ◌∙◌}
use lib.ListN.{length}
use Rattle.lists.specs.Runs.{runs}
use Rattle.lists.proofs.Places.{length_tab}
use Rattle.rules.specs.Applying.{plain_steps, apply, Terminal}
use Rattle.rules.specs.Configuration.{StoredConfig}
use Rattle.rules.specs.Desk.{G}
use Rattle.rules.specs.Limits.{most_regions, limits}
use Rattle.rules.specs.Plan.{Asked}
use Rattle.rules.specs.Story.{with5}
use Rattle.rules.proofs.Planner.{limits_sayable}
use Rattle.promises.specs.Editions as editions
use Rattle.promises.specs.Editions.{begin, happens, AllLegal}
use Rattle.promises.specs.Past.{asked_for, events}
use Rattle.promises.specs.Steps.{GoodConfig}
use Rattle.promises.specs.Terminals as promised
use Rattle.promises.specs.Terminals.{terminal, terminals}
use Rattle.promises.proofs.Neighbours.{plain_is_neighbourly}
use Rattle.promises.proofs.Past.{past_shown}
use Rattle.promises.proofs.Terminals.{plain_is_proper, passed_is_good}
use Rattle.zones.specs.Layout.{config_records}
use Rattle.zones.specs.Records.{record_at, records_at}
use Rattle.zones.specs.View.{stored_config, ConfigPassed}
use Rattle.zones.specs.declared.config.Config.{Config}
use Rattle.zones.proofs.Spelling.{config_view, table_view}
use Rattle.plan.specs.Applying.{terminal_in}
use Rattle.plan.specs.declared.applying.Applied.{Applied}
use Rattle.plan.proofs.Deliveries.{plainly_lendable, states_store, called_by}
use Rattle.terminal.proofs.Lending.{by_value}
use Rattle.demands.specs.Following.{WordsNeverAhead, WordsOweNothing, Code, Meets, ByValueMeets, lent, words_kind, calls_of, terminals_of, CodeIsLawful}
use Rattle.demands.specs.Following.{no_zones, planner, CodeFollows, CodeGoesAlong, EqualEditionsEqualWords}
use Rattle.demands.specs.Following.{LowerWordsAreBehind, desk_config, CodePastShown, Words}
use Rattle.demands.specs.Steps.{MeetsBy, Fits}
use Rattle.demands.proofs.Steps.{never_ahead_by_code, owe_nothing_by_code, start_sound, code_of_steps_is_lawful, code_of_steps_follows}
use Rattle.demands.proofs.Steps.{code_of_steps_goes_along, equal_editions_by_code, lower_is_behind_by_code}

pub by_value_meets : ByValueMeets
by_value_meets f e s b = record {
  answer = ap (λ (a : Applied). a.outcome) (e s b);
  next = ap (λ (a : Applied). a.state) (e s b);
}

-- ---- the kind
pub words_fit : Fits words_kind
words_fit = record {
  proper = plain_is_proper limits;
  sayable = limits_sayable;
  lendable = plainly_lendable;
  stores = states_store;
  lent_kept = λ s. refl;
  kept_lent = λ s. refl;
  held = λ s. refl;
  stored = λ s t. refl;
  holds_stored = λ h t i. record { config = stored_config h.config.words; table = table_view t i };
}

pub calls_meet : (f : Code) → Meets f → MeetsBy words_kind (calls_of f)
calls_meet f meets s b =
    called_by s b (f s b).outcome (f s b).state (by_value s b (f s b).outcome (f s b).state (meets s b))

-- a record for each region that there is room for
pub all_records_law : (w : List ℕ) → length (stored_config w).records ≡ most_regions
unfolding records_at
all_records_law w = length_tab most_regions (record_at w config_records)

good : (c : Config) → ConfigPassed c.words → GoodConfig (plain_steps limits) (stored_config c.words)
good c ok = passed_is_good limits (stored_config c.words) (all_records_law c.words, ok)

-- the terminal whose words are held
abbrev pub now : editions.State Words → Terminal
now s = terminal_in (lent s)

pub start_stands : (c : Config) (asked : ℕ → List Asked) (f : Code) → ConfigPassed c.words
    → (terminals_of f).Sound (planner c asked f).start
start_stands c asked f ok = start_sound words_kind words_fit (no_zones c asked) asked (calls_of f) (good c ok)

-- ---- what is said of every kind
pub code_is_lawful : CodeIsLawful
code_is_lawful f meets = code_of_steps_is_lawful words_kind words_fit (calls_of f) (calls_meet f meets)

pub code_follows : CodeFollows
code_follows f meets c ok asked h =
    code_of_steps_follows words_kind words_fit (calls_of f) (calls_meet f meets) (no_zones c asked) (good c ok) asked h

pub code_goes_along : CodeGoesAlong
unfolding apply
code_goes_along f meets c asked h =
    code_of_steps_goes_along words_kind words_fit (calls_of f) (calls_meet f meets) (no_zones c asked) asked h

pub equal_editions_equal_words : EqualEditionsEqualWords
equal_editions_equal_words f g mf mg c ok asked p q e =
    equal_editions_by_code words_kind words_fit (calls_of f) (calls_of g) (calls_meet f mf) (calls_meet g mg)
    (no_zones c asked) (good c ok) asked p q e

pub words_owe_nothing : WordsOweNothing
words_owe_nothing f g mf mg c ok z asked other p q e =
    owe_nothing_by_code words_kind words_fit (plain_is_neighbourly limits) (calls_of f) (calls_of g) (calls_meet f mf)
    (calls_meet g mg) (no_zones c asked) (good c ok) z asked other p q e

pub words_never_ahead : WordsNeverAhead
words_never_ahead f meets c ok asked p =
    never_ahead_by_code words_kind words_fit (calls_of f) (calls_meet f meets) (no_zones c asked) (good c ok) asked p

pub lower_words_are_behind : LowerWordsAreBehind
lower_words_are_behind f meets c ok asked p q l =
    lower_is_behind_by_code words_kind words_fit (calls_of f) (calls_meet f meets) (no_zones c asked) (good c ok) asked p q l

-- ---- the past that there is
-- the rules' past under a configuration: legal, and its end
abbrev Shown : StoredConfig → Type 0
Shown c =
    AllLegal (terminals limits) (promised.planner limits c asked_for)
    (begin (terminals limits) (promised.planner limits c asked_for)) events
    × (terminal
    (runs (happens (terminals limits) (promised.planner limits c asked_for))
    (begin (terminals limits) (promised.planner limits c asked_for)) events).state
    ≡ with5 1)

shown : Shown (stored_config desk_config.words)
shown = subst Shown (sym (config_view (record { regions = G ∷ []; gic = 0 }))) (past_shown.0, past_shown.2)

pub code_past_shown : CodePastShown
code_past_shown f meets =
    let r = code_goes_along f meets desk_config asked_for (events, shown.0) in
    (r.0, r.1, r.3 ∙ shown.1)
