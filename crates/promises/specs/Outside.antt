-- "The first number that applies", as Answers has it, over a kind of terminals as it is seen from outside (`Outside`):
-- document 01's terminals are one kind, those with owners another (Owned).
use Rattle.std.specs.Prelude.{ℕ, ◌+◌, ◌≤◌, ◌<◌, Bool, false, List, [], ◌∷◌, ◌↔◌, ◌≡◌, length, get_or, take, drop}
use Rattle.lists.specs.Lines.{◌given◌, FirstOf, Exactly, Line}
use Rattle.lists.specs.Runs.{runs}
use Rattle.formats.specs.Formats.{Out, got, bad}
use Rattle.rules.specs.Applying.{last_edition, plain, plan_config, plain_steps, base_by, apply, answer_alone, Kept}
use Rattle.rules.specs.Configuration.{config_of, check, Configuration}
use Rattle.rules.specs.Configuration.{StoredConfig}
use Rattle.rules.specs.Limits.{Limits}
use Rattle.rules.specs.Plan.{plan_format, requests_from}
use Rattle.rules.specs.Requests.{refusal, next, answer}
use Rattle.rules.specs.Run.{run_answer}
use Rattle.rules.specs.Steps.{StepRule}
use Rattle.rules.specs.Tables.{table_of, check_table, Zone, StoredTable}
use Rattle.rules.specs.Translation.{translated}
use Rattle.rules.specs.declared.Checked.TheVariants.{Sound}
use Rattle.rules.specs.declared.Guest.{Guest}
use Rattle.rules.specs.declared.Outcome.{Outcome}
use Rattle.rules.specs.declared.Request.{Request}
use Rattle.rules.specs.declared.Side.{Side}
use Rattle.rules.specs.declared.Translated.{Translated}
use Rattle.promises.specs.Steps.{Deliveries}
use Rattle.promises.specs.Answers.{nowhere, translation_lines, ComesOut, no_ask, RequestSays}
use Rattle.promises.specs.Stretches.{further}

-- ---- 1 and 2, before all else: the configuration's check finds something, the table's says no
abbrev pub standing_by : {R : Type 0} → (ℕ → R) → Type 0 → Bool → List (Line R)
standing_by say Passes passes = say 1 given (Passes → ⊥) ∷ say 2 given (passes ≡ false) ∷ []

-- ---- requests in turn
-- by what a request is answered at a table, and the table after it
module _ (number : List Zone → Request → ℕ) (after : List Zone → Request → List Zone) where
  -- the number of request i, at the table that the requests before it leave
  abbrev pub number_by : List Zone → List Request → ℕ → ℕ
  number_by t qs i = number (runs after t (take i qs)) (get_or qs i no_ask)

  -- all are accepted, and the place is their number; or request i is the first that is refused, and the place is i
  pub data EndsBy (t : List Zone) (qs : List Request) : Outcome → Type 0 where
    all_accepted : ((j : ℕ) → j < length qs → number_by t qs j ≡ 0) → EndsBy t qs (plain 0 (length qs))
    twenty_seven : (i : ℕ) → i < length qs → ((j : ℕ) → j < i → number_by t qs j ≡ 0) → (number_by t qs i ≡ 0 → ⊥)
        → EndsBy t qs (record { number = 27; place = i; inner = number_by t qs i })

-- ---- plans
-- what reading the bytes says, by the reader of a plan's sections: 20 or 21 at the offset of a field; 22 at the first
-- byte after the last section; or a plan, of which Then speaks
pub data ReadingBy {P : Type 0} (read : List ℕ → Out P) (b : List ℕ) (Then : P → Outcome → Type 0) : Outcome → Type 0 where
  twenty : (at : ℕ) → at ≤ length b → read b ≡ bad 20 (drop at b) → ReadingBy read b Then (plain 20 at)
  twenty_one : (at : ℕ) → at ≤ length b → read b ≡ bad 21 (drop at b) → ReadingBy read b Then (plain 21 at)
  twenty_two : (p : P) (at : ℕ) → at < length b → read b ≡ got p (drop at b) → ReadingBy read b Then (plain 22 at)
  reads : (p : P) (o : Outcome) → read b ≡ got p [] → Then p o → ReadingBy read b Then o

-- ---- a kind of terminals from outside: what its step rule does not name, by the names that the rules have for it
pub record Outside (m : StepRule) : Type 1 where
  -- a configuration as the rules speak of it: that of a stored one, and that of a plan
  pub Model : Type 0
  pub model : m.Config → Model
  pub said : m.Said → Model
  -- document 01's configuration in a stored one
  pub first : m.Config → StoredConfig
  -- the check of a configuration finds nothing, else 1; that of a table says yes, else 2
  pub Passes : m.Config → Type 0
  pub passes : m.Config → StoredTable → Bool
  -- the number of a request and the next table; and what the document's lines say of the number
  pub number : Model → List Zone → Request → ℕ
  pub after : Model → List Zone → Request → List Zone
  pub Says : Model → List Zone → Request → ℕ → Type 0
  -- the reader of a plan's sections, whatever stands behind them
  pub sections : List ℕ → Out m.Said
  -- what is answered: to a request, of an address, to requests in turn, to a plan at a terminal and to a plan alone
  pub answer : m.Config → StoredTable → Request → ℕ
  pub address : m.Config → StoredTable → ℕ → Side → Guest → Translated
  pub requests : m.Config → StoredTable → List Request → Outcome
  pub deliver : Deliveries m
  pub alone : List ℕ → Outcome

module _ (m : StepRule) (o : Outside m) where
  -- 1 and 2 of a stored configuration and table
  abbrev pub standing_of : {R : Type 0} → (ℕ → R) → m.Config → StoredTable → List (Line R)
  standing_of say c t = standing_by say (o.Passes c) (o.passes c t)

  -- how requests end, under a configuration
  abbrev pub EndsOf : o.Model → List Zone → List Request → Outcome → Type 0
  EndsOf c = EndsBy (o.number c) (o.after c)

  -- a request
  abbrev pub AnswerIsExactBy : Type 0
  AnswerIsExactBy =
      (c : m.Config) (t : StoredTable) (q : Request)
      → Exactly (o.answer c t q) (FirstOf (standing_of (λ n. n) c t) (o.Says (o.model c) (table_of t) q))

  -- an address
  abbrev pub TranslatedIsExactBy : Type 0
  TranslatedIsExactBy =
      (c : m.Config) (t : StoredTable) (id : ℕ) (s : Side) (a : Guest)
      → Exactly (o.address c t id s a)
      (FirstOf (standing_of nowhere c t)
      (FirstOf (translation_lines (table_of t) id s a.0) (ComesOut (table_of t) id s a.0)))

  -- requests in turn
  abbrev pub RunAnswerIsExactBy : Type 0
  RunAnswerIsExactBy =
      (c : m.Config) (t : StoredTable) (qs : List Request)
      → Exactly (o.requests c t qs)
      (FirstOf (standing_of (λ n. plain n 0) c t) (EndsOf (o.model c) (table_of t) qs))

  -- 23 to 26 of a plan at a terminal: it gives another configuration, its edition differs from the terminal's, there is
  -- no next edition, its zones differ
  abbrev pub base_lines_by : Kept m → m.Said → List (Line Outcome)
  base_lines_by s p =
      plain 23 0 given (m.Gives s.config p → ⊥)
      ∷ plain 24 0 given (s.edition ≡ m.edition p → ⊥)
      ∷ plain 25 0 given (s.edition ≡ last_edition)
      ∷ plain 26 0 given (table_of s.table ≡ m.zones p → ⊥)
      ∷ []

  -- then 27 or 0, as the run of its requests at the terminal's table ends
  abbrev pub AtTerminalBy : Kept m → m.Said → Outcome → Type 0
  AtTerminalBy s p =
      FirstOf (base_lines_by s p) (EndsOf (o.model s.config) (table_of s.table) (requests_from (m.asked p)))

  -- at a terminal: 1 and 2 of its own state, before any byte is read
  abbrev pub ApplyIsExactBy : Type 0
  ApplyIsExactBy =
      (s : Kept m) (b : List ℕ)
      → Exactly (o.deliver s b).outcome
      (FirstOf (standing_of (λ n. plain n 0) s.config s.table) (ReadingBy o.sections b (AtTerminalBy s)))

  -- a plan alone: 1 and 2 of its own base, 25, and 27 or 0 by its own configuration and zones
  abbrev pub AloneBy : m.Said → Outcome → Type 0
  AloneBy p =
      FirstOf (standing_of (λ n. plain n 0) (base_by m p).config (base_by m p).table)
      (FirstOf (plain 25 0 given (m.edition p ≡ last_edition) ∷ [])
      (EndsOf (o.said p) (m.zones p) (requests_from (m.asked p))))

  -- alone: 20, 21, 22 come first
  abbrev pub AloneIsExactBy : Type 0
  AloneIsExactBy = (b : List ℕ) → Exactly (o.alone b) (ReadingBy o.sections b AloneBy)

  -- so the program never answers 23, 24 or 26
  abbrev pub NeverAloneBy : Type 0
  NeverAloneBy =
      (b : List ℕ) → ((o.alone b).number ≡ 23 → ⊥) × ((o.alone b).number ≡ 24 → ⊥) × ((o.alone b).number ≡ 26 → ⊥)

-- ---- from outside, of every kind of terminals
module _ (m : StepRule) (o : Outside m) where
  -- for every i below what remains, address + i translates to physical + i, with what remains less i; of any words
  abbrev pub StretchIsConsecutiveBy : Type 0
  StretchIsConsecutiveBy =
      (c : m.Config) (t : StoredTable) (id : ℕ) (s : Side) (a : Guest) (i : ℕ)
      → i < (o.address c t id s a).remaining
      → o.address c t id s (record { 0 = a.0 + i }) ≡ further i (o.address c t id s a)

  -- nothing remains on refusal, and only then
  abbrev pub NothingRemainsBy : Type 0
  NothingRemainsBy =
      (c : m.Config) (t : StoredTable) (id : ℕ) (s : Side) (a : Guest)
      → ((o.address c t id s a).remaining ≡ 0) ↔ ((o.address c t id s a).number ≡ 0 → ⊥)

-- ---- document 01's terminals
abbrev pub plain_outside : (l : Limits) → Outside (plain_steps l)
plain_outside l = record {
  Model = Configuration;
  model = config_of;
  said = plan_config;
  first = λ c. c;
  Passes = λ c. check l c ≡ Sound;
  passes = check_table l;
  number = refusal l;
  after = next l;
  Says = RequestSays l;
  sections = (plan_format l).read;
  answer = answer l;
  address = translated l;
  requests = run_answer l;
  deliver = apply l;
  alone = answer_alone l;
}
