-- Demand 3 for document 01's terminals: they are those of its step rule.
use Rattle.std.specs.Prelude.{ℕ, List}
use Rattle.rules.specs.Applying.{plain_steps, apply, Terminal}
use Rattle.rules.specs.Configuration.{StoredConfig}
use Rattle.rules.specs.Limits.{Limits, Sayable}
use Rattle.rules.specs.Plan.{Asked}
use Rattle.promises.specs.Configuration.{Passed}
use Rattle.promises.specs.Editions.{Machine, Lawful, Planner}
use Rattle.promises.specs.Steps.{terminals_by, planned_by, plan_file_by, planner_by, GoodConfig, PastBy, made_in_by}
use Rattle.promises.specs.Steps.{terminal_in_by, StepsFollow, EqualEditionsBy, LowerIsBehindBy, NeverAheadBy, Proper, HeldOf}
use Rattle.promises.specs.Steps.{SoundHeldBy}
pub use Rattle.promises.specs.Steps.{terminal, state_of}

-- ---- terminals as a machine
abbrev pub Held : Type 0
Held = HeldOf StoredConfig

abbrev pub SoundHeld : Limits → Held → Type 0
SoundHeld l = SoundHeldBy (plain_steps l)

abbrev pub terminals : Limits → Machine
terminals l = terminals_by (plain_steps l) (apply l)

-- their step rule is proper, so they meet what is asked of a machine
abbrev pub PlainIsProper : Limits → Type 1
PlainIsProper l = Proper (plain_steps l)

abbrev pub TerminalsAreLawful : Limits → Type 0
TerminalsAreLawful l = Sayable l → Lawful (terminals l)

-- ---- the planner
-- its state at edition k, and plan i
abbrev pub planned : Limits → StoredConfig → (ℕ → List Asked) → ℕ → Terminal
planned l = planned_by (plain_steps l)

abbrev pub plan_file : Limits → StoredConfig → (ℕ → List Asked) → ℕ → List ℕ
plan_file l = plan_file_by (plain_steps l)

abbrev pub planner : (l : Limits) → StoredConfig → (ℕ → List Asked) → Planner (terminals l)
planner l c asked = planner_by (plain_steps l) (apply l) c asked

-- it can begin with a configuration that passed its check
abbrev pub PassedIsGood : Limits → Type 0
PassedIsGood l = (c : StoredConfig) → Passed l c → GoodConfig (plain_steps l) c

-- ---- the demand
-- a terminal's history with this planner; how many plans there are then, and the terminal
module _ (l : Limits) (c : StoredConfig) (asked : ℕ → List Asked) where
  abbrev pub Past : Type 0
  Past = PastBy (plain_steps l) (apply l) c asked

  abbrev pub made_in : Past → ℕ
  made_in = made_in_by (plain_steps l) (apply l) c asked

  abbrev pub terminal_in : Past → Terminal
  terminal_in = terminal_in_by (plain_steps l) (apply l) c asked

-- whatever happened, the terminal is at some edition k with exactly the planner's table of k; plan k + 1 brings k + 1;
-- all else is refused and changes nothing
abbrev pub TerminalsFollow : Limits → Type 0
TerminalsFollow l = Sayable l → StepsFollow (plain_steps l) (apply l)

-- equal editions, equal terminals; the one at the lower edition is behind
abbrev pub EqualEditionsEqualTerminals : Limits → Type 0
EqualEditionsEqualTerminals l = Sayable l → EqualEditionsBy (plain_steps l) (apply l)

abbrev pub LowerTerminalIsBehind : Limits → Type 0
LowerTerminalIsBehind l = Sayable l → LowerIsBehindBy (plain_steps l) (apply l)

-- a terminal is never ahead of its planner
abbrev pub TerminalNeverAhead : Limits → Type 0
TerminalNeverAhead l = Sayable l → NeverAheadBy (plain_steps l) (apply l)
