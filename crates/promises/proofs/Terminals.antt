-- Demand 3 for document 01's terminals: their step rule is proper, and the rest is said of every proper one.
use Prim.Native.Nat.{ℕ}
use mathlib.Core.List.{List, []}
use mathlib.Core.Path.{◌≡◌, refl, sym}
use Rattle.rules.specs.Applying.{plain_steps, apply}
use Rattle.rules.specs.Configuration.{config_of, check, Configuration, StoredConfig}
use Rattle.rules.specs.Limits.{Limits}
use Rattle.rules.specs.Plan.{Asked}
use Rattle.rules.specs.Requests.{refusal, next}
use Rattle.rules.specs.Run.{run_by, run_from, run}
use Rattle.rules.specs.Tables.{Zone}
use Rattle.rules.specs.declared.Checked.TheVariants.{Sound}
use Rattle.rules.specs.declared.Request.{Request}
use Rattle.rules.proofs.Applying.{same_config_law}
use Rattle.rules.proofs.Configuration.{passed}
use Rattle.rules.proofs.Keeps.{sound_parts, next_keeps, SoundTable}
use Rattle.rules.proofs.Plan.{read_encoded, no_slack, plan_ends, plan_refuses}
use Rattle.rules.proofs.Planner.{plan_fits, plan_for_base}
use Rattle.rules.proofs.Stored.{stands_well, stored_stands}
use Rattle.promises.specs.Editions.{at}
use Rattle.promises.specs.Terminals.{terminal, terminals, PlainIsProper, TerminalsAreLawful, planned, planner}
use Rattle.promises.specs.Terminals.{PassedIsGood, TerminalsFollow, EqualEditionsEqualTerminals}
use Rattle.promises.specs.Terminals.{LowerTerminalIsBehind, TerminalNeverAhead}
use Rattle.promises.proofs.Steps.{steps_are_lawful, planned_at_by_law, steps_follow, equal_editions_by}
use Rattle.promises.proofs.Steps.{lower_is_behind_by, never_ahead_by}
use Rattle.promises.proofs.Tables.{empty_is_sound}

-- a run of document 01's requests
run_is : (lim : Limits) (c : Configuration) (t : List Zone) (qs : List Request)
    → run lim c t qs ≡ run_by (refusal lim c) (next lim c) 0 t qs
unfolding run_from
run_is lim c t qs = refl

module _ (lim : Limits) where
  pub plain_is_proper : PlainIsProper lim
  plain_is_proper = record {
    Sound = λ c t. (check lim c ≡ Sound) × SoundTable lim (config_of c) t;
    stands = λ c t e. stands_well lim c t e;
    keeps = λ c t q s. (s.0, next_keeps lim (config_of c) t q s.1);
    stored = λ c t s. stored_stands lim c t s.0 s.1;
    runs_so = λ c t qs. run_is lim (config_of c) t qs;
    tells = λ c p. same_config_law (config_of c) p;
    based = λ s q. plan_for_base s q;
    asks = λ s q. refl;
    reads =
        λ say c e t q full s low fits. read_encoded lim _
        (plan_fits lim say (config_of c) (passed lim c full s.0) e low t s.1 q fits);
    tight = λ b p t bytes e. (let (same, fits) = no_slack lim b p t bytes e in (same, fits.1.1.1.most));
    only =
        λ s p f i. record {
          marks = record { gic = sym f.config.gic i; edition = sym f.edition i };
          regions = sym f.config.regions i;
          zones = sym f.zones i;
          asked = p.asked;
        };
    ends = λ b p t e. plan_ends lim b p t e;
    refuses = λ b k t e. plan_refuses lim b k t e;
  }

  pub terminals_are_lawful : TerminalsAreLawful lim
  unfolding apply
  terminals_are_lawful say = steps_are_lawful (plain_steps lim) plain_is_proper say

  pub passed_is_good : PassedIsGood lim
  passed_is_good c (full, e) = record {
    records = full;
    stands = stored_stands lim c [] e (sound_parts lim (config_of c) [] (empty_is_sound lim (config_of c)));
  }

  pub planned_at_law : (c : StoredConfig) (asked : ℕ → List Asked) (k : ℕ)
      → planned lim c asked k ≡ terminal (at (terminals lim) (planner lim c asked) k)
  unfolding apply
  planned_at_law = planned_at_by_law (plain_steps lim)

  pub terminals_follow : TerminalsFollow lim
  unfolding apply
  terminals_follow say = steps_follow (plain_steps lim) plain_is_proper say

  pub equal_editions_equal_terminals : EqualEditionsEqualTerminals lim
  unfolding apply
  equal_editions_equal_terminals say = equal_editions_by (plain_steps lim) plain_is_proper say

  pub lower_terminal_is_behind : LowerTerminalIsBehind lim
  unfolding apply
  lower_terminal_is_behind say = lower_is_behind_by (plain_steps lim) plain_is_proper say

  pub terminal_never_ahead : TerminalNeverAhead lim
  unfolding apply
  terminal_never_ahead say = never_ahead_by (plain_steps lim) plain_is_proper say
