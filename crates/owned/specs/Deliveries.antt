-- Plans with owners delivered to words, one after another: what a caller may count on is what it may of document 01's.
use Rattle.std.specs.Prelude.{ℕ, List, ◌≡◌}
use Rattle.rules.specs.Applying.{apply_by}
use Rattle.rules.specs.Limits.{limits}
use Rattle.rules.specs.OwnedPlan.{owned_steps}
use Rattle.rules.specs.Tables.{table_of}
use Rattle.rules.specs.declared.Outcome.{Outcome}
use Rattle.zones.specs.Words.{words_of}
use Rattle.owners.specs.View.{stored_owned}
use Rattle.plan.specs.Deliveries.{Lending, FaithfulBy}
use Rattle.plan.specs.Steps.{kept_in}
use Rattle.owned.specs.Applying.{OwnedApplied}

-- the words of a terminal with owners
pub record OwnedState : Type 0 where
  pub config : List ℕ
  pub owners : List ℕ
  pub table : List ℕ
  pub edition : ℕ

abbrev pub owned_lent : Lending (owned_steps limits)
owned_lent = record {
  State = OwnedState;
  Fixed = List ℕ × List ℕ;
  config = λ s. (s.config, s.owners);
  terminal = λ s. kept_in (owned_steps limits) (stored_owned s.config s.owners) s.table s.edition;
  next =
      λ s t. record {
        config = s.config;
        owners = s.owners;
        table = words_of (table_of t.table);
        edition = t.edition;
      };
}

-- what `apply_words` says of a call, and the library's `peatmitten_bank_apply_words` of the edition too
pub record OwnedCalled (s : OwnedState) (b : List ℕ) (o : Outcome) (u : OwnedState) : Type 0 where
  pub applied : OwnedApplied s.config s.owners s.table s.edition b o u.table
  pub edition : u.edition ≡ (apply_by (owned_steps limits) (owned_lent.terminal s) b).state.edition
  pub config : u.config ≡ s.config
  pub owners : u.owners ≡ s.owners

-- such calls do what the rules say
abbrev pub OwnedIsFaithful : Type 0
OwnedIsFaithful = FaithfulBy (owned_steps limits) owned_lent (apply_by (owned_steps limits)) OwnedCalled
