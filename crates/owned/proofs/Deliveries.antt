-- A call is what code for the step rule says, so what is proved of any step rule's calls holds of these.
use Prim.Native.Nat.{ℕ}
use mathlib.Core.Bool.{Bool, true, false, cond}
use mathlib.Core.List.{List}
use mathlib.Core.Path.{◌≡◌, refl, ap, ◌∙◌}
use borrow.Author.Tests.{eqb-false}
use lib.Dec.{eqb}
use Rattle.rules.specs.Applying.{Kept, apply_by, AppliedOf}
use Rattle.rules.specs.Limits.{limits}
use Rattle.rules.specs.OwnedPlan.{owned_steps}
use Rattle.rules.specs.Owners.{owned_of, owned_refusal, owned_next, StoredOwned}
use Rattle.rules.specs.Tables.{table_of}
use Rattle.rules.specs.declared.Outcome.{Outcome}
use Rattle.rules.proofs.Applying.{refused_by}
use Rattle.rules.proofs.OwnedPlan.{owned_refuses, owned_stands_well}
use Rattle.rules.proofs.Owners.{owned_keeps, OwnedTable}
use Rattle.rules.proofs.Run.{run_by_keeps}
use Rattle.rules.proofs.Stored.{table_back}
use Rattle.zones.specs.Words.{words_of}
use Rattle.zones.proofs.Spelling.{table_view}
use Rattle.plan.specs.Deliveries.{Stores, Lendable, CalledBy}
use Rattle.plan.proofs.Deliveries.{steps_are_faithful}
use Rattle.owned.specs.Deliveries.{owned_lent, OwnedIsFaithful, OwnedState, OwnedCalled}

pub owned_lendable : Lendable (owned_steps limits)
owned_lendable = record {
  back =
      λ c t z qs. table_back limits (owned_of c).config _
      (run_by_keeps (owned_refusal limits (owned_of c)) (owned_next limits (owned_of c)) (OwnedTable limits (owned_of c))
      (owned_keeps limits (owned_of c)) 0 (table_of t) qs (owned_stands_well limits c t z).1).table;
  refuses = λ b k t e. owned_refuses limits b k t e;
}

pub owned_store : Stores (owned_steps limits) owned_lent
owned_store = record {
  held =
      λ s t i. record {
        config = (owned_lent.terminal s).config;
        table = table_view (table_of t.table) i;
        edition = t.edition;
      };
  config = λ s t. refl;
}

module _ (s : OwnedState) (b : List ℕ) (o : Outcome) (u : OwnedState) (h : OwnedCalled s b o u) where
  abbrev done : AppliedOf StoredOwned
  done = apply_by (owned_steps limits) (owned_lent.terminal s) b

  abbrev either : Bool → OwnedState
  either x = cond x (owned_lent.next s done.state) s

  words : (x : Bool) → eqb o.number 0 ≡ x → u.table ≡ cond x (words_of (table_of done.state.table)) s.table
  words x e = h.applied.table ∙ ap (λ (y : Bool). cond y (words_of (table_of done.state.table)) s.table) e

  edition_stays : eqb o.number 0 ≡ false → u.edition ≡ s.edition
  edition_stays e =
      h.edition
      ∙ ap (λ (k : Kept (owned_steps limits)). k.edition)
      (refused_by (owned_steps limits) (owned_lent.terminal s) b
      (λ z. eqb-false _ _ e (ap (λ (x : Outcome). x.number) h.applied.answer ∙ z)))

  state_is : (x : Bool) → eqb o.number 0 ≡ x → u ≡ either x
  state_is true e =
      λ i. record { config = h.config i; owners = h.owners i; table = words true e i; edition = h.edition i }
  state_is false e =
      λ i. record {
        config = h.config i;
        owners = h.owners i;
        table = words false e i;
        edition = edition_stays e i;
      }

  pub owned_called : CalledBy (owned_steps limits) owned_lent s b o u
  owned_called = record { answer = h.applied.answer; state = state_is (eqb o.number 0) refl }

pub owned_is_faithful : OwnedIsFaithful
owned_is_faithful =
    steps_are_faithful (owned_steps limits) owned_lent owned_lendable owned_store OwnedCalled owned_called
