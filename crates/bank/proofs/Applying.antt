-- Plans at the border: what was found and what was answered, in numbers.
use Prim.Native.Nat.{ℕ, ◌+◌, ◌^◌, ◌<◌}
use mathlib.Core.List.{List, [], ◌∷◌}
use mathlib.Core.Path.{◌≡◌, refl, ap, ◌∙◌}
use lib.ListN.{get_or}
use Rattle.rules.specs.Limits.{limits}
use Rattle.rules.specs.OwnedPlan.{owned_steps}
use Rattle.rules.specs.declared.Outcome.{Outcome}
use Rattle.rules.proofs.OwnedPlan.{owned_refuses}
use Rattle.owners.specs.View.{stored_owned}
use Rattle.plan.proofs.Steps.{edition_kept, edition_raised, edition_next}
use Rattle.owned.specs.Applying.{OwnedApplied}
use Rattle.bank.specs.Applying.{applied_to}
use Rattle.bank.specs.Applying.{PartsAreAState, BankApplies}

-- ---- r was answered where the words lie, u are the table's words then, and a are its two places
module _ (c o t : List ℕ) (e : ℕ) (b : List ℕ) (r : Outcome) (u : List ℕ) (done : OwnedApplied c o t e b r u) where
  module _ (a : List ℕ) (ea : a ≡ r.place ∷ r.inner ∷ []) where
    told : (d : ℕ) → d ≡ (applied_to c o t e b).state.edition → BankApplies c o t e b r.number u d a
    told d ed = record {
      number = ap (λ (x : Outcome). x.number) done.answer;
      table = done.table;
      edition = ed;
      places = ea ∙ ap (λ (x : Outcome). x.place ∷ x.inner ∷ []) done.answer;
    }

    pub applies_refused : (r.number ≡ 0 → ⊥) → BankApplies c o t e b r.number u e a
    applies_refused ne = told e (edition_kept (owned_steps limits) (stored_owned c o) t e b r u done ne)

    pub applies_accepted : r.number ≡ 0 → BankApplies c o t e b r.number u (e + 1) a
    applies_accepted z =
        told (e + 1) (edition_raised (owned_steps limits) (stored_owned c o) t e b r u done (owned_refuses limits) z)

  pub next_room : r.number ≡ 0 → e < 2 ^ 32 → e + 1 < 2 ^ 32
  next_room z = edition_next (owned_steps limits) (stored_owned c o) t e b r u done (owned_refuses limits) z

pub parts_are_a_state : PartsAreAState
parts_are_a_state c o t e b n u d a h = record {
  applied = record {
    answer = (λ i. record { number = h.number i; place = get_or (h.places i) 0 0; inner = get_or (h.places i) 1 0 });
    table = h.table;
  };
  edition = h.edition;
  config = refl;
  owners = refl;
}
