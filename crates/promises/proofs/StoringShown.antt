-- A history of a terminal in storage, by computation on the definitions.
use native.Mathlib.Omega.{arith}
use mathlib.Core.Bool.{Bool, true, false}
use mathlib.Core.Logic.{inl, inr}
use mathlib.Core.Path.{refl}
use Rattle.lists.specs.Runs.{runs}
use Rattle.rules.specs.Storing.{turn, filled, acted, told_by, booting, delivering, raising, staying, refusing}
use Rattle.rules.proofs.Computing.{writing_parts, applying_parts}
use Rattle.promises.specs.Editions.{table_at}
use Rattle.promises.specs.Storing.{acts, comes}
use Rattle.promises.specs.StoringShown.{StoredPastShown}
use Rattle.promises.proofs.Past.{no_bytes_law, may_add, may_remove}
use Rattle.promises.proofs.Storing.{no_up}

-- what holds of each slot
each : (P : Bool → Type 0) → P false → P true → (h : Bool) → P h
each P first second false = first
each P first second true = second

pub stored_past_shown : StoredPastShown
unfolding comes acts turn filled acted told_by booting delivering raising staying refusing runs table_at applying_parts writing_parts
stored_past_shown = (
  (
    tt,
    (
      may_add,
      (
        ((refl, omega arith, omega arith), record { slots = each _ (λ z. refl) (λ z. absurd (no_up z)); last = each _ (λ z. refl) (λ z. absurd (no_up z)); marks = (inl refl, tt); none = refl; none_due = each _ refl refl }),
        (
          tt,
          (
            ((refl, omega arith, omega arith), record { slots = each _ (λ z. refl) (λ z. refl); last = each _ (λ z. refl) (λ z. refl); marks = (inr (inl refl), (inl refl, tt)); none = refl; none_due = each _ refl refl }),
            (
              tt,
              (
                ((refl, omega arith, omega arith), record { slots = each _ (λ z. refl) (λ z. refl); last = each _ (λ z. refl) (λ z. refl); marks = (inl refl, (inr (inl refl), tt)); none = refl; none_due = each _ refl refl }),
                (
                  (tt, record { slots = each _ (λ z. refl) (λ z. refl); last = each _ (λ z. refl) (λ z. refl); marks = (inr (inr (inl refl)), (inl refl, tt)); none = refl; none_due = each _ refl refl }),
                  (
                    tt,
                    (
                      (refl, λ x. no_bytes_law x.0 x.1.0),
                      (
                        ((refl, omega arith, omega arith), record { slots = each _ (λ z. refl) (λ z. refl); last = each _ (λ z. refl) (λ z. refl); marks = (inl refl, tt); none = refl; none_due = each _ refl refl }),
                        (
                          tt,
                          (
                            may_remove,
                            (
                              (refl, omega arith, omega arith),
                              (
                                ((refl, omega arith, omega arith), record { slots = each _ (λ z. refl) (λ z. refl); last = each _ (λ z. refl) (λ z. refl); marks = (inl refl, tt); none = refl; none_due = each _ refl refl }),
                                (tt, tt),
                              ),
                            ),
                          ),
                        ),
                      ),
                    ),
                  ),
                ),
              ),
            ),
          ),
        ),
      ),
    ),
  ),
  refl,
  refl,
)
