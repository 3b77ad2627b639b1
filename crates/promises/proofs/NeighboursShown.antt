-- Two runs and two terminals with different neighbours, by computation on the definitions.
use native.Mathlib.Omega.{arith}
use mathlib.Core.Logic.{inl, inr}
use mathlib.Core.Path.{refl}
use Rattle.lists.specs.Orders.{keep}
use Rattle.lists.specs.Runs.{runs}
use Rattle.rules.specs.Applying.{apply_read_by, apply_by, plain_steps}
use Rattle.rules.specs.Desk.{desk_config}
use Rattle.rules.specs.Limits.{limits}
use Rattle.rules.specs.OwnedDesk.{bank}
use Rattle.rules.specs.OwnedPlan.{encode_owned, owned_steps}
use Rattle.rules.specs.Planner.{plan_for_by}
use Rattle.rules.specs.Translation.{translation}
use Rattle.rules.proofs.Computing.{request_parts, translation_parts, check_parts, applying_parts, writing_parts, owned_parts}
use Rattle.promises.specs.Neighbours.{accepted, requests_read, taken}
use Rattle.promises.specs.NeighboursShown.{NeighboursShown, OwnedNeighboursShown, NeighbourPlansShown}
use Rattle.promises.specs.NeighboursShown.{OwnedNeighbourPlansShown, NextPlansShown, quiet_end, crowded_end, holds, wants_b}

pub neighbours_shown : NeighboursShown
unfolding accepted keep runs request_parts check_parts translation_parts translation
neighbours_shown = (
  (refl, refl, refl, refl, refl, refl),
  (inr (refl, (refl, λ s. refl)), refl, refl),
  (inl (refl, refl), refl, refl),
)

pub owned_neighbours_shown : OwnedNeighboursShown
unfolding accepted keep runs owned_parts translation_parts translation
owned_neighbours_shown = (
  (refl, refl, refl, refl, refl, refl),
  (inr (refl, (refl, λ s. refl)), refl, refl),
  (inl (refl, refl), refl, refl),
)

pub neighbour_plans_shown : NeighbourPlansShown
unfolding taken requests_read keep runs applying_parts writing_parts apply_by apply_read_by
neighbour_plans_shown = ((refl, refl), (refl, refl), refl, refl, refl, refl)

pub owned_neighbour_plans_shown : OwnedNeighbourPlansShown
unfolding runs owned_parts writing_parts encode_owned
owned_neighbour_plans_shown = (refl, refl)

pub next_plans_shown : NextPlansShown
unfolding owned_parts writing_parts encode_owned
next_plans_shown = record {
  plain = record {
    config = refl;
    alike = record { records = refl; one = refl; other = refl; alike = inr (refl, (refl, λ s. refl)) };
    onward = ((λ e. omega arith), λ e. omega arith);
    one = plan_for_by (plain_steps limits) (holds (plain_steps limits) desk_config quiet_end) wants_b;
    other = plan_for_by (plain_steps limits) (holds (plain_steps limits) desk_config crowded_end) wants_b;
    plans = (
      (refl, record { config = record { regions = refl; gic = refl }; edition = refl; zones = refl }),
      (refl, record { config = record { regions = refl; gic = refl }; edition = refl; zones = refl }),
    );
    same = refl;
    own = refl;
  };
  owned = record {
    config = refl;
    alike = record { records = (refl, refl); one = refl; other = refl; alike = inr (refl, (refl, λ s. refl)) };
    onward = ((λ e. omega arith), λ e. omega arith);
    one = plan_for_by (owned_steps limits) (holds (owned_steps limits) bank quiet_end) wants_b;
    other = plan_for_by (owned_steps limits) (holds (owned_steps limits) bank crowded_end) wants_b;
    plans = (
      (
        refl,
        record {
          config = record { config = record { regions = refl; gic = refl }; owners = refl };
          edition = refl;
          zones = refl;
        },
      ),
      (
        refl,
        record {
          config = record { config = record { regions = refl; gic = refl }; owners = refl };
          edition = refl;
          zones = refl;
        },
      ),
    );
    same = refl;
    own = refl;
  };
}
