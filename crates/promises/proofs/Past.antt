-- A past that there is, with every kind of event in it, by computation on the definitions.
use Prim.Native.Nat.{ℕ}
use native.Mathlib.Omega.{arith}
use mathlib.Core.List.{[]}
use mathlib.Core.Path.{◌≡◌, refl, ap}
use Rattle.lists.specs.Runs.{runs}
use Rattle.formats.specs.Formats.{got, bad, Out, write_with, ListFits}
use Rattle.rules.specs.Limits.{most_requests, limits}
use Rattle.rules.specs.OwnedDesk.{bank_terminal}
use Rattle.rules.specs.OwnedPlan.{read_owned, encode_owned, owned_steps, OwnedPlan}
use Rattle.rules.specs.Plan.{read_plan, AskedFits, Plan}
use Rattle.rules.specs.Planner.{MayAskBy, MayAsk}
use Rattle.rules.specs.Story.{without, with5, adds, removes}
use Rattle.rules.proofs.Computing.{reading_parts, writing_parts, applying_parts, owned_parts}
use Rattle.rules.proofs.Plan.{none_fits}
use Rattle.promises.specs.Editions.{table_at, happens}
use Rattle.promises.specs.Past.{numbers, PastShown, bank_with5, OwnedPastShown}

-- the empty file is no plan
number_read : Out Plan → ℕ
number_read (got p t) = 0
number_read (bad k t) = k

pub no_bytes_law : (p : Plan) → read_plan limits [] ≡ got p [] → ⊥
unfolding number_read reading_parts
no_bytes_law p e = let z : ◌≡◌ {A = ℕ} 20 0 = ap number_read e in omega arith

adds_fit : ListFits 4 0 most_requests AskedFits adds
adds_fit = record {
  said = omega arith;
  least = omega arith;
  most = omega arith;
  fits = (refl, ((omega arith, (omega arith, none_fits)), tt));
}

removes_fit : ListFits 4 0 most_requests AskedFits removes
removes_fit = record {
  said = omega arith;
  least = omega arith;
  most = omega arith;
  fits = (refl, ((omega arith, (omega arith, none_fits)), tt));
}

pub may_add : MayAsk limits (without 0) adds
unfolding applying_parts
may_add = record { edition = omega arith; fits = adds_fit; accepted = refl }

pub may_remove : MayAsk limits (with5 1) removes
unfolding applying_parts
may_remove = record { edition = omega arith; fits = removes_fit; accepted = refl }

pub past_shown : PastShown
unfolding numbers happens runs table_at applying_parts writing_parts
past_shown = (
  (
    may_add,
    (
      (omega arith, omega arith),
      (
        (omega arith, omega arith),
        (
          may_remove,
          (
            (λ x. no_bytes_law x.0 x.1.0),
            ((omega arith, omega arith), ((omega arith, omega arith), (omega arith, tt))),
          ),
        ),
      ),
    ),
  ),
  refl,
  refl,
)

-- ---- with owners
owned_read : Out OwnedPlan → ℕ
owned_read (got p t) = 0
owned_read (bad k t) = k

no_owned : (p : OwnedPlan) → read_owned limits [] ≡ got p [] → ⊥
unfolding owned_read owned_parts
no_owned p e = let z : ◌≡◌ {A = ℕ} 20 0 = ap owned_read e in omega arith

owned_may_add : MayAskBy (owned_steps limits) bank_terminal adds
unfolding owned_parts
owned_may_add = record { edition = omega arith; fits = adds_fit; accepted = refl }

owned_may_remove : MayAskBy (owned_steps limits) bank_with5 removes
unfolding owned_parts
owned_may_remove = record { edition = omega arith; fits = removes_fit; accepted = refl }

pub owned_past_shown : OwnedPastShown
unfolding numbers happens runs table_at owned_parts writing_parts encode_owned write_with
owned_past_shown = (
  (
    owned_may_add,
    (
      (omega arith, omega arith),
      (
        (omega arith, omega arith),
        (
          owned_may_remove,
          (
            (λ x. no_owned x.0 x.1.0),
            ((omega arith, omega arith), ((omega arith, omega arith), (omega arith, tt))),
          ),
        ),
      ),
    ),
  ),
  refl,
  refl,
)
