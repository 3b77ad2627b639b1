-- Terminals of a step rule in storage: an accepted plan moves a terminal one edition on and keeps its configuration, so
-- that the slot in which it was applied holds the next state.
use Prim.Native.Nat.{ℕ, suc, ◌+◌, ◌≤◌}
use native.Mathlib.Omega.{arith}
use mathlib.Core.List.{List}
use mathlib.Core.Path.{◌≡◌, ap, subst, ◌∙◌}
use Rattle.formats.specs.Formats.{All}
use Rattle.rules.specs.Applying.{moved, apply_by, plain_steps, apply, Kept}
use Rattle.rules.specs.Limits.{Limits, Sayable}
use Rattle.rules.specs.OwnedPlan.{owned_steps}
use Rattle.rules.specs.Steps.{StepRule}
use Rattle.rules.proofs.Applying.{moved_by}
use Rattle.promises.specs.Editions.{world, State}
use Rattle.promises.specs.Steps.{terminals_by, planner_by, terminal, state_of, Proper, HeldOf, FollowsBy}
use Rattle.promises.specs.StoringSteps.{slots_by, stored_made_by, stored_by, told_in_by, AnySlotsFollow, SlotsWork, StoredStepsFollow}
use Rattle.promises.specs.StoringSteps.{StoredTasks, ProperStepsAreStored, TerminalsAreStored, OwnedAreStored}
use Rattle.promises.proofs.Owned.{owned_is_proper}
use Rattle.promises.proofs.Steps.{steps_are_lawful, planned_at_by_law, steps_follow}
use Rattle.promises.proofs.Storing.{stored_follows}
use Rattle.promises.proofs.Terminals.{plain_is_proper}

module _ (m : StepRule) (ok : Proper m) where
  -- one edition on, under the same configuration
  pub raised : (s : Kept m) (b : List ℕ) → (apply_by m s b).outcome.number ≡ 0
      → state_of (apply_by m s b).state
      ≡ record { edition = suc s.edition; table = record { config = s.config; table = (apply_by m s b).state.table } }
  unfolding moved
  raised s b e =
      let (own, p, to) = moved_by m s b (ok.refuses b) e in
      let up : s.edition + 1 ≡ suc s.edition = omega arith in
      (λ i. record {
        edition = (ap (λ (t : Kept m). t.edition) to ∙ up) i;
        table = record {
          config = ap (λ (t : Kept m). t.config) to i;
          table = (apply_by m s b).state.table;
        };
      })

  slots_work : SlotsWork m (apply_by m)
  slots_work touched c = record { accepted = λ e t u b z. raised (record { config = c; table = t; edition = e }) b z }

  module _ (say : Sayable m.limits) where
    pub any_slots_follow : AnySlotsFollow m (apply_by m)
    any_slots_follow k works c good asked h =
        let (goes, in_step, never, starts, done, cuts, through) =
        stored_follows (terminals_by m (apply_by m)) k (planner_by m (apply_by m) c asked) (steps_are_lawful m ok say) works in
        let (g, made, st) = goes h in
        let (n, f) = steps_follow m ok say c good asked g in
        let to : FollowsBy m (apply_by m) c asked (stored_made_by m (apply_by m) k c asked h)
        (stored_by m (apply_by m) k c asked h) n =
        subst (λ (s : State (HeldOf m.Config)). FollowsBy m (apply_by m) c asked (stored_made_by m (apply_by m) k c asked h)
        (terminal s) n) st
        (subst (λ (i : ℕ). FollowsBy m (apply_by m) c asked i
        (terminal (world (terminals_by m (apply_by m)) (planner_by m (apply_by m) c asked) g).state) n) made f) in
        let at : (stored_by m (apply_by m) k c asked h).edition ≡ n =
        ap (λ (t : Kept m). t.edition) (to.same ∙ planned_at_by_law m c asked n) in
        (n, to, subst (λ (i : ℕ). All (λ (e : ℕ). e ≤ i) (told_in_by m (apply_by m) k c asked h)) at (never h))

    stored_steps : StoredStepsFollow m (apply_by m)
    stored_steps touched c good asked h =
        any_slots_follow (slots_by m (apply_by m) touched c) (slots_work touched c) c good asked h

    stored_tasks : StoredTasks m (apply_by m)
    stored_tasks touched c asked law works =
        stored_follows (terminals_by m (apply_by m)) (slots_by m (apply_by m) touched c) (planner_by m (apply_by m) c asked) law
        works

pub proper_steps_are_stored : (m : StepRule) → ProperStepsAreStored m
proper_steps_are_stored m ok say =
    (any_slots_follow m ok say, slots_work m ok, stored_steps m ok say, stored_tasks m ok say)

pub terminals_are_stored : (l : Limits) → TerminalsAreStored l
unfolding apply
terminals_are_stored l say = stored_steps (plain_steps l) (plain_is_proper l) say

pub owned_are_stored : (l : Limits) → OwnedAreStored l
owned_are_stored l say = stored_steps (owned_steps l) (owned_is_proper l) say
