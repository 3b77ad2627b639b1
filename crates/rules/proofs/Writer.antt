-- The writer writes exactly where none of its numbers applies and the plan fits into the buffer.
use Prim.Native.Nat.{ℕ, ◌≤◌}
use native.Mathlib.Omega.{arith}
use mathlib.Core.Bool.{Bool, true, false, cond, not, true≢false}
use mathlib.Core.List.{List, ◌++◌}
use mathlib.Core.Path.{◌≡◌, refl, sym, ap, ◌∙◌}
use borrow.Author.Tests.{ltb-false, eqb-true, eqb-false, not-true, not-false, le-ltb, eq-eqb, ne_eqb}
use lib.Dec.{eqb}
use lib.ListN.{length, drop}
use Rattle.lists.proofs.Rules.{Quiet}
use Rattle.lists.proofs.Tests.{not_holds}
use Rattle.rules.specs.Applying.{last_edition, plain, Kept}
use Rattle.rules.specs.Filling.{fill_leaves, fill_answer}
use Rattle.rules.specs.Plan.{Asked}
use Rattle.rules.specs.Planner.{plan_bytes_by}
use Rattle.rules.specs.Run.{ended, Run}
use Rattle.rules.specs.Steps.{ran_by, StepRule}
use Rattle.rules.specs.Tables.{table_of}
use Rattle.rules.specs.Writer.{writer_rules_by, write_by}
use Rattle.rules.specs.declared.Outcome.{Outcome}
use Rattle.rules.proofs.Filling.{Refusing, zero_fits, fits_zero, leaves_filled}

-- a run that ended with a refusal answers 27
refused_run : (r : Run) → not (eqb r.inner 0) ≡ true → (ended r).number ≡ 0 → ⊥
unfolding ended
refused_run r t e = by (eqb r.inner 0) t e
  where
    by : (b : Bool) → not b ≡ true → ◌≡◌ {A = ℕ} (cond b 0 27) 0 → ⊥
    by true t e = true≢false (sym t)
    by false t e = omega arith

module _ (m : StepRule) (s : Kept m) (q : List Asked) where
  pub writer_refuses : Refusing (writer_rules_by m s q)
  unfolding writer_rules_by
  writer_refuses = (
    (λ t e. eqb-false _ _ (not-true _ t) e),
    (
      (λ t e. omega arith),
      ((λ t e. omega arith), ((λ t e. refused_run (ran_by m s.config (table_of s.table) q) t e), tt)),
    ),
  )

  -- none of the numbers applies, and the plan fits
  pub record Writable (room : ℕ) : Type 0 where
    pub stands : m.standing s.config s.table ≡ 0
    pub edition : s.edition ≡ last_edition → ⊥
    pub few : length q ≤ m.limits.requests
    pub accepted : (ran_by m s.config (table_of s.table) q).inner ≡ 0
    pub fits : length (plan_bytes_by m s q) ≤ room

  pub zero_writable : (w : List ℕ) → (write_by m s q w).outcome.number ≡ 0 → Writable (length w)
  unfolding write_by writer_rules_by
  zero_writable w e =
      let (h, f) = zero_fits (plan_bytes_by m s q) (length w) (writer_rules_by m s q) writer_refuses e in record {
        stands = eqb-true _ _ (not-false _ h.0);
        edition = eqb-false _ _ h.1.0;
        few = ltb-false _ _ h.1.1.0;
        accepted = eqb-true _ _ (not-false _ h.1.1.1.0);
        fits = f;
      }

  writable_quiet : (room : ℕ) → Writable room → Quiet (writer_rules_by m s q)
  unfolding writer_rules_by
  writable_quiet room h = (
    not_holds _ (eq-eqb _ 0 h.stands),
    (
      ne_eqb _ _ h.edition,
      (le-ltb _ _ h.few, (not_holds _ (eq-eqb _ 0 h.accepted), tt)),
    ),
  )

  pub writable_written : (w : List ℕ) → Writable (length w)
      → write_by m s q w
      ≡ record {
        outcome = plain 0 (length (plan_bytes_by m s q));
        buffer = plan_bytes_by m s q ++ drop (length (plan_bytes_by m s q)) w;
      }
  unfolding write_by
  writable_written w h =
      let b : List ℕ = plan_bytes_by m s q in
      let e : fill_answer (writer_rules_by m s q) b (length w) ≡ plain 0 (length b) =
      fits_zero b (length w) (writer_rules_by m s q) (writable_quiet (length w) h) h.fits in
      ap (λ (o : Outcome). record { outcome = o; buffer = fill_leaves o b w }) e
      ∙ ap (λ (v : List ℕ). record { outcome = plain 0 (length b); buffer = v })
      (leaves_filled (plain 0 (length b)) b w refl)
