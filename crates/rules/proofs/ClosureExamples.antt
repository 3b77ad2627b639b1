-- Upstream's two machines by example: each clause is false of the state that it shuts out, by computation.
use Prim.Native.Nat.{ℕ}
use native.Mathlib.Omega.{arith}
use mathlib.Core.Bool.{true≢false}
use mathlib.Core.List.{[], ◌∷◌}
use mathlib.Core.Logic.{⊎_elim}
use mathlib.Core.Path.{◌≡◌, refl, sym, ap}
use Rattle.rules.specs.Budget.{zone_regions}
use Rattle.rules.specs.Closure.{ghost_of, state_of}
use Rattle.rules.specs.ClosureExamples.{Far, ClosureShown, BudgetShown, ClashShown}
use Rattle.rules.specs.Desk.{A, C, G}
use Rattle.rules.specs.Tables.{Zone}
use Rattle.rules.specs.WantedExamples.{holder}
use Rattle.rules.specs.declared.Region.{Region}
use Rattle.rules.proofs.Computing.{owned_parts, translation_parts}

-- they begin at different places
other : (a b : Region) → (a.p.0 ≡ b.p.0 → ⊥) → a ≡ b → ⊥
other a b ne e = ne (ap (λ (r : Region). r.p.0) e)

pub closure_shown : ClosureShown
unfolding owned_parts translation_parts state_of
closure_shown = record {
  overlap =
      λ i. true≢false ((i.inv_zones_wf 5 (ghost_of (holder 5 (A ∷ C ∷ []) [])) refl).0.1 A C refl refl
      (other A C (λ e. omega arith)));
  devices_overlap =
      λ i. true≢false ((i.inv_zones_wf 5 (ghost_of (holder 5 [] (A ∷ C ∷ []))) refl).1.1 A C refl refl
      (other A C (λ e. omega arith)));
  far = λ i. true≢false (sym ((i.inv_zones_wf 5 (ghost_of (holder 5 (Far ∷ []) [])) refl).0.0 Far refl).1);
  strange =
      λ i. true≢false (sym (i.inv_regions_in_all_regions 5 (ghost_of (holder 5 [] (Far ∷ []))) Far refl refl));
  on_gic_law = λ i. true≢false (i.inv_cpu_disjoint_from_gic 5 (ghost_of (holder 5 (G ∷ []) [])) G refl refl);
  shared =
      λ i. true≢false (i.inv_cross_zone_non_gic_disjoint 5 6 (ghost_of (holder 5 (A ∷ []) []))
      (ghost_of (holder 6 [] (A ∷ []))) A A refl refl (λ e. omega arith) refl refl (other A G (λ e. omega arith))
      (other A G (λ e. omega arith)));
  devices_share =
      λ i. true≢false (i.inv_cross_zone_non_gic_disjoint 5 6 (ghost_of (holder 5 [] (A ∷ [])))
      (ghost_of (holder 6 [] (A ∷ []))) A A refl refl (λ e. omega arith) refl refl (other A G (λ e. omega arith))
      (other A G (λ e. omega arith)));
  removes = record { zone = ghost_of (holder 5 (A ∷ []) []); there = refl; update = refl };
  inside = (A, refl, refl);
}

pub budget_shown : BudgetShown
unfolding owned_parts state_of zone_regions
budget_shown = record {
  overlap =
      λ i. true≢false ((i.inv_zones_wf 5 (ghost_of (holder 5 (A ∷ C ∷ []) [])) refl).0.1 A C refl refl
      (other A C (λ e. omega arith)));
  on_gic_law = λ i. true≢false (sym (i.inv_cpu_in_zone_regions 5 (ghost_of (holder 5 (G ∷ []) [])) G refl refl));
  strange =
      λ i. ⊎_elim (λ e. true≢false (sym e)) (other A G (λ e. omega arith))
      (i.inv_iommu_in_zone_regions 6 (ghost_of (holder 6 [] (A ∷ []))) A refl refl);
}

pub clash_shown : ClashShown
unfolding owned_parts
clash_shown = record { size = refl; guest = refl; phys = refl; first = refl; second = refl; apart = refl }
