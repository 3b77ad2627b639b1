-- BudgetSpec's inductive steps: its first state has the invariants, and each transition keeps them; an insert needs that
-- the region is valid.
use Prim.Native.Nat.{ℕ}
use mathlib.Core.Bool.{true}
use mathlib.Core.Logic.{◌⊎◌, ⊎_elim}
use mathlib.Core.Option.{some, none-ne-some}
use mathlib.Core.Path.{◌≡◌, sym, ap, subst, ◌∙◌}
use Rattle.rules.specs.Budget.{zone_regions, Invariants, cpu_insert_region, iommu_insert_region}
use Rattle.rules.specs.Closure.{spec_valid, wf, State, map_insert, map_remove, gic_region}
use Rattle.rules.specs.Closure.{initialize, GhostZone, add_zone_law, remove_zone, cpu_remove_region}
use Rattle.rules.specs.Closure.{iommu_remove_region}
use Rattle.rules.specs.Limits.{Limits}
use Rattle.rules.specs.Owners.{Owned}
use Rattle.rules.specs.declared.Region.{Region}
use Rattle.rules.specs.declared.Side.TheVariants.{Cpu, Iommu}
use Rattle.rules.proofs.Inductive.{entry_put, entry_left, grown, shrunk, grown_wf, shrunk_wf, empty_wf, nothing}

module _ (lim : Limits) (o : Owned) where
  pub budget_initialize : Invariants lim o initialize
  budget_initialize = record {
    inv_zones_wf = λ zid zone st. absurd (none-ne-some zone st);
    inv_cpu_in_zone_regions = λ zid zone r st. absurd (none-ne-some zone st);
    inv_iommu_in_zone_regions = λ zid zone r st. absurd (none-ne-some zone st);
  }

  module _ (zid : ℕ) (pre post : State) (ok : Invariants lim o pre) where
    -- a zone put at zid that is well formed and holds its own
    abbrev Own : Region → Type 0
    Own r = zone_regions o zid r ≡ true

    abbrev OwnOrGic : Region → Type 0
    OwnOrGic r = Own r ⊎ (r ≡ gic_region o.config)

    module _ (new : GhostZone) (formed : wf lim new) (cpu : (r : Region) → new.cpu_mem_set r ≡ true → Own r)
        (iommu : (r : Region) → new.iommu_mem_set r ≡ true → OwnOrGic r) where
      put_keeps : Invariants lim o (map_insert pre zid new)
      put_keeps = record {
        inv_zones_wf =
            λ id zone st. ⊎_elim (λ (p, q). subst (wf lim) q formed) (λ (n, q). ok.inv_zones_wf id zone q)
            (entry_put pre zid new id zone st);
        inv_cpu_in_zone_regions = λ id zone r st h.
            ⊎_elim (λ (p, q). ap (λ (n : ℕ). zone_regions o n r) (sym p)
            ∙ cpu r (ap (λ (y : GhostZone). y.cpu_mem_set r) q ∙ h))
            (λ (n, q). ok.inv_cpu_in_zone_regions id zone r q h) (entry_put pre zid new id zone st);
        inv_iommu_in_zone_regions = λ id zone r st h.
            ⊎_elim (λ (p, q). subst (λ (n : ℕ). (zone_regions o n r ≡ true) ⊎ (r ≡ gic_region o.config)) p
            (iommu r (ap (λ (y : GhostZone). y.iommu_mem_set r) q ∙ h)))
            (λ (n, q). ok.inv_iommu_in_zone_regions id zone r q h) (entry_put pre zid new id zone st);
      }

    reached : (u : State) → post ≡ u → Invariants lim o u → Invariants lim o post
    reached u e k = subst (Invariants lim o) (sym e) k

    pub budget_add_zone : add_zone_law zid pre post → Invariants lim o post
    budget_add_zone x =
        reached _ x.update
        (put_keeps _ (empty_wf lim Cpu, empty_wf lim Iommu) (λ r h. absurd (nothing r h)) (λ r h. absurd (nothing r h)))

    pub budget_remove_zone : remove_zone zid pre post → Invariants lim o post
    budget_remove_zone x = reached (map_remove pre zid) x.update (record {
      inv_zones_wf = λ id zone st. ok.inv_zones_wf id zone (entry_left pre zid id zone st);
      inv_cpu_in_zone_regions = λ id zone r st. ok.inv_cpu_in_zone_regions id zone r (entry_left pre zid id zone st);
      inv_iommu_in_zone_regions = λ id zone r st. ok.inv_iommu_in_zone_regions id zone r (entry_left pre zid id zone st);
    })

    -- what the zone at zid holds
    module _ (zone : GhostZone) (there : pre zid ≡ some zone) where
      cpu_held : (r : Region) → zone.cpu_mem_set r ≡ true → Own r
      cpu_held r h = ok.inv_cpu_in_zone_regions zid zone r there h

      iommu_held : (r : Region) → zone.iommu_mem_set r ≡ true → OwnOrGic r
      iommu_held r h = ok.inv_iommu_in_zone_regions zid zone r there h

    module _ (region : Region) where
      pub budget_cpu_insert : spec_valid lim Cpu region → cpu_insert_region o zid region pre post → Invariants lim o post
      budget_cpu_insert valid x =
          let zone : GhostZone = x.zone in
          let old : wf lim zone = ok.inv_zones_wf zid zone x.there in
          reached _ x.update
          (put_keeps _ (grown_wf lim Cpu zone.cpu_mem_set region old.0 valid x.apart, old.1)
          (λ r h. ⊎_elim (cpu_held zone x.there r) (λ q. subst Own (sym q) x.allowed)
          (grown zone.cpu_mem_set region r h)) (iommu_held zone x.there))

      pub budget_iommu_insert : spec_valid lim Iommu region → iommu_insert_region o zid region pre post
          → Invariants lim o post
      budget_iommu_insert valid x =
          let zone : GhostZone = x.zone in
          let old : wf lim zone = ok.inv_zones_wf zid zone x.there in
          reached _ x.update
          (put_keeps _ (old.0, grown_wf lim Iommu zone.iommu_mem_set region old.1 valid x.apart)
          (cpu_held zone x.there)
          (λ r h. ⊎_elim (iommu_held zone x.there r) (λ q. subst OwnOrGic (sym q) x.allowed)
          (grown zone.iommu_mem_set region r h)))

      pub budget_cpu_remove : cpu_remove_region zid region pre post → Invariants lim o post
      budget_cpu_remove x =
          let zone : GhostZone = x.zone in
          let old : wf lim zone = ok.inv_zones_wf zid zone x.there in
          reached _ x.update
          (put_keeps _ (shrunk_wf lim Cpu zone.cpu_mem_set region old.0, old.1)
          (λ r h. cpu_held zone x.there r (shrunk zone.cpu_mem_set region r h)) (iommu_held zone x.there))

      pub budget_iommu_remove : iommu_remove_region zid region pre post → Invariants lim o post
      budget_iommu_remove x =
          let zone : GhostZone = x.zone in
          let old : wf lim zone = ok.inv_zones_wf zid zone x.there in
          reached _ x.update
          (put_keeps _ (old.0, shrunk_wf lim Iommu zone.iommu_mem_set region old.1) (cpu_held zone x.there)
          (λ r h. iommu_held zone x.there r (shrunk zone.iommu_mem_set region r h)))
