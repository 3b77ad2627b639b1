-- Upstream's inductive steps: its first state has the invariants, and each
-- transition keeps them. Nothing is asked of the configuration.
use Prim.Native.Nat.{ℕ}
use mathlib.Core.Bool.{Bool, true, false, cond, not, true≢false}
use mathlib.Core.Logic.{◌⊎◌, inl, inr, ⊎_elim}
use mathlib.Core.Option.{none, some, some-injective, none-ne-some}
use mathlib.Core.Path.{◌≡◌, refl, sym, ap, subst, ◌∙◌}
use borrow.Author.Tests.{eqb-true, eqb-false}
use lib.Dec.{eqb}
use Rattle.lists.proofs.Tests.{both_true, one_true, or_left, or_right}
use Rattle.rules.specs.Closure.{RegionSet, empty_set, insert_region, remove_region_exact, not_overlaps_vmem}
use Rattle.rules.specs.Closure.{contains_region, spec_valid, set_wf, wf, State, map_insert, map_remove}
use Rattle.rules.specs.Closure.{all_regions, gic_region, initialize, GhostZone, Invariants, add_zone_law, remove_zone}
use Rattle.rules.specs.Closure.{cpu_insert_region, cpu_remove_region, iommu_insert_region, iommu_remove_region}
use Rattle.rules.specs.Configuration.{Configuration}
use Rattle.rules.specs.Limits.{Limits}
use Rattle.rules.specs.Regions.{region_eq, phys_overlap, guest_overlap}
use Rattle.rules.specs.declared.Region.{Region}
use Rattle.rules.specs.declared.Side.{Side}
use Rattle.rules.specs.declared.Side.TheVariants.{Cpu, Iommu}
use Rattle.rules.proofs.Addresses.{overlap_symmetric}
use Rattle.rules.proofs.Regions.{equal_same}

-- ---- what a changed map has at an id
abbrev pub Entry : State → ℕ → GhostZone → ℕ → GhostZone → Type 0
Entry zones zid new id zone = ((zid ≡ id) × (new ≡ zone)) ⊎ ((zid ≡ id → ⊥) × (zones id ≡ some zone))

pub entry_put : (zones : State) (zid : ℕ) (new : GhostZone) (id : ℕ) (zone : GhostZone)
    → map_insert zones zid new id ≡ some zone → Entry zones zid new id zone
entry_put zones zid new id zone e = by (eqb zid id) refl e
  where
    by : (b : Bool) → eqb zid id ≡ b → cond b (some new) (zones id) ≡ some zone → Entry zones zid new id zone
    by true q h = inl (eqb-true zid id q, some-injective _ _ h)
    by false q h = inr (eqb-false zid id q, h)

pub entry_left : (zones : State) (zid id : ℕ) (zone : GhostZone) → map_remove zones zid id ≡ some zone
    → zones id ≡ some zone
entry_left zones zid id zone e = by (eqb zid id) e
  where
    by : (b : Bool) → cond b none (zones id) ≡ some zone → zones id ≡ some zone
    by true h = absurd (none-ne-some zone h)
    by false h = h

-- ---- what a changed set contains
pub grown : (set : RegionSet) (region r : Region) → insert_region set region r ≡ true → (set r ≡ true) ⊎ (r ≡ region)
grown set region r e = by (one_true (set r) (region_eq r region) e)
  where
    by : (set r ≡ true) ⊎ (region_eq r region ≡ true) → (set r ≡ true) ⊎ (r ≡ region)
    by (inl h) = inl h
    by (inr h) = inr (equal_same r region h)

pub shrunk : (set : RegionSet) (region r : Region) → remove_region_exact set region r ≡ true → set r ≡ true
shrunk set region r e = (both_true (set r) (not (region_eq r region)) e).0

-- of a zone, on one side or the other
either : (zone : GhostZone) (r : Region) → contains_region zone r ≡ true
    → (zone.cpu_mem_set r ≡ true) ⊎ (zone.iommu_mem_set r ≡ true)
either zone r e = one_true (zone.cpu_mem_set r) (zone.iommu_mem_set r) e

-- nothing is in the empty set
pub nothing : (r : Region) → empty_set r ≡ true → ⊥
nothing r h = true≢false (sym h)

module _ (lim : Limits) where
  -- ---- the empty set and a changed one are well formed
  pub empty_wf : (s : Side) → set_wf lim s empty_set
  empty_wf s = ((λ r h. absurd (nothing r h)), (λ a b h. absurd (nothing a h)))

  pub grown_wf : (s : Side) (set : RegionSet) (region : Region) → set_wf lim s set → spec_valid lim s region
      → not_overlaps_vmem set region → set_wf lim s (insert_region set region)
  grown_wf s set region ok valid apart = (
    (λ r e. ⊎_elim (ok.0 r) (λ q. subst (spec_valid lim s) (sym q) valid) (grown set region r e)),
    (λ a b ea eb ne. two a b ne (grown set region a ea) (grown set region b eb)),
  )
    where
      two : (a b : Region) → (a ≡ b → ⊥) → (set a ≡ true) ⊎ (a ≡ region) → (set b ≡ true) ⊎ (b ≡ region)
          → guest_overlap a b ≡ false
      two a b ne (inl x) (inl y) = ok.1 a b x y ne
      two a b ne (inl x) (inr q) = ap (guest_overlap a) q ∙ overlap_symmetric _ _ _ _ ∙ apart a x
      two a b ne (inr p) (inl y) = ap (λ (g : Region). guest_overlap g b) p ∙ apart b y
      two a b ne (inr p) (inr q) = absurd (ne (p ∙ sym q))

  pub shrunk_wf : (s : Side) (set : RegionSet) (region : Region) → set_wf lim s set
      → set_wf lim s (remove_region_exact set region)
  shrunk_wf s set region ok = (
    (λ r e. ok.0 r (shrunk set region r e)),
    (λ a b ea eb ne. ok.1 a b (shrunk set region a ea) (shrunk set region b eb) ne),
  )

  module _ (c : Configuration) where
    pub initialize_meets : Invariants lim c initialize
    initialize_meets = record {
      inv_zones_wf = λ zid zone st. absurd (none-ne-some zone st);
      inv_regions_in_all_regions = λ zid zone r st. absurd (none-ne-some zone st);
      inv_cpu_disjoint_from_gic = λ zid zone r st. absurd (none-ne-some zone st);
      inv_cross_zone_non_gic_disjoint = λ zid1 zid2 zone1 zone2 r1 r2 st. absurd (none-ne-some zone1 st);
    }

    module _ (zid : ℕ) (pre post : State) (ok : Invariants lim c pre) where
      -- ---- a zone put at zid: each of its regions is configured, and neither it nor
      -- a region of another zone is the GIC, or the two do not overlap
      abbrev Clear : Region → Type 0
      Clear r =
          (all_regions c r ≡ true)
          × ((o : ℕ) (zone : GhostZone) (x : Region) → pre o ≡ some zone → (o ≡ zid → ⊥) → contains_region zone x ≡ true
          → (r ≡ gic_region c → ⊥) → (x ≡ gic_region c → ⊥) → phys_overlap r x ≡ false)

      module _ (new : GhostZone) (formed : wf lim new)
          (cpu_clear : (r : Region) → new.cpu_mem_set r ≡ true → Clear r)
          (iommu_clear : (r : Region) → new.iommu_mem_set r ≡ true → Clear r)
          (off : (r : Region) → new.cpu_mem_set r ≡ true → phys_overlap r (gic_region c) ≡ false) where
        clear : (r : Region) → contains_region new r ≡ true → Clear r
        clear r h = ⊎_elim (cpu_clear r) (iommu_clear r) (either new r h)

        put_keeps : Invariants lim c (map_insert pre zid new)
        put_keeps = record {
          inv_zones_wf =
              λ id zone st. ⊎_elim (λ (p, q). subst (wf lim) q formed) (λ (n, q). ok.inv_zones_wf id zone q)
              (entry_put pre zid new id zone st);
          inv_regions_in_all_regions = λ id zone r st h.
              ⊎_elim (λ (p, q). (clear r (ap (λ (y : GhostZone). contains_region y r) q ∙ h)).0)
              (λ (n, q). ok.inv_regions_in_all_regions id zone r q h) (entry_put pre zid new id zone st);
          inv_cpu_disjoint_from_gic = λ id zone r st h.
              ⊎_elim (λ (p, q). off r (ap (λ (y : GhostZone). y.cpu_mem_set r) q ∙ h))
              (λ (n, q). ok.inv_cpu_disjoint_from_gic id zone r q h) (entry_put pre zid new id zone st);
          inv_cross_zone_non_gic_disjoint = λ id1 id2 zone1 zone2 r1 r2 st1 st2 ne h1 h2 n1 n2.
              two id1 id2 zone1 zone2 r1 r2 ne h1 h2 n1 n2 (entry_put pre zid new id1 zone1 st1)
              (entry_put pre zid new id2 zone2 st2);
        }
          where
            two : (id1 id2 : ℕ) (zone1 zone2 : GhostZone) (r1 r2 : Region) → (id1 ≡ id2 → ⊥)
                → contains_region zone1 r1 ≡ true → contains_region zone2 r2 ≡ true → (r1 ≡ gic_region c → ⊥)
                → (r2 ≡ gic_region c → ⊥) → Entry pre zid new id1 zone1 → Entry pre zid new id2 zone2
                → phys_overlap r1 r2 ≡ false
            two id1 id2 zone1 zone2 r1 r2 ne h1 h2 n1 n2 (inl (p, q)) (inl (v, w)) = absurd (ne (sym p ∙ v))
            two id1 id2 zone1 zone2 r1 r2 ne h1 h2 n1 n2 (inl (p, q)) (inr (v, w)) =
                (clear r1 (ap (λ (y : GhostZone). contains_region y r1) q ∙ h1)).1 id2 zone2 r2 w
                (λ e. v (sym e)) h2 n1 n2
            two id1 id2 zone1 zone2 r1 r2 ne h1 h2 n1 n2 (inr (p, q)) (inl (v, w)) =
                overlap_symmetric _ _ _ _
                ∙ (clear r2 (ap (λ (y : GhostZone). contains_region y r2) w ∙ h2)).1 id1 zone1 r1 q
                (λ e. p (sym e)) h1 n2 n1
            two id1 id2 zone1 zone2 r1 r2 ne h1 h2 n1 n2 (inr (p, q)) (inr (v, w)) =
                ok.inv_cross_zone_non_gic_disjoint id1 id2 zone1 zone2 r1 r2 q w ne h1 h2 n1 n2

      -- what the zone at zid holds is clear
      module _ (zone : GhostZone) (there : pre zid ≡ some zone) where
        held_clear : (r : Region) → contains_region zone r ≡ true → Clear r
        held_clear r h = (
          ok.inv_regions_in_all_regions zid zone r there h,
          (λ o other x st ne hx n1 n2. ok.inv_cross_zone_non_gic_disjoint zid o zone other r x there st
              (λ e. ne (sym e)) h hx n1 n2),
        )

        cpu_held : (r : Region) → zone.cpu_mem_set r ≡ true → Clear r
        cpu_held r h = held_clear r (or_left (zone.cpu_mem_set r) (zone.iommu_mem_set r) h)

        iommu_held : (r : Region) → zone.iommu_mem_set r ≡ true → Clear r
        iommu_held r h = held_clear r (or_right (zone.cpu_mem_set r) (zone.iommu_mem_set r) h)

        held_off : (r : Region) → zone.cpu_mem_set r ≡ true → phys_overlap r (gic_region c) ≡ false
        held_off r h = ok.inv_cpu_disjoint_from_gic zid zone r there h

      -- ---- the transitions
      reached : (u : State) → post ≡ u → Invariants lim c u → Invariants lim c post
      reached u e k = subst (Invariants lim c) (sym e) k

      pub add_zone_inductive : add_zone_law zid pre post → Invariants lim c post
      add_zone_inductive x =
          reached _ x.update
          (put_keeps _ (empty_wf Cpu, empty_wf Iommu) (λ r h. absurd (nothing r h)) (λ r h. absurd (nothing r h))
          (λ r h. absurd (nothing r h)))

      pub remove_zone_inductive : remove_zone zid pre post → Invariants lim c post
      remove_zone_inductive x = reached (map_remove pre zid) x.update (record {
        inv_zones_wf = λ id zone st. ok.inv_zones_wf id zone (entry_left pre zid id zone st);
        inv_regions_in_all_regions =
            λ id zone r st. ok.inv_regions_in_all_regions id zone r (entry_left pre zid id zone st);
        inv_cpu_disjoint_from_gic =
            λ id zone r st. ok.inv_cpu_disjoint_from_gic id zone r (entry_left pre zid id zone st);
        inv_cross_zone_non_gic_disjoint =
            λ id1 id2 zone1 zone2 r1 r2 st1 st2. ok.inv_cross_zone_non_gic_disjoint id1 id2 zone1 zone2 r1 r2
            (entry_left pre zid id1 zone1 st1) (entry_left pre zid id2 zone2 st2);
      })

      module _ (region : Region) where
        pub cpu_insert_region_inductive : cpu_insert_region lim c zid region pre post → Invariants lim c post
        cpu_insert_region_inductive x =
            let zone : GhostZone = x.zone in
            let old : wf lim zone = ok.inv_zones_wf zid zone x.there in
            let fresh : Clear region = (
              x.allowed.0,
              λ o other r st ne h n1 n2. x.allowed.2 o other r st (⊎_elim inl (λ i. inr (ne, i)) (either other r h)),
            ) in
            reached _ x.update
            (put_keeps _ (grown_wf Cpu zone.cpu_mem_set region old.0 x.valid x.apart, old.1)
            (λ r h. ⊎_elim (cpu_held zone x.there r) (λ q. subst Clear (sym q) fresh)
            (grown zone.cpu_mem_set region r h)) (iommu_held zone x.there)
            (λ r h. ⊎_elim (held_off zone x.there r)
            (λ q. ap (λ (g : Region). phys_overlap g (gic_region c)) q ∙ x.allowed.1)
            (grown zone.cpu_mem_set region r h)))

        pub iommu_insert_region_inductive : iommu_insert_region lim c zid region pre post → Invariants lim c post
        iommu_insert_region_inductive x =
            let zone : GhostZone = x.zone in
            let old : wf lim zone = ok.inv_zones_wf zid zone x.there in
            let fresh : Clear region = (
              x.allowed.0,
              λ o other r st ne h n1 n2. ⊎_elim (λ e. absurd (n1 e)) (⊎_elim (λ e. absurd (n2 e)) (λ e. e))
                  (x.allowed.1 o other r st ne (either other r h)),
            ) in
            reached _ x.update
            (put_keeps _ (old.0, grown_wf Iommu zone.iommu_mem_set region old.1 x.valid x.apart)
            (cpu_held zone x.there)
            (λ r h. ⊎_elim (iommu_held zone x.there r) (λ q. subst Clear (sym q) fresh)
            (grown zone.iommu_mem_set region r h)) (held_off zone x.there))

        pub cpu_remove_region_inductive : cpu_remove_region zid region pre post → Invariants lim c post
        cpu_remove_region_inductive x =
            let zone : GhostZone = x.zone in
            let old : wf lim zone = ok.inv_zones_wf zid zone x.there in
            reached _ x.update
            (put_keeps _ (shrunk_wf Cpu zone.cpu_mem_set region old.0, old.1)
            (λ r h. cpu_held zone x.there r (shrunk zone.cpu_mem_set region r h))
            (iommu_held zone x.there) (λ r h. held_off zone x.there r (shrunk zone.cpu_mem_set region r h)))

        pub iommu_remove_region_inductive : iommu_remove_region zid region pre post → Invariants lim c post
        iommu_remove_region_inductive x =
            let zone : GhostZone = x.zone in
            let old : wf lim zone = ok.inv_zones_wf zid zone x.there in
            reached _ x.update
            (put_keeps _ (old.0, shrunk_wf Iommu zone.iommu_mem_set region old.1) (cpu_held zone x.there)
            (λ r h. iommu_held zone x.there r (shrunk zone.iommu_mem_set region r h)) (held_off zone x.there))
