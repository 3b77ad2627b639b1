-- Number 14, told by who holds the region: in a sound table an overlap between configured regions is an equality.
use Prim.Native.Nat.{ℕ, ◌<◌}
use mathlib.Core.Bool.{Bool, true, false, not, ◌&&◌, ◌||◌, true≢false}
use mathlib.Core.List.{List}
use mathlib.Core.Path.{◌≡◌, sym, ap, ap₂, ◌∙◌}
use lib.ListN.{length, get_or}
use Rattle.lists.specs.First.{any, all}
use Rattle.lists.proofs.Every.{all_at, all_make, all_append, all_left, all_right, all_removed, any_append, any_or}
use Rattle.lists.proofs.Every.{any_and, any_under, any_split}
use Rattle.lists.proofs.Tests.{both_true, true_both, not_fails, false_of, same_test, parts}
use Rattle.rules.specs.Limits.{limits}
use Rattle.rules.specs.Changes.{region_set}
use Rattle.rules.specs.Configuration.{gic_of, Configuration}
use Rattle.rules.specs.Regions.{region_eq, phys_overlap}
use Rattle.rules.specs.Requests.{others, held_in, on_gic, forbidden}
use Rattle.rules.specs.Tables.{no_zone, side_of, regions_of, configured, clash, sound_set, sound_zone, sound, Zone}
use Rattle.rules.specs.declared.Region.{Region}
use Rattle.rules.specs.declared.Side.{Side}
use Rattle.rules.specs.declared.Side.TheVariants.{Cpu, Iommu}
use Rattle.rules.proofs.Configuration.{SoundConfiguration}
use Rattle.rules.proofs.Regions.{equal_same, equal_refl}
use Rattle.rules.proofs.Tables.{overlaps_itself, overlap_same}
use Rattle.zones.specs.Decide.{shared_elsewhere}
use Rattle.zones.specs.Holding.{holds}

module _ (c : Configuration) (ok : SoundConfiguration limits c) (r : Region) (there : configured c r ≡ true) where
  overlap_equal : (b : Region) → configured c b ≡ true → phys_overlap r b ≡ region_eq r b
  overlap_equal b e =
      same_test (phys_overlap r b) (region_eq r b)
      (λ o. ap (region_eq r) (sym (overlap_same limits c ok r b there e o)) ∙ equal_refl r)
      (λ q. ap (phys_overlap r) (sym (equal_same r b q)) ∙ overlaps_itself limits c ok r there)

  clash_equal : (b : Region) → configured c b ≡ true → clash c r b ≡ (not (region_eq r (gic_of c)) && region_eq r b)
  unfolding clash
  clash_equal b e =
      same_test (not (region_eq r (gic_of c)) && (not (region_eq b (gic_of c)) && phys_overlap r b))
      (not (region_eq r (gic_of c)) && region_eq r b)
      (λ o. let p = both_true (not (region_eq r (gic_of c))) _ o in
      true_both _ _ p.0 (sym (overlap_equal b e) ∙ (both_true (not (region_eq b (gic_of c))) _ p.1).1))
      (λ o.
      let p = both_true (not (region_eq r (gic_of c))) _ o in
      let same : r ≡ b = equal_same r b p.1 in
      true_both _ _ p.0 (true_both _ _ (ap (λ (x : Region). not (region_eq x (gic_of c))) (sym same) ∙ p.0)
      (overlap_equal b e ∙ p.1)))

  module _ (t : List Zone) (k : ℕ) (h : k < length t)
      (fine : all (λ (z : Zone). all (configured c) (regions_of z)) t ≡ true) where
    rest_fine : all (λ (z : Zone). all (configured c) (regions_of z)) (others k t) ≡ true
    rest_fine = all_removed (λ (z : Zone). all (configured c) (regions_of z)) t k fine

    iommu_shared : any (λ (z : Zone). any (clash c r) (regions_of z)) (others k t) ≡ shared_elsewhere c k r t
    unfolding shared_elsewhere holds
    iommu_shared =
        any_under (λ (z : Zone). all (configured c) (regions_of z)) (λ (z : Zone). any (clash c r) (regions_of z))
        (λ (z : Zone). not (region_eq r (gic_of c)) && any (region_eq r) (regions_of z))
        (λ z e. any_under (configured c) (clash c r)
        (λ (b : Region). not (region_eq r (gic_of c)) && region_eq r b) clash_equal (regions_of z) e
        ∙ any_and (not (region_eq r (gic_of c))) (region_eq r) (regions_of z))
        (others k t) rest_fine
        ∙ any_and (not (region_eq r (gic_of c))) (λ (z : Zone). any (region_eq r) (regions_of z)) (others k t)

    cpu_shared : phys_overlap r (gic_of c) ≡ false → any (region_eq r) (get_or t k no_zone).cpu ≡ false
        → (any (λ (z : Zone). any (phys_overlap r) z.cpu) t
        || any (λ (z : Zone). any (phys_overlap r) z.iommu) (others k t))
        ≡ shared_elsewhere c k r t
    unfolding shared_elsewhere holds gic_of
    cpu_shared off own =
        ap₂ (λ (x y : Bool). x || y) in_cpu in_iommu
        ∙ any_or (λ (z : Zone). any (region_eq r) z.cpu) (λ (z : Zone). any (region_eq r) z.iommu) (others k t)
        ∙ any_under (λ (z : Zone). all (configured c) (regions_of z)) _ (λ (z : Zone). any (region_eq r) (regions_of z))
        (λ z e. sym (any_append (region_eq r) z.cpu z.iommu)) (others k t) rest_fine
        ∙ ap (λ (b : Bool). b && any (λ (z : Zone). any (region_eq r) (regions_of z)) (others k t))
        (sym (not_fails _ private))
      where
        private : region_eq r (gic_of c) ≡ false
        private =
            false_of _ (λ q. true≢false (sym (overlaps_itself limits c ok r there)
            ∙ ap (phys_overlap r) (equal_same r (gic_of c) q)
            ∙ off))

        left_well : (z : Zone) → all (configured c) (regions_of z) ≡ true
            → any (phys_overlap r) z.cpu ≡ any (region_eq r) z.cpu
        left_well z e =
            any_under (configured c) (phys_overlap r) (region_eq r) overlap_equal z.cpu
            (all_left (configured c) z.cpu z.iommu e)

        right_well : (z : Zone) → all (configured c) (regions_of z) ≡ true
            → any (phys_overlap r) z.iommu ≡ any (region_eq r) z.iommu
        right_well z e =
            any_under (configured c) (phys_overlap r) (region_eq r) overlap_equal z.iommu
            (all_right (configured c) z.cpu z.iommu e)

        in_cpu : any (λ (z : Zone). any (phys_overlap r) z.cpu) t
            ≡ any (λ (z : Zone). any (region_eq r) z.cpu) (others k t)
        in_cpu =
            any_under (λ (z : Zone). all (configured c) (regions_of z)) _
            (λ (z : Zone). any (region_eq r) z.cpu) left_well t fine
            ∙ any_split (λ (z : Zone). any (region_eq r) z.cpu) t k no_zone h
            ∙ ap (λ (b : Bool). b || any (λ (z : Zone). any (region_eq r) z.cpu) (others k t)) own

        in_iommu : any (λ (z : Zone). any (phys_overlap r) z.iommu) (others k t)
            ≡ any (λ (z : Zone). any (region_eq r) z.iommu) (others k t)
        in_iommu =
            any_under (λ (z : Zone). all (configured c) (regions_of z)) _
            (λ (z : Zone). any (region_eq r) z.iommu) right_well (others k t) rest_fine

-- every region of a sound table is configured
zones_configured : (c : Configuration) (t : List Zone) → sound limits c t ≡ true
    → all (λ (z : Zone). all (configured c) (regions_of z)) t ≡ true
unfolding sound sound_zone sound_set
zones_configured c t e =
    all_make (λ (z : Zone). all (configured c) (regions_of z)) t no_zone
    (λ i h.
    let p = parts _ (all_at (sound_zone limits c) t no_zone (parts _ e).1.0 i h) in
    all_append (configured c) (get_or t i no_zone).cpu (get_or t i no_zone).iommu (parts _ p.1.0).1.0
    (parts _ p.1.1.0).1.0)

pub forbidden_shared : (c : Configuration) (t : List Zone) (k : ℕ) (s : Side) (r : Region) → SoundConfiguration limits c
    → sound limits c t ≡ true → k < length t → configured c r ≡ true → on_gic c s r ≡ false
    → held_in r (region_set t k s) ≡ false → forbidden c k s r t ≡ shared_elsewhere c k r t
unfolding forbidden on_gic region_set side_of
forbidden_shared c t k Cpu r ok e h there off own = cpu_shared c ok r there t k h (zones_configured c t e) off own
forbidden_shared c t k Iommu r ok e h there off own = iommu_shared c ok r there t k h (zones_configured c t e)
