-- The list in numbers, stretch by stretch and set by set: what the rules keep of all that a table holds is what each
-- set gives in turn.
use Prim.Native.Nat.{ℕ}
use mathlib.Core.List.{List, [], ◌∷◌, ◌++◌, map, flat_map, map-append, map-map}
use mathlib.Core.Path.{◌≡◌, refl, ap, ap₂, ◌∙◌}
use Rattle.lists.specs.Orders.{keep}
use Rattle.lists.proofs.Kept.{keep_append, keep_flat}
use Rattle.formats.specs.Formats.{write_many}
use Rattle.formats.proofs.Formats.{many_append}
use Rattle.rules.specs.Changes.{region_set}
use Rattle.rules.specs.Plan.{asked_field, Asked}
use Rattle.rules.specs.Regions.{no_region}
use Rattle.rules.specs.Requests.{add_zone, drop_zone, find}
use Rattle.rules.specs.Tables.{side_of, Zone}
use Rattle.rules.specs.Wanted.{holding, held_on, holdings, ids_of, holds, lacks, absent, take_out, put_in, requests_for}
use Rattle.rules.specs.Wanted.{kind_number, kind_region, asked_as, records_of, Holding}
use Rattle.rules.specs.declared.Region.{Region}
use Rattle.rules.specs.declared.Side.{Side}
use Rattle.rules.specs.declared.Side.TheVariants.{Cpu, Iommu}
use Rattle.wanted.specs.declared.list.Change.{Change}
use Rattle.wanted.specs.declared.list.Change.TheVariants.{Comes, Goes}
use Rattle.wanted.specs.Wanted.{zone_kind, region_kind, numbers, lacked, set_asked, zone_asked, regions_asked, missed, missed_zone, zones_asked}

-- ---- regions: f asks for a holding by its side's kind
module _ (w : List Zone) (f : Holding → Asked) (x : Change)
    (cpu : (id : ℕ) (r : Region) → f (holding id Cpu r) ≡ numbers (region_kind x Cpu) id r)
    (iommu : (id : ℕ) (r : Region) → f (holding id Iommu r) ≡ numbers (region_kind x Iommu) id r) where
  side_asked_law : (k id : ℕ) (s : Side) → ((r : Region) → f (holding id s r) ≡ numbers k id r) → (xs : List Region)
      → map f (keep (lacks w) (map (holding id s) xs)) ≡ set_asked k id xs (region_set w (find id w) s)
  unfolding holds lacked set_asked
  side_asked_law k id s e xs =
      keep_flat (holding id s) (lacks w) f (lacked k id (region_set w (find id w) s)) (λ r. rw (e r)) xs

  zone_asked_law : (z : Zone) → map f (keep (lacks w) (held_on Cpu z ++ held_on Iommu z)) ≡ zone_asked x w z
  unfolding zone_asked
  zone_asked_law z =
      ap (map f) (keep_append (lacks w) (held_on Cpu z) (held_on Iommu z))
      ∙ map-append f (keep (lacks w) (held_on Cpu z)) (keep (lacks w) (held_on Iommu z))
      ∙ ap₂ (λ (a b : List Asked). a ++ b) (side_asked_law (region_kind x Cpu) z.id Cpu (cpu z.id) (side_of Cpu z))
      (side_asked_law (region_kind x Iommu) z.id Iommu (iommu z.id) (side_of Iommu z))

  regions_asked_law : (t : List Zone) → map f (keep (lacks w) (holdings t)) ≡ regions_asked x t w
  unfolding holdings flat_map regions_asked keep
  regions_asked_law [] = refl
  regions_asked_law (z ∷ t) =
      ap (map f) (keep_append (lacks w) (held_on Cpu z ++ held_on Iommu z) (holdings t))
      ∙ map-append f (keep (lacks w) (held_on Cpu z ++ held_on Iommu z)) (keep (lacks w) (holdings t))
      ∙ ap₂ (λ (a b : List Asked). a ++ b) (zone_asked_law z) (regions_asked_law t)

-- ---- zones
zones_asked_law : (x : Change) (t w : List Zone)
    → map (λ id. numbers (zone_kind x) id no_region) (keep (absent w) (ids_of t)) ≡ zones_asked x t w
unfolding missed missed_zone zones_asked
zones_asked_law x t w =
    keep_flat (λ (z : Zone). z.id) (absent w) (λ id. numbers (zone_kind x) id no_region) (missed_zone x w) (λ z. refl) t

-- ---- the whole
list_asked : (t w : List Zone)
    → map asked_as (requests_for t w)
    ≡ regions_asked Goes t w ++ (zones_asked Goes t w ++ (zones_asked Comes w t ++ regions_asked Comes w t))
unfolding requests_for kind_number kind_region
list_asked t w =
    map-append asked_as (map take_out (keep (lacks w) (holdings t))) _
    ∙ ap₂ (λ (a b : List Asked). a ++ b)
    (map-map asked_as take_out (keep (lacks w) (holdings t))
    ∙ regions_asked_law w (λ h. asked_as (take_out h)) Goes (λ id r. refl) (λ id r. refl) t)
    (map-append asked_as (map drop_zone (keep (absent w) (ids_of t))) _
    ∙ ap₂ (λ (a b : List Asked). a ++ b)
    (map-map asked_as drop_zone (keep (absent w) (ids_of t)) ∙ zones_asked_law Goes t w)
    (map-append asked_as (map add_zone (keep (absent t) (ids_of w))) _
    ∙ ap₂ (λ (a b : List Asked). a ++ b)
    (map-map asked_as add_zone (keep (absent t) (ids_of w)) ∙ zones_asked_law Comes w t)
    (map-map asked_as put_in (keep (lacks t) (holdings w))
    ∙ regions_asked_law t (λ h. asked_as (put_in h)) Comes (λ id r. refl) (λ id r. refl) w)))

-- as bytes
pub list_bytes_law : (t w : List Zone)
    → records_of (requests_for t w)
    ≡ write_many asked_field (regions_asked Goes t w)
    ++ (write_many asked_field (zones_asked Goes t w)
    ++ (write_many asked_field (zones_asked Comes w t) ++ write_many asked_field (regions_asked Comes w t)))
unfolding records_of
list_bytes_law t w =
    ap (write_many asked_field) (list_asked t w) ∙ many_append asked_field (regions_asked Goes t w) _
    ∙ ap (λ (l : List ℕ). write_many asked_field (regions_asked Goes t w) ++ l)
    (many_append asked_field (zones_asked Goes t w) _
    ∙ ap (λ (l : List ℕ). write_many asked_field (zones_asked Goes t w) ++ l)
    (many_append asked_field (zones_asked Comes w t) (regions_asked Comes w t)))
