-- The words of a table around one zone, and around one set: the same before and after, whatever stands there.
use Prim.Native.Nat.{ℕ, suc, ◌+◌, ◌≤◌, ◌<◌}
use native.Mathlib.Omega.{arith}
use mathlib.Core.List.{List, [], ◌∷◌, ◌++◌, flat_map, append_assoc, append-nil}
use mathlib.Core.Path.{◌≡◌, refl, sym, ap, ap₂, ◌∙◌}
use lib.ListN.{length, get_or, take, drop, set, length-append, length-take, length-set, replicate}
use lib.Seq.{set-get_or, get_or_at}
use Rattle.lists.specs.Places.{tab}
use Rattle.lists.specs.Room.{room}
use Rattle.lists.specs.Words.{counted}
use Rattle.lists.proofs.Places.{tab_list}
use Rattle.lists.proofs.Room.{length_room, room_set}
use Rattle.lists.proofs.Words.{flat_set, length_flat, length_counted, front, rear, length_front_of, count_at_law}
use Rattle.lists.proofs.Words.{element_at}
use Rattle.rules.specs.Changes.{region_set, with_side, put_set}
use Rattle.rules.specs.Limits.{most_zones, most_in_set}
use Rattle.rules.specs.Fields.{numbers_of}
use Rattle.rules.specs.Regions.{no_region}
use Rattle.rules.specs.Tables.{no_zone, side_of, Zone}
use Rattle.rules.specs.declared.Region.{Region}
use Rattle.rules.specs.declared.Side.{Side}
use Rattle.rules.specs.declared.Side.TheVariants.{Cpu, Iommu}
use Rattle.zones.specs.Layout.{region_words, set_words, zone_words, table_words, zone_base, side_words, set_base}
use Rattle.zones.specs.Layout.{record_base}
use Rattle.zones.specs.Records.{region_at, words_of_region, record_at, records_at}
use Rattle.zones.specs.View.{record_in, set_in, zone_in, zones_in}
use Rattle.zones.specs.Words.{words_of_set, words_of_zone, words_of, Within, Packed}
use Rattle.zones.proofs.Records.{region_wide, region_read}

-- ---- widths
pub set_wide : (xs : List Region) → length (words_of_set xs) ≡ set_words
unfolding words_of_set
set_wide xs = length_counted words_of_region region_words region_wide most_in_set no_region xs

pub zone_wide : (z : Zone) → length (words_of_zone z) ≡ zone_words
unfolding words_of_zone
zone_wide z =
    omega (arith, length-append (words_of_set z.cpu) (words_of_set z.iommu), set_wide z.cpu, set_wide z.iommu)

pub table_wide : (m : List Zone) → length (words_of m) ≡ table_words
unfolding words_of
table_wide m = length_counted words_of_zone zone_words zone_wide most_zones no_zone m

-- what is free is zero
pub zero_zone_law : words_of_zone no_zone ≡ replicate zone_words 0
unfolding words_of_zone words_of_set counted flat_map room words_of_region numbers_of
zero_zone_law = refl

-- ---- a zone's words around the set of a side
unfoldable pub zone_pre : Side → Zone → List ℕ
zone_pre Cpu z = z.id ∷ []
zone_pre Iommu z = z.id ∷ words_of_set z.cpu

unfoldable pub zone_post : Side → Zone → List ℕ
zone_post Cpu z = words_of_set z.iommu
zone_post Iommu z = []

zone_set : (s : Side) (xs : List Region) (z : Zone)
    → words_of_zone (with_side s xs z) ≡ zone_pre s z ++ (words_of_set xs ++ zone_post s z)
unfolding words_of_zone with_side zone_pre zone_post
zone_set Cpu xs z = refl
zone_set Iommu xs z = ap (λ (l : List ℕ). z.id ∷ (words_of_set z.cpu ++ l)) (sym (append-nil (words_of_set xs)))

zone_pre_long : (s : Side) (z : Zone) → length (zone_pre s z) ≡ side_words s
unfolding zone_pre
zone_pre_long Cpu z = refl
zone_pre_long Iommu z = ap suc (set_wide z.cpu)

same_side_law : (s : Side) (z : Zone) → with_side s (side_of s z) z ≡ z
unfolding with_side side_of
same_side_law Cpu z = refl
same_side_law Iommu z = refl

-- ---- the table's words around the set of a side of the zone at z
module _ (m : List Zone) (z : ℕ) (s : Side) where
  unfoldable pub pre : List ℕ
  pre = (length m ∷ flat_map words_of_zone (take z (room most_zones no_zone m))) ++ zone_pre s (get_or m z no_zone)

  unfoldable pub post : List ℕ
  post = zone_post s (get_or m z no_zone) ++ flat_map words_of_zone (drop (suc z) (room most_zones no_zone m))

  module _ (h : z < length m) (k : length m ≤ most_zones) where
    zones_long : length (length m ∷ flat_map words_of_zone (take z (room most_zones no_zone m))) ≡ zone_base z
    zones_long =
        omega (
          arith,
          length_flat words_of_zone zone_words zone_wide (take z (room most_zones no_zone m)),
          length-take z (room most_zones no_zone m),
          length_room most_zones no_zone m,
        )

    pub pre_long : length pre ≡ set_base z s
    unfolding pre set_base
    pre_long =
        length-append (length m ∷ flat_map words_of_zone (take z (room most_zones no_zone m))) (zone_pre s (get_or m z no_zone))
        ∙ ap₂ (λ (a b : ℕ). a + b) zones_long (zone_pre_long s (get_or m z no_zone))

    pub focus : (xs : List Region) → words_of (put_set z s xs m) ≡ pre ++ (words_of_set xs ++ post)
    unfolding words_of put_set pre post counted
    focus xs =
        let y : Zone = get_or m z no_zone in
        let p : List Zone = room most_zones no_zone m in
        let e : flat_map words_of_zone (room most_zones no_zone (set m z (with_side s xs y)))
        ≡ flat_map words_of_zone (take z p) ++ (words_of_zone (with_side s xs y) ++ flat_map words_of_zone (drop (suc z) p)) =
        ap (flat_map words_of_zone) (room_set most_zones no_zone m z (with_side s xs y) h k)
        ∙ flat_set words_of_zone p z (with_side s xs y) (omega (arith, length_room most_zones no_zone m)) in
        rw (length-set m z (with_side s xs y), e, zone_set s xs y) (simp append_assoc)

    pub put_same : put_set z s (region_set m z s) m ≡ m
    unfolding put_set region_set
    put_same = ap (set m z) (same_side_law s (get_or m z no_zone)) ∙ set-get_or m z no_zone

    pub focus_same : words_of m ≡ pre ++ (words_of_set (region_set m z s) ++ post)
    focus_same = ap words_of (sym put_same) ∙ focus (region_set m z s)

-- ---- what is written is read back
zone_path : {y z : Zone} → y.id ≡ z.id → y.cpu ≡ z.cpu → y.iommu ≡ z.iommu → y ≡ z
zone_path p q r = λ i. record { id = p i; cpu = q i; iommu = r i }

module _ (m : List Zone) (in-limits : Within m) (z : ℕ) (h : z < length m) where
  pub set_read : (s : Side) → set_in (words_of m) z s ≡ region_set m z s
  unfolding set_in records_at record_in record_at words_of_set region_set
  set_read s =
      let w : List ℕ = words_of m in
      let xs : List Region = region_set m z s in
      let b : ℕ = set_base z s in
      let k : length m ≤ most_zones = in-limits.zones in
      let q : length xs ≤ most_in_set = in-limits.sets z s h in
      let f : w ≡ pre m z s ++ (words_of_set xs ++ post m z s) = focus_same m z s h k in
      let count : get_or w b 0 ≡ length xs =
      ap (λ (l : List ℕ). get_or l b 0) f
      ∙ count_at_law most_in_set no_region words_of_region region_words region_wide (pre m z s) (post m z s) b
      (pre_long m z s h k) xs 0 in
      let a : ℕ → List ℕ =
      front most_in_set no_region words_of_region region_words region_wide (pre m z s) (post m z s) b
      (pre_long m z s h k) xs in
      let c : ℕ → List ℕ =
      rear most_in_set no_region words_of_region region_words region_wide (pre m z s) (post m z s) b
      (pre_long m z s h k) xs in
      let each : (i : ℕ) → i < length xs → record_in w z s i ≡ get_or xs i no_region = λ i t.
      ap (λ (l : List ℕ). region_at l (record_base b i))
      (f ∙ element_at most_in_set no_region words_of_region region_words region_wide (pre m z s) (post m z s) b
      (pre_long m z s h k) xs i no_region t q)
      ∙ region_read (a i) (c i) (get_or xs i no_region) (record_base b i)
      (length_front_of most_in_set no_region words_of_region region_words region_wide (pre m z s) (post m z s) b
      (pre_long m z s h k) xs i (omega arith)) in
      ap (λ (n : ℕ). tab n (record_in w z s)) count ∙ tab_list (record_in w z s) xs no_region each

  id_read : get_or (words_of m) (zone_base z) 0 ≡ (get_or m z no_zone).id
  unfolding pre zone_pre
  id_read =
      let k : length m ≤ most_zones = in-limits.zones in
      let a : List ℕ = length m ∷ flat_map words_of_zone (take z (room most_zones no_zone m)) in
      let rest : List ℕ = words_of_set (region_set m z Cpu) ++ post m z Cpu in
      ap (λ (l : List ℕ). get_or l (zone_base z) 0)
      (focus_same m z Cpu h k ∙ append_assoc a ((get_or m z no_zone).id ∷ []) rest)
      ∙ get_or_at a (get_or m z no_zone).id rest 0 (zone_base z) (zones_long m z Cpu h k)

  pub zone_read : zone_in (words_of m) z ≡ get_or m z no_zone
  unfolding zone_in region_set side_of
  zone_read = zone_path id_read (set_read Cpu) (set_read Iommu)

pub view_words : (m : List Zone) → Within m → zones_in (words_of m) ≡ m
unfolding zones_in words_of counted
view_words m b = tab_list (zone_in (words_of m)) m no_zone (λ z h. zone_read m b z h)

pub words_packed : (m : List Zone) → Within m → Packed (words_of m)
words_packed m b = record { within = rw (view_words m b) b; words = ap words_of (sym (view_words m b)) }
