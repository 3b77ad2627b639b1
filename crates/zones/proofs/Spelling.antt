-- The words of a configuration and of a table hold what they were made of:
-- counted lists one behind the other, each read back where it stands.
use Prim.Native.Nat.{ℕ, suc, ◌+◌, ◌*◌}
use native.Mathlib.Nat.{suc-mul}
use native.Mathlib.Omega.{arith}
use mathlib.Core.List.{List, [], ◌∷◌, ◌++◌, flat_map, map, map-map, append_assoc, append-nil}
use mathlib.Core.Path.{◌≡◌, refl, sym, ap, ap₂, ◌∙◌}
use lib.ListN.{length, get_or, length-append, get_or-map}
use lib.Seq.{get_or_at}
use Rattle.lists.specs.Places.{places, tab}
use Rattle.lists.specs.Room.{room}
use Rattle.lists.specs.Words.{counted}
use Rattle.lists.proofs.Places.{tab_cons}
use Rattle.lists.proofs.Room.{length_room, room_tab}
use Rattle.rules.specs.Applying.{store_set, store_zone, store, store_config}
use Rattle.rules.specs.Configuration.{Configuration}
use Rattle.rules.specs.Limits.{most_regions, most_zones, most_in_set, limits}
use Rattle.rules.specs.Regions.{no_region}
use Rattle.rules.specs.Tables.{no_zone, unused_zone, Zone, StoredZone}
use Rattle.rules.specs.declared.Region.{Region}
use Rattle.zones.specs.Layout.{region_words, config_records, set_words, zone_words, zone_base, set_base}
use Rattle.zones.specs.Records.{region_at, words_of_region, record_at, records_at}
use Rattle.zones.specs.View.{stored_config, stored_set, stored_zone, stored_table}
use Rattle.zones.specs.Words.{words_of_set, words_of_zone, words_of, words_of_config}
use Rattle.zones.proofs.Focus.{set_wide, zone_wide}
use Rattle.zones.proofs.Records.{region_wide, region_read}

-- records among words
records_spelled : (rs : List Region) (pre post : List ℕ) (k : ℕ) → length pre ≡ k
    → records_at (pre ++ (flat_map words_of_region rs ++ post)) k (length rs) ≡ rs
unfolding records_at record_at flat_map tab places
records_spelled [] pre post k e = refl
records_spelled (r ∷ rs) pre post k e =
    let w : List ℕ = pre ++ ((words_of_region r ++ flat_map words_of_region rs) ++ post) in
    let tail : List ℕ = flat_map words_of_region rs ++ post in
    let split : w ≡ pre ++ (words_of_region r ++ tail) =
    ap (λ (l : List ℕ). pre ++ l) (append_assoc (words_of_region r) (flat_map words_of_region rs) post) in
    let z : k + 0 * region_words ≡ k = omega arith in
    let first : region_at w (k + 0 * region_words) ≡ r = ap₂ region_at split z ∙ region_read pre tail r k e in
    let step : (i : ℕ) → k + suc i * region_words ≡ k + region_words + i * region_words = λ i. omega arith in
    let again : w ≡ (pre ++ words_of_region r) ++ tail = split ∙ sym (append_assoc pre (words_of_region r) tail) in
    let rest : tab (length rs) (λ i. region_at ((pre ++ words_of_region r) ++ tail) (k + region_words + i * region_words))
    ≡ rs =
    records_spelled rs (pre ++ words_of_region r) post (k + region_words)
    (omega (arith, length-append pre (words_of_region r), region_wide r)) in
    tab_cons (length rs) (λ i. region_at w (k + i * region_words))
    ∙ ap₂ (λ (x : Region) (l : List Region). x ∷ l) first
    ((λ j. tab (length rs) (λ i. region_at (again j) (step i j))) ∙ rest)

-- ---- a configuration
pub config_view : (c : Configuration) → stored_config (words_of_config c) ≡ store_config limits c
unfolding words_of_config
config_view c =
    let rs : List Region = room most_regions no_region c.regions in
    let n : length rs ≡ most_regions = length_room most_regions no_region c.regions in
    let pre : List ℕ = length c.regions ∷ c.gic ∷ [] in
    let e : records_at (pre ++ flat_map words_of_region rs) config_records most_regions ≡ rs =
    ap₂ (λ (l : List ℕ) (k : ℕ). records_at (pre ++ l) config_records k) (sym (append-nil (flat_map words_of_region rs)))
    (sym n)
    ∙ records_spelled rs pre [] config_records refl in
    (λ i. record { count = length c.regions; gic = c.gic; records = e i })

-- ---- a table
set_spelled : (xs : List Region) (pre post : List ℕ) (b : ℕ) → length pre ≡ b
    → stored_set (pre ++ (words_of_set xs ++ post)) b ≡ store_set limits xs
unfolding stored_set words_of_set counted
set_spelled xs pre post b e =
    let rs : List Region = room most_in_set no_region xs in
    let n : length rs ≡ most_in_set = length_room most_in_set no_region xs in
    let w : List ℕ = pre ++ (length xs ∷ (flat_map words_of_region rs ++ post)) in
    let c : get_or w b 0 ≡ length xs = get_or_at pre (length xs) (flat_map words_of_region rs ++ post) 0 b e in
    let split : w ≡ (pre ++ (length xs ∷ [])) ++ (flat_map words_of_region rs ++ post) =
    sym (append_assoc pre (length xs ∷ []) (flat_map words_of_region rs ++ post)) in
    let one : length (pre ++ (length xs ∷ [])) ≡ b + 1 =
    (let q : length (length xs ∷ []) ≡ 1 = refl in
    omega (arith, length-append pre (length xs ∷ []))) in
    let r : records_at w (b + 1) most_in_set ≡ rs =
    ap₂ (λ (l : List ℕ) (k : ℕ). records_at l (b + 1) k) split (sym n)
    ∙ records_spelled rs (pre ++ (length xs ∷ [])) post (b + 1) one in
    (λ i. record { count = c i; records = r i })

zone_spelled : (z : Zone) (pre post : List ℕ) (j : ℕ) → length pre ≡ zone_base j
    → stored_zone (pre ++ (words_of_zone z ++ post)) j ≡ store_zone limits z
unfolding stored_zone words_of_zone set_base
zone_spelled z pre post j e =
    let cpu : List ℕ = words_of_set z.cpu in
    let iommu : List ℕ = words_of_set z.iommu in
    let w : List ℕ = pre ++ (z.id ∷ ((cpu ++ iommu) ++ post)) in
    let first : List ℕ = pre ++ (z.id ∷ []) in
    let split : w ≡ first ++ (cpu ++ (iommu ++ post)) =
    sym (append_assoc pre (z.id ∷ []) ((cpu ++ iommu) ++ post))
    ∙ ap (λ (l : List ℕ). first ++ l) (append_assoc cpu iommu post) in
    let again : w ≡ (first ++ cpu) ++ (iommu ++ post) = split ∙ sym (append_assoc first cpu (iommu ++ post)) in
    let one : length first ≡ 1 + j * zone_words + 1 =
    (let q : length (z.id ∷ []) ≡ 1 = refl in
    omega (arith, length-append pre (z.id ∷ []))) in
    let next : length (first ++ cpu) ≡ 1 + j * zone_words + (1 + set_words) =
    omega (arith, length-append first cpu, set_wide z.cpu) in
    let i : get_or w (zone_base j) 0 ≡ z.id = get_or_at pre z.id ((cpu ++ iommu) ++ post) 0 (zone_base j) e in
    let c : stored_set w (1 + j * zone_words + 1) ≡ store_set limits z.cpu =
    ap (λ (l : List ℕ). stored_set l (1 + j * zone_words + 1)) split
    ∙ set_spelled z.cpu first (iommu ++ post) (1 + j * zone_words + 1) one in
    let d : stored_set w (1 + j * zone_words + (1 + set_words)) ≡ store_set limits z.iommu =
    ap (λ (l : List ℕ). stored_set l (1 + j * zone_words + (1 + set_words))) again
    ∙ set_spelled z.iommu (first ++ cpu) post (1 + j * zone_words + (1 + set_words)) next in
    (λ k. record { id = i k; cpu = c k; iommu = d k })

-- zones among words, from zone j on
zones_spelled : (zs : List Zone) (pre post : List ℕ) (j : ℕ) → length pre ≡ zone_base j
    → tab (length zs) (λ i. stored_zone (pre ++ (flat_map words_of_zone zs ++ post)) (j + i)) ≡ map (store_zone limits) zs
unfolding flat_map tab places
zones_spelled [] pre post j e = refl
zones_spelled (z ∷ zs) pre post j e =
    let w : List ℕ = pre ++ ((words_of_zone z ++ flat_map words_of_zone zs) ++ post) in
    let tail : List ℕ = flat_map words_of_zone zs ++ post in
    let split : w ≡ pre ++ (words_of_zone z ++ tail) =
    ap (λ (l : List ℕ). pre ++ l) (append_assoc (words_of_zone z) (flat_map words_of_zone zs) post) in
    let n : j + 0 ≡ j = omega arith in
    let first : stored_zone w (j + 0) ≡ store_zone limits z = ap₂ stored_zone split n ∙ zone_spelled z pre tail j e in
    let step : (i : ℕ) → j + suc i ≡ suc j + i = λ i. omega arith in
    let again : w ≡ (pre ++ words_of_zone z) ++ tail = split ∙ sym (append_assoc pre (words_of_zone z) tail) in
    let rest : tab (length zs) (λ i. stored_zone ((pre ++ words_of_zone z) ++ tail) (suc j + i))
    ≡ map (store_zone limits) zs =
    zones_spelled zs (pre ++ words_of_zone z) post (suc j)
    (omega (arith, length-append pre (words_of_zone z), zone_wide z, suc-mul j zone_words)) in
    tab_cons (length zs) (λ i. stored_zone w (j + i))
    ∙ ap₂ (λ (x : StoredZone) (l : List StoredZone). x ∷ l) first
    ((λ k. tab (length zs) (λ i. stored_zone (again k) (step i k))) ∙ rest)

-- a list in its places, seen through f
map_room : {A B : Type 0} (f : A → B) (n : ℕ) (z : A) (xs : List A) → map f (room n z xs) ≡ room n (f z) (map f xs)
unfolding tab
map_room {A} {B} f n z xs =
    ap (map f) (room_tab n z xs) ∙ map-map f (λ i. get_or xs i z) (places 0 n)
    ∙ (λ k. map (λ i. sym (get_or-map f xs i z) k) (places 0 n)) ∙ sym (room_tab n (f z) (map f xs))

no_zone_law : store_zone limits no_zone ≡ unused_zone limits
unfolding room
no_zone_law = refl

pub table_view : (t : List Zone) → stored_table (words_of t) ≡ store limits t
unfolding stored_table words_of counted
table_view t =
    let zs : List Zone = room most_zones no_zone t in
    let n : length zs ≡ most_zones = length_room most_zones no_zone t in
    let w : List ℕ = length t ∷ flat_map words_of_zone zs in
    let e : tab most_zones (stored_zone w) ≡ map (store_zone limits) zs =
    (λ k. tab (sym n k) (λ i. stored_zone (length t ∷ sym (append-nil (flat_map words_of_zone zs)) k) i))
    ∙ from_zero zs (length t)
    ∙ zones_spelled zs (length t ∷ []) [] 0 refl in
    let f : map (store_zone limits) zs ≡ room most_zones (unused_zone limits) (map (store_zone limits) t) =
    map_room (store_zone limits) most_zones no_zone t
    ∙ ap (λ (z : StoredZone). room most_zones z (map (store_zone limits) t)) no_zone_law in
    (λ k. record { count = length t; zones = (e ∙ f) k })
  where
    from_zero : (zs : List Zone) (n : ℕ)
        → tab (length zs) (λ i. stored_zone (n ∷ (flat_map words_of_zone zs ++ [])) i)
        ≡ tab (length zs) (λ i. stored_zone (n ∷ (flat_map words_of_zone zs ++ [])) (0 + i))
    from_zero zs n =
        let z : (i : ℕ) → i ≡ 0 + i = λ i. omega arith in
        (λ k. tab (length zs) (λ i. stored_zone (n ∷ (flat_map words_of_zone zs ++ [])) (z i k)))
