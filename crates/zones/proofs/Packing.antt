-- The check of the words: what each return of the code answers; and words that pass are packed, since each part of
-- them is the words of what the readers find there.
use Prim.Native.Nat.{ℕ, ◌+◌, ◌-◌, ◌*◌, ◌≤◌, ◌<◌}
use native.Mathlib.Omega.{arith}
use mathlib.Core.Bool.{Bool, true}
use mathlib.Core.List.{List, [], ◌∷◌, ◌++◌}
use mathlib.Core.Path.{◌≡◌, refl, sym, ap, ap₂, ◌∙◌}
use borrow.Author.Tests.{leb-true}
use lib.Dec.{leb}
use lib.ListN.{length, get_or}
use Rattle.lists.specs.First.{all}
use Rattle.lists.specs.Places.{places}
use Rattle.lists.specs.Words.{part}
use Rattle.lists.proofs.Places.{every_at, length_tab}
use Rattle.lists.proofs.Tests.{Holds, parts}
use Rattle.lists.proofs.Words.{part_add, part_cons, part_all, parts_counted}
use Rattle.rules.specs.Changes.{region_set}
use Rattle.rules.specs.Limits.{most_zones, most_in_set}
use Rattle.rules.specs.Regions.{no_region}
use Rattle.rules.specs.Tables.{no_zone}
use Rattle.rules.specs.declared.Side.{Side}
use Rattle.rules.specs.declared.Side.TheVariants.{Cpu, Iommu}
use Rattle.zones.specs.Layout.{region_words, set_words, zone_words, table_words, zone_base, set_base, record_base}
use Rattle.zones.specs.Packing.{zeros, set_packed, zone_packed, packed}
use Rattle.zones.specs.Records.{words_of_region, record_at, records_at}
use Rattle.zones.specs.View.{set_in, zone_in, zones_in}
use Rattle.zones.specs.Words.{words_of_set, words_of_zone, words_of, Packed}
use Rattle.zones.proofs.Focus.{zero_zone_law}
use Rattle.zones.proofs.Records.{zero_region, region_part}
use Rattle.zones.proofs.Writers.{set_in_law}

-- ---- the returns
module _ (w : List ℕ) where
  -- the records that are free, and the zones: as many words as there are up to the end
  pub free_records : (b : ℕ) (r : Bool) → get_or w b 0 ≤ most_in_set
      → r ≡ zeros w (record_base b (get_or w b 0)) (b + set_words - record_base b (get_or w b 0))
      → r ≡ zeros w (record_base b (get_or w b 0)) ((most_in_set - get_or w b 0) * region_words)
  free_records b r h e =
      let f : b + set_words - record_base b (get_or w b 0) ≡ (most_in_set - get_or w b 0) * region_words = omega arith in
      e ∙ ap (zeros w (record_base b (get_or w b 0))) f

  pub free_zones : (b : ℕ) (r : Bool) → b ≡ zone_base (get_or w 0 0) → get_or w 0 0 ≤ most_zones
      → r ≡ zeros w b (table_words - b) → r ≡ zeros w (zone_base (get_or w 0 0)) ((most_zones - get_or w 0 0) * zone_words)
  free_zones b r q h e =
      let f : table_words - zone_base (get_or w 0 0) ≡ (most_zones - get_or w 0 0) * zone_words = omega arith in
      e ∙ ap (λ (k : ℕ). zeros w k (table_words - k)) q ∙ ap (zeros w (zone_base (get_or w 0 0))) f

  -- a set that a call looked at, by where it starts
  pub packed_at : (z b : ℕ) (s : Side) (t : Bool) → b ≡ set_base z s → t ≡ set_packed w b → t ≡ set_packed w (set_base z s)
  packed_at z b s t e g = g ∙ ap (set_packed w) e

-- ---- words of which the test holds are packed
module _ (w : List ℕ) (len : length w ≡ table_words) where
  set_part : (z : ℕ) (s : Side) → set_base z s + set_words ≤ table_words → set_packed w (set_base z s) ≡ true
      → part (set_base z s) set_words w ≡ words_of_set (set_in w z s)
  unfolding set_packed words_of_set set_in records_at record_at
  set_part z s h p =
      let b : ℕ = set_base z s in
      let q = parts _ p in
      let c : get_or w b 0 ≤ most_in_set = leb-true _ _ q.0 in
      parts_counted words_of_region region_words w b most_in_set (get_or w b 0) no_region
      (record_at w (b + 1)) zero_region refl c (omega arith) (λ i l. region_part w (record_base b i) (omega (arith, len)))
      q.1.0

  base_fits : (z : ℕ) (s : Side) → z < most_zones → set_base z s + set_words ≤ table_words
  unfolding set_base
  base_fits z Cpu h = omega arith
  base_fits z Iommu h = omega arith

  cpu_base : (z : ℕ) → zone_base z + 1 ≡ set_base z Cpu
  unfolding set_base
  cpu_base z = refl

  iommu_base : (z : ℕ) → zone_base z + 1 + set_words ≡ set_base z Iommu
  unfolding set_base
  iommu_base z = omega arith

  zone_part : (z : ℕ) → z < most_zones → zone_packed w z ≡ true → part (zone_base z) zone_words w ≡ words_of_zone (zone_in w z)
  unfolding zone_packed words_of_zone zone_in
  zone_part z h p =
      let q = parts _ p in
      part_cons (zone_base z) (set_words + set_words) w 0 (omega arith)
      ∙ ap (λ (l : List ℕ). get_or w (zone_base z) 0 ∷ l)
      (part_add (zone_base z + 1) set_words set_words w
      ∙ ap₂ (λ (x y : List ℕ). x ++ y) (ap (λ (j : ℕ). part j set_words w) (cpu_base z)
      ∙ set_part z Cpu (base_fits z Cpu h) q.0) (ap (λ (j : ℕ). part j set_words w) (iommu_base z)
      ∙ set_part z Iommu (base_fits z Iommu h) q.1.0))

  module _ (p : packed w ≡ true) where
    tests : Holds (leb (get_or w 0 0) most_zones ∷ all (zone_packed w) (places 0 (get_or w 0 0))
        ∷ zeros w (zone_base (get_or w 0 0)) ((most_zones - get_or w 0 0) * zone_words) ∷ [])
    unfolding packed
    tests = parts _ p

    few_zones_law : get_or w 0 0 ≤ most_zones
    few_zones_law = leb-true _ _ tests.0

    zone_ok : (z : ℕ) → z < get_or w 0 0 → zone_packed w z ≡ true
    zone_ok z h = every_at (zone_packed w) 0 (get_or w 0 0) tests.1.0 z (omega arith) (omega arith)

    set_first : (b : ℕ) → set_packed w b ≡ true → get_or w b 0 ≤ most_in_set
    unfolding set_packed
    set_first b q = leb-true _ _ (parts _ q).0

    set_ok : (z : ℕ) (s : Side) → z < get_or w 0 0 → get_or w (set_base z s) 0 ≤ most_in_set
    unfolding zone_packed
    set_ok z Cpu h = set_first (set_base z Cpu) (parts _ (zone_ok z h)).0
    set_ok z Iommu h = set_first (set_base z Iommu) (parts _ (zone_ok z h)).1.0

    set_len : (z : ℕ) (s : Side) → length (set_in w z s) ≡ get_or w (set_base z s) 0
    unfolding set_in records_at
    set_len z s = length_tab (get_or w (set_base z s) 0) (record_at w (set_base z s + 1))

    table_len : length (zones_in w) ≡ get_or w 0 0
    unfolding zones_in
    table_len = length_tab (get_or w 0 0) (zone_in w)

    table_part : part 0 table_words w ≡ words_of (zones_in w)
    unfolding words_of zones_in
    table_part =
        let c : get_or w 0 0 ≤ most_zones = few_zones_law in
        parts_counted words_of_zone zone_words w 0 most_zones (get_or w 0 0) no_zone (zone_in w) zero_zone_law refl c (omega arith)
        (λ i l. zone_part i (omega arith) (zone_ok i l)) tests.1.1.0

    set_small : (z : ℕ) (s : Side) → z < length (zones_in w) → length (region_set (zones_in w) z s) ≤ most_in_set
    set_small z s h =
        let l : z < get_or w 0 0 = omega (arith, table_len) in
        let q : get_or w (set_base z s) 0 ≤ most_in_set = set_ok z s l in
        omega (arith, set_len z s, ap length (set_in_law w z s h))

    pub packed_words : Packed w
    packed_words = record {
      within = record {
        zones = (let c : get_or w 0 0 ≤ most_zones = few_zones_law in omega (arith, table_len));
        sets = set_small;
      };
      words = sym (part_all table_words w len) ∙ table_part;
    }

-- every zone below n
pub every_packed : (w : List ℕ) (n : ℕ) (r : Bool) → r ≡ all (zone_packed w) (places 0 (n - 0))
    → r ≡ all (zone_packed w) (places 0 n)
every_packed w n r e = let z : n - 0 ≡ n = omega arith in e ∙ ap (λ (m : ℕ). all (zone_packed w) (places 0 m)) z
