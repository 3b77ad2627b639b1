-- A writer changes the words of one set or of one zone and leaves those
-- around them, so what it leaves is the words of the changed table.
use Prim.Native.Nat.{ℕ, ◌+◌, ◌-◌, ◌*◌, ◌≤◌, ◌<◌}
use native.Mathlib.Omega.{arith}
use mathlib.Core.List.{List, [], ◌∷◌, ◌++◌, append-nil}
use mathlib.Core.Path.{◌≡◌, refl, sym, ap, ap₂, ◌∙◌}
use lib.ListN.{length, get_or, set}
use lib.Seq.{set_at, sets}
use Rattle.lists.specs.Room.{remove_at}
use Rattle.lists.specs.Words.{counted, closed}
use Rattle.lists.proofs.Places.{length_tab, get_d_tab}
use Rattle.lists.proofs.Words.{free_before, free_after, length_free, free_at, fill_free, push_counted, cut_counted}
use Rattle.rules.specs.Changes.{region_set, added, pushed, cut, dropped}
use Rattle.rules.specs.Limits.{most_zones, most_in_set}
use Rattle.rules.specs.Regions.{no_region}
use Rattle.rules.specs.Tables.{no_zone, side_of, Zone}
use Rattle.rules.specs.declared.Region.{Region}
use Rattle.rules.specs.declared.Side.{Side}
use Rattle.rules.specs.declared.Side.TheVariants.{Cpu, Iommu}
use Rattle.zones.specs.Layout.{region_words, zone_words, zone_base, table_words, set_base}
use Rattle.zones.specs.Records.{words_of_region}
use Rattle.zones.specs.View.{set_in, zone_in, zones_in}
use Rattle.zones.specs.Words.{words_of_set, words_of_zone, words_of, Packed}
use Rattle.zones.proofs.Focus.{zone_wide, table_wide, zero_zone_law, pre, post, pre_long, focus, focus_same}
use Rattle.zones.proofs.Free.{closed_used}
use Rattle.zones.proofs.Records.{region_wide, zero_region}

pub packed_long : (w : List ℕ) → Packed w → length w ≡ table_words
packed_long w p = ap length p.words ∙ table_wide (zones_in w)

-- the set in the model is the one that the words hold
side_set : (w : List ℕ) (z : ℕ) (s : Side) → side_of s (zone_in w z) ≡ set_in w z s
unfolding side_of zone_in
side_set w z Cpu = refl
side_set w z Iommu = refl

pub set_in_law : (w : List ℕ) (z : ℕ) (s : Side) → z < length (zones_in w) → region_set (zones_in w) z s ≡ set_in w z s
unfolding region_set zones_in
set_in_law w z s h =
    ap (side_of s) (get_d_tab (get_or w 0 0) (zone_in w) z no_zone (omega (arith, length_tab (get_or w 0 0) (zone_in w))))
    ∙ side_set w z s

module _ (w u : List ℕ) (p : Packed w) (z : ℕ) (h : z < length (zones_in w)) (s : Side) (b n : ℕ) (eb : b ≡ set_base z s)
    (en : n ≡ length (set_in w z s)) where
  m : List Zone
  m = zones_in w

  long : length (pre m z s) ≡ b
  unfolding m
  long = pre_long m z s h p.within.zones ∙ sym eb

  count : n ≡ length (region_set m z s)
  unfolding m
  count = en ∙ ap length (sym (set_in_law w z s h))

  around : w ≡ pre m z s ++ (counted most_in_set no_region words_of_region (region_set m z s) ++ post m z s)
  unfolding m words_of_set
  around = p.words ∙ focus_same m z s h p.within.zones

  pub push_words : (r : Region) → length (set_in w z s) < most_in_set
      → u ≡ sets w (b + 1 + n * region_words) (words_of_region r) → set u b (n + 1) ≡ words_of (pushed z s r (zones_in w))
  unfolding m pushed words_of_set
  push_words r k e =
      ap (λ (l : List ℕ). set l b (n + 1)) e
      ∙ ap₂ (λ (l : List ℕ) (c : ℕ). set (sets l (b + 1 + c * region_words) (words_of_region r)) b (c + 1)) around count
      ∙ push_counted most_in_set no_region words_of_region region_words region_wide (pre m z s) (post m z s) b long
      (region_set m z s) r (omega (arith, count))
      ∙ sym (focus m z s h p.within.zones (region_set m z s ++ r ∷ []))

  pub cut_words : (i : ℕ) → i < length (set_in w z s)
      → u ≡ closed w (b + 1 + i * region_words) region_words (b + 1 + n * region_words)
      → set u b (n - 1) ≡ words_of (cut z s i (zones_in w))
  unfolding m cut words_of_set
  cut_words i k e =
      ap (λ (l : List ℕ). set l b (n - 1)) e
      ∙ ap₂ (λ (l : List ℕ) (c : ℕ). set (closed l (b + 1 + i * region_words) region_words (b + 1 + c * region_words)) b
      (c - 1)) around count
      ∙ ap (λ (l : List ℕ). set l b (length (region_set m z s) - 1))
      (closed_used most_in_set no_region words_of_region region_words region_wide zero_region (region_set m z s)
      (p.within.sets z s h) (pre m z s) (post m z s) b long (b + 1 + i * region_words) (omega (arith, count)))
      ∙ cut_counted most_in_set no_region words_of_region region_words region_wide (pre m z s) (post m z s) b long
      (region_set m z s) i (omega (arith, count)) (p.within.sets z s h) zero_region
      ∙ sym (focus m z s h p.within.zones (remove_at i (region_set m z s)))

-- the id of a zone that is zero
named : (a c : List ℕ) (id k : ℕ) → length a ≡ k
    → set (a ++ (words_of_zone no_zone ++ c)) k id ≡ a ++ (words_of_zone (record { id = id; cpu = []; iommu = [] }) ++ c)
unfolding words_of_zone
named a c id k e = set_at a 0 ((words_of_set [] ++ words_of_set []) ++ c) id k e

-- ---- zones: the table is a counted list with no words before it, and none after
whole : (m : List Zone) → words_of m ≡ [] ++ (counted most_zones no_zone words_of_zone m ++ [])
unfolding words_of
whole m = sym (append-nil (counted most_zones no_zone words_of_zone m))

module _ (w u : List ℕ) (p : Packed w) (n : ℕ) (en : n ≡ length (zones_in w)) where
  pub remove_words : (z b k : ℕ) → b ≡ zone_base z → k ≡ zone_base n → z < length (zones_in w) → u ≡ closed w b zone_words k
      → set u 0 (n - 1) ≡ words_of (dropped z (zones_in w))
  unfolding dropped
  remove_words z b k q r h e =
      let m : List Zone = zones_in w in
      ap (λ (l : List ℕ). set l 0 (n - 1)) (e ∙ ap₂ (λ (i j : ℕ). closed w i zone_words j) q r)
      ∙ ap₂ (λ (l : List ℕ) (c : ℕ). set (closed l (zone_base z) zone_words (zone_base c)) 0 (c - 1))
      (p.words ∙ whole m) en
      ∙ ap (λ (l : List ℕ). set l 0 (length m - 1))
      (closed_used most_zones no_zone words_of_zone zone_words zone_wide zero_zone_law m p.within.zones [] [] 0 refl
      (zone_base z) (omega arith))
      ∙ cut_counted most_zones no_zone words_of_zone zone_words zone_wide [] [] 0 refl m z h p.within.zones zero_zone_law
      ∙ sym (whole (remove_at z m))

  pub add_words : (id b : ℕ) → b ≡ zone_base n → length (zones_in w) < most_zones → u ≡ set w b id
      → set u 0 (n + 1) ≡ words_of (added id (zones_in w))
  unfolding added
  add_words id b q h e =
      let m : List Zone = zones_in w in
      let y : Zone = record { id = id; cpu = []; iommu = [] } in
      let a : List ℕ = free_before most_zones no_zone words_of_zone zone_words zone_wide [] [] 0 refl m in
      let c : List ℕ = free_after most_zones no_zone words_of_zone zone_words zone_wide [] [] 0 refl m in
      let f : w ≡ a ++ (words_of_zone no_zone ++ c) =
      p.words ∙ whole m ∙ free_at most_zones no_zone words_of_zone zone_words zone_wide [] [] 0 refl m h in
      ap (λ (l : List ℕ). set l 0 (n + 1)) (e ∙ ap (λ (k : ℕ). set w k id) q)
      ∙ ap₂ (λ (l : List ℕ) (k : ℕ). set (set l (1 + k * zone_words) id) 0 (k + 1)) f en
      ∙ ap (λ (l : List ℕ). set l 0 (length m + 1))
      (named a c id (1 + length m * zone_words)
      (length_free most_zones no_zone words_of_zone zone_words zone_wide [] [] 0 refl m))
      ∙ fill_free most_zones no_zone words_of_zone zone_words zone_wide [] [] 0 refl m y h
      ∙ sym (whole (m ++ y ∷ []))

-- the zones that are there end within the words; a set of one of them is within limits
pub zones_fit : (w : List ℕ) (n k : ℕ) → Packed w → n ≡ length (zones_in w) → k ≡ zone_base n → k ≤ length w
zones_fit w n k p en ek = let few : length (zones_in w) ≤ most_zones = p.within.zones in omega (arith, packed_long w p)

pub set_few : (w : List ℕ) (z : ℕ) (s : Side) → Packed w → z < length (zones_in w) → length (set_in w z s) ≤ most_in_set
set_few w z s p h = rw (set_in_law w z s h) at (p.within.sets z s h)
