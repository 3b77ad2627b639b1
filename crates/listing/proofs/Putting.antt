-- Lines are put field by field, sets line by line and zones set by set, one behind the other.
use Prim.Native.Nat.{ℕ, ◌+◌, ◌*◌, ◌/◌, ◌≤◌, ◌<◌}
use native.Mathlib.Omega.{arith}
use mathlib.Core.List.{List, [], ◌∷◌, ◌++◌, flat_map, append_assoc, append-nil}
use mathlib.Core.Path.{◌≡◌, sym, ap, ◌∙◌}
use lib.IntN.{ℤ, sub_ℕ}
use lib.ListN.{get_or}
use Rattle.lists.specs.Places.{places, tab}
use Rattle.lists.proofs.Places.{tab_last}
use Rattle.lists.proofs.Words.{flat_append}
use Rattle.formats.specs.Texts.{decimal, signed, hex, space, line_feed, line_of}
use Rattle.puts.specs.Pens.{Wrote}
use Rattle.puts.specs.declared.pen.Pen.{Pen}
use Rattle.puts.proofs.Pens.{wrote_as, wrote_both, wrote_none}
use Rattle.rules.specs.Limits.{most_zones, limits}
use Rattle.rules.specs.Listing.{shift, side_word, fields_of, line, set_lines, zone_lines, listing}
use Rattle.rules.specs.declared.Side.{Side}
use Rattle.rules.specs.declared.Side.TheVariants.{Cpu, Iommu}
use Rattle.zones.specs.Layout.{region_words, set_words, zone_base, zone_start, set_base}
use Rattle.zones.specs.Records.{region_at, record_at, records_at}
use Rattle.zones.specs.View.{set_in, zone_in, zones_in}
use Rattle.zones.proofs.Readers.{start_is}
use Rattle.listing.specs.Lines.{last_fields, number_fields, lines_at}

-- ---- a line
-- a field and a space, and the fields behind it
field_on : (p q r : Pen) (x y : List ℕ) (ys : List (List ℕ)) → Wrote p q (x ++ (space ∷ [])) → Wrote q r (line_of (y ∷ ys))
    → Wrote p r (line_of (x ∷ y ∷ ys))
unfolding line_of
field_on p q r x y ys a b =
    wrote_as p r _ _ (append_assoc x (space ∷ []) (line_of (y ∷ ys))) (wrote_both p q r _ _ a b)

pub last_put : (p q r : Pen) (w : List ℕ) (k : ℕ) (n : ℤ) → Wrote p q (decimal (get_or w (k + 3) 0) ++ (space ∷ []))
    → n ≡ sub_ℕ (get_or w (k + 1) 0 / 4096) (get_or w k 0 / 4096) → Wrote q r (signed n ++ (line_feed ∷ []))
    → Wrote p r (last_fields (region_at w k))
unfolding last_fields line_of region_at shift
last_put p q r w k n a en b =
    let z : k + 0 ≡ k = omega arith in
    field_on p q r (decimal (get_or w (k + 3) 0)) (signed (shift limits.page (region_at w k))) [] a
    (wrote_as q r _ _
    (ap (λ (d : ℤ). signed d ++ (line_feed ∷ []))
    (en ∙ ap (λ (j : ℕ). sub_ℕ (get_or w (k + 1) 0 / 4096) (get_or w j 0 / 4096)) (sym z))) b)

pub numbers_put : (p q r s x : Pen) (w : List ℕ) (k : ℕ) → Wrote p q (hex (get_or w k 0) ++ (space ∷ []))
    → Wrote q r (hex (get_or w (k + 1) 0) ++ (space ∷ [])) → Wrote r s (hex (get_or w (k + 2) 0) ++ (space ∷ []))
    → Wrote s x (last_fields (region_at w k)) → Wrote p x (number_fields (region_at w k))
unfolding number_fields last_fields region_at
numbers_put p q r s x w k a b c d =
    let z : k + 0 ≡ k = omega arith in
    field_on p q x (hex (get_or w (k + 0) 0)) _ _ (wrote_as p q _ _ (ap (λ (j : ℕ). hex (get_or w j 0) ++ (space ∷ [])) (sym z)) a)
    (field_on q r x (hex (get_or w (k + 1) 0)) _ _ b (field_on r s x (hex (get_or w (k + 2) 0)) _ _ c d))

pub line_put : (p q r s : Pen) (w : List ℕ) (id k : ℕ) (side : Side) → Wrote p q (decimal id ++ (space ∷ []))
    → Wrote q r (side_word side ++ (space ∷ [])) → Wrote r s (number_fields (region_at w k))
    → Wrote p s (line limits id side (region_at w k))
unfolding fields_of number_fields
line_put p q r s w id k side a b c = field_on p q s (decimal id) _ _ a (field_on q r s (side_word side) _ _ b c)

-- ---- a set
module _ (w : List ℕ) (id a : ℕ) (side : Side) where
  abbrev lines : ℕ → List ℕ
  lines i = set_lines limits id side (records_at w a i)

  pub set_none : (p : Pen) → Wrote p p (lines 0)
  unfolding records_at tab places flat_map
  set_none p = wrote_none p

  one_more_law : (i : ℕ) → lines i ++ line limits id side (region_at w (a + i * region_words)) ≡ lines (i + 1)
  unfolding records_at record_at flat_map
  one_more_law i =
      sym (ap (flat_map (line limits id side)) (tab_last i (record_at w a))
      ∙ flat_append (line limits id side) (tab i (record_at w a)) (record_at w a i ∷ [])
      ∙ ap (λ (b : List ℕ). lines i ++ b) (append-nil (line limits id side (record_at w a i))))

  pub set_on : (p q r : Pen) (i : ℕ) → Wrote p q (lines i) → Wrote q r (line limits id side (region_at w (a + i * region_words)))
      → Wrote p r (lines (i + 1))
  set_on p q r i x y = wrote_as p r _ _ (one_more_law i) (wrote_both p q r _ _ x y)

  pub set_end : (p q : Pen) (i n : ℕ) → Wrote p q (lines i) → i ≤ n → n ≤ i → Wrote p q (lines n)
  set_end p q i n x h k = let e : i ≡ n = omega arith in wrote_as p q _ _ (ap lines e) x

-- ---- a zone
pub zone_put : (p q r : Pen) (w : List ℕ) (k : ℕ)
    → Wrote p q (set_lines limits (get_or w k 0) Cpu (records_at w (k + 1 + 1) (get_or w (k + 1) 0)))
    → Wrote q r (set_lines limits (get_or w k 0) Iommu (records_at w (k + 1 + set_words + 1) (get_or w (k + 1 + set_words) 0)))
    → Wrote p r (lines_at w k)
unfolding lines_at
zone_put p q r w k a b = wrote_both p q r _ _ a b

module _ (w : List ℕ) (z : ℕ) where
  at_base : lines_at w (zone_base z) ≡ zone_lines limits (zone_in w z)
  unfolding lines_at zone_lines zone_in set_in set_base
  at_base =
      let b : zone_base z + 1 + set_words ≡ zone_base z + (1 + set_words) = omega arith in
      ap (λ (i : ℕ). set_lines limits (get_or w (zone_base z) 0) Cpu (records_at w (zone_base z + 1 + 1) (get_or w (zone_base z + 1) 0))
      ++ set_lines limits (get_or w (zone_base z) 0) Iommu (records_at w (i + 1) (get_or w i 0))) b

  pub zone_lines_law : (p q : Pen) (k : ℕ) → k ≡ zone_start z → z < most_zones → Wrote p q (lines_at w k)
      → Wrote p q (zone_lines limits (zone_in w z))
  zone_lines_law p q k ek h x = wrote_as p q _ _ (ap (lines_at w) (start_is z k ek h) ∙ at_base) x

-- ---- zones
module _ (w : List ℕ) where
  abbrev first : ℕ → List ℕ
  first z = listing limits (tab z (zone_in w))

  pub zones_none : (p : Pen) → Wrote p p (first 0)
  unfolding listing flat_map tab places
  zones_none p = wrote_none p

  zone_more : (z : ℕ) → first z ++ zone_lines limits (zone_in w z) ≡ first (z + 1)
  unfolding listing flat_map
  zone_more z =
      sym (ap (flat_map (zone_lines limits)) (tab_last z (zone_in w))
      ∙ flat_append (zone_lines limits) (tab z (zone_in w)) (zone_in w z ∷ [])
      ∙ ap (λ (b : List ℕ). first z ++ b) (append-nil (zone_lines limits (zone_in w z))))

  pub zones_on : (p q r : Pen) (z : ℕ) → Wrote p q (first z) → Wrote q r (zone_lines limits (zone_in w z))
      → Wrote p r (first (z + 1))
  zones_on p q r z x y = wrote_as p r _ _ (zone_more z) (wrote_both p q r _ _ x y)

  pub zones_end_law : (p q : Pen) (z : ℕ) → Wrote p q (first z) → z ≤ get_or w 0 0 → get_or w 0 0 ≤ z
      → Wrote p q (listing limits (zones_in w))
  unfolding zones_in
  zones_end_law p q z x h k = let e : z ≡ get_or w 0 0 = omega arith in wrote_as p q _ _ (ap first e) x
