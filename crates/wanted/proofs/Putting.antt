-- A stretch is put row by row, one behind the other: what each region, set or zone gives in turn. One law of such loops
-- serves all three.
use Prim.Native.Nat.{ℕ, ◌+◌, ◌*◌, ◌≤◌, ◌<◌}
use native.Mathlib.Omega.{arith}
use mathlib.Core.Bool.{Bool, true, false}
use mathlib.Core.List.{List, [], ◌∷◌, ◌++◌, flat_map, append-nil}
use mathlib.Core.Path.{◌≡◌, refl, sym, ap, ap₂, ◌∙◌}
use lib.ListN.{length, get_or}
use Rattle.lists.specs.Bytes.{bytes_of}
use Rattle.lists.specs.Places.{places, tab}
use Rattle.lists.proofs.Places.{length_tab, tab_last}
use Rattle.lists.proofs.Words.{flat_append}
use Rattle.formats.specs.Formats.{write_many, write_both}
use Rattle.formats.proofs.Formats.{many_append}
use Rattle.puts.specs.Pens.{Wrote}
use Rattle.puts.specs.declared.pen.Pen.{Pen}
use Rattle.puts.proofs.Pens.{wrote_as, wrote_both, wrote_none}
use Rattle.rules.specs.Changes.{region_set}
use Rattle.rules.specs.Fields.{numbers_of}
use Rattle.rules.specs.Limits.{most_zones}
use Rattle.rules.specs.Plan.{asked_field, Asked}
use Rattle.rules.specs.Regions.{no_region}
use Rattle.rules.specs.Requests.{find, held_in}
use Rattle.rules.specs.Tables.{side_of, Zone}
use Rattle.rules.specs.Wanted.{requests_for, records_of}
use Rattle.rules.specs.declared.Region.{Region}
use Rattle.rules.specs.declared.Side.TheVariants.{Cpu, Iommu}
use Rattle.zones.specs.Layout.{region_words, set_words, table_words, zone_start}
use Rattle.zones.specs.Records.{region_at, record_at, records_at}
use Rattle.zones.specs.View.{zone_in, zones_in}
use Rattle.wanted.specs.Wanted.{numbers, lacked, set_asked, sets_asked, zone_asked, regions_asked, missed}
use Rattle.wanted.specs.declared.list.Change.{Change}
use Rattle.wanted.specs.declared.list.Change.TheVariants.{Comes, Goes}
use Rattle.wanted.specs.Wanted.{zone_kind, region_kind, missed_zone, zones_asked, set_from, start_of, InLimits}
use Rattle.wanted.proofs.Looking.{iommu_word, start_tells, end_tells, own_set_law, found_set}
use Rattle.wanted.proofs.Stretches.{list_bytes_law}

-- ---- rows, each of them what h gives at f i
many_flat : {A : Type 0} (h : A → List Asked) (xs : List A)
    → write_many asked_field (flat_map h xs) ≡ flat_map (λ (x : A). write_many asked_field (h x)) xs
unfolding write_many flat_map
many_flat h [] = refl
many_flat h (x ∷ xs) =
    many_append asked_field (h x) (flat_map h xs)
    ∙ ap (λ (l : List ℕ). write_many asked_field (h x) ++ l) (many_flat h xs)

module _ {A : Type 0} (f : ℕ → A) (h : A → List Asked) where
  pub rows_none : (p : Pen) → Wrote p p (write_many asked_field (flat_map h (tab 0 f)))
  unfolding write_many flat_map tab places
  rows_none p = wrote_none p

  pub rows_on : (p q r : Pen) (i : ℕ) → Wrote p q (write_many asked_field (flat_map h (tab i f)))
      → Wrote q r (write_many asked_field (h (f i))) → Wrote p r (write_many asked_field (flat_map h (tab (i + 1) f)))
  unfolding flat_map
  rows_on p q r i x y =
      let g : A → List ℕ = λ (x : A). write_many asked_field (h x) in
      let one : write_many asked_field (flat_map h (tab (i + 1) f))
      ≡ write_many asked_field (flat_map h (tab i f)) ++ write_many asked_field (h (f i)) =
      many_flat h (tab (i + 1) f) ∙ ap (flat_map g) (tab_last i f) ∙ flat_append g (tab i f) (f i ∷ [])
      ∙ ap₂ (λ (x y : List ℕ). x ++ y) (sym (many_flat h (tab i f))) (append-nil (g (f i))) in
      wrote_as p r _ _ (sym one) (wrote_both p q r _ _ x y)

  pub rows_end : (p q : Pen) (i n m : ℕ) → Wrote p q (write_many asked_field (flat_map h (tab i f))) → i ≤ n → n ≤ i
      → n ≡ m → Wrote p q (write_many asked_field (flat_map h (tab m f)))
  rows_end p q i n m x a b e =
      let g : i ≡ m = omega arith in wrote_as p q _ _ (ap (λ (j : ℕ). write_many asked_field (flat_map h (tab j f))) g) x

-- ---- one request
pub request_put : (p a b c d f q : Pen) (kind id : ℕ) (r : Region) → Wrote p a (bytes_of 4 kind)
    → Wrote a b (bytes_of 4 id) → Wrote b c (bytes_of 8 r.v.0) → Wrote c d (bytes_of 8 r.p.0)
    → Wrote d f (bytes_of 8 r.size) → Wrote f q (bytes_of 8 r.rights.0)
    → Wrote p q (write_many asked_field (numbers kind id r ∷ []))
unfolding write_many write_both numbers_of
request_put p a b c d f q kind id r ea eb ec ed ef eq =
    wrote_as p q _ _ (sym (append-nil (asked_field.write (numbers kind id r))))
    (wrote_both p a q _ _ ea (wrote_both a b q _ _ eb (wrote_both b c q _ _ ec (wrote_both c d q _ _ ed
    (wrote_both d f q _ _ ef (wrote_both f q q _ _ eq (wrote_none q)))))))

-- ---- a region, or none
module _ (kind id : ℕ) (ys : List Region) (r : Region) (t : Bool) (e : t ≡ held_in r ys) where
  pub held_put : (p : Pen) → t ≡ true → Wrote p p (write_many asked_field (lacked kind id ys r))
  unfolding lacked write_many
  held_put p h = rw (sym e ∙ h) (wrote_none p)

  pub lacked_put : (p q : Pen) → t ≡ false → Wrote p q (write_many asked_field (numbers kind id r ∷ []))
      → Wrote p q (write_many asked_field (lacked kind id ys r))
  unfolding lacked
  lacked_put p q h x = rw (sym e ∙ h) x

-- ---- those of a set
pub set_on : (p q s : Pen) (from : List ℕ) (kind id k i : ℕ) (ys : List Region) (r : Region)
    → Wrote p q (write_many asked_field (flat_map (lacked kind id ys) (tab i (record_at from (k + 1)))))
    → r ≡ region_at from (k + 1 + i * region_words) → Wrote q s (write_many asked_field (lacked kind id ys r))
    → Wrote p s (write_many asked_field (flat_map (lacked kind id ys) (tab (i + 1) (record_at from (k + 1)))))
unfolding record_at
set_on p q s from kind id k i ys r x e y =
    rows_on (record_at from (k + 1)) (lacked kind id ys) p q s i x
    (wrote_as q s _ _ (ap (λ (x : Region). write_many asked_field (lacked kind id ys x)) e) y)

pub set_end : (p q : Pen) (from : List ℕ) (kind id k i n : ℕ) (ys : List Region)
    → Wrote p q (write_many asked_field (flat_map (lacked kind id ys) (tab i (record_at from (k + 1))))) → i ≤ n → n ≤ i
    → n ≡ get_or from k 0 → Wrote p q (write_many asked_field (set_asked kind id (set_from from k) ys))
unfolding set_asked set_from records_at
set_end p q from kind id k i n ys x a b e =
    rows_end (record_at from (k + 1)) (lacked kind id ys) p q i n (get_or from k 0) x a b e

-- where its sets stand
pub set_where : (p q : Pen) (m n id : ℕ) (f g t u : List ℕ) (a b c d : ℕ) → m ≡ n → f ≡ g → a ≡ b → t ≡ u → c ≡ d
    → Wrote p q (write_many asked_field (set_asked m id (set_from f a) (set_from t c)))
    → Wrote p q (write_many asked_field (set_asked n id (set_from g b) (set_from u d)))
set_where p q m n id f g t u a b c d em ef ea et ec =
    wrote_as p q _ _ (λ i. write_many asked_field (set_asked (em i) id (set_from (ef i) (ea i)) (set_from (et i) (ec i))))

-- ---- those of a zone
pub sets_put : (p q r : Pen) (from to : List ℕ) (x : Change) (id k j : ℕ)
    → Wrote p q (write_many asked_field (set_asked (region_kind x Cpu) id (set_from from (k + 1)) (set_from to (j + 1))))
    → Wrote q r (write_many asked_field (set_asked (region_kind x Iommu) id (set_from from (k + 1 + set_words))
    (set_from to (j + 1 + set_words))))
    → Wrote p r (write_many asked_field (sets_asked x id from k to j))
unfolding sets_asked
sets_put p q r from to x id k j a b = wrote_as p r _ _ (sym (many_append asked_field _ _)) (wrote_both p q r _ _ a b)

module _ (from to : List ℕ) (x : Change) (id z k j : ℕ) (ok : InLimits from) (h : z < length (zones_in from))
    (ek : k ≡ zone_start z) (ei : id ≡ (zone_in from z).id) (ok' : InLimits to) (long : length to ≡ table_words)
    (ej : j ≡ start_of to id) where
  sets_zone : sets_asked x id from k to j ≡ zone_asked x (zones_in to) (zone_in from z)
  unfolding sets_asked zone_asked
  sets_zone =
      let few : length (zones_in from) ≤ most_zones = ok.within.zones in
      let l : z < most_zones = omega arith in
      ap₂ (λ (x y : List Asked). x ++ y)
      (ap₂ (set_asked (region_kind x Cpu) id) (own_set_law from z k Cpu ek l) (found_set to ok' long id j ej Cpu))
      (ap₂ (set_asked (region_kind x Iommu) id) (ap (set_from from) (sym (iommu_word k)) ∙ own_set_law from z k Iommu ek l)
      (ap (set_from to) (sym (iommu_word j)) ∙ found_set to ok' long id j ej Iommu))
      ∙ ap (λ (n : ℕ). set_asked (region_kind x Cpu) n (side_of Cpu (zone_in from z)) (region_set (zones_in to) (find n (zones_in to)) Cpu)
      ++ set_asked (region_kind x Iommu) n (side_of Iommu (zone_in from z)) (region_set (zones_in to) (find n (zones_in to)) Iommu)) ei

  pub zone_put : (p q : Pen) → Wrote p q (write_many asked_field (sets_asked x id from k to j))
      → Wrote p q (write_many asked_field (zone_asked x (zones_in to) (zone_in from z)))
  zone_put p q w = wrote_as p q _ _ (ap (write_many asked_field) sets_zone) w

-- ---- those of all zones
module _ (p q : Pen) (w : List ℕ) (x : Change) (z n : ℕ) (t : List Zone) where
  pub regions_end : Wrote p q (write_many asked_field (flat_map (zone_asked x t) (tab z (zone_in w)))) → z ≤ n → n ≤ z
      → n ≡ length (zones_in w) → Wrote p q (write_many asked_field (regions_asked x (zones_in w) t))
  unfolding regions_asked zones_in
  regions_end y a b e =
      rows_end (zone_in w) (zone_asked x t) p q z n (get_or w 0 0) y a b (e ∙ length_tab (get_or w 0 0) (zone_in w))

  pub zones_end_law : Wrote p q (write_many asked_field (flat_map (missed_zone x t) (tab z (zone_in w)))) → z ≤ n → n ≤ z
      → n ≡ length (zones_in w) → Wrote p q (write_many asked_field (zones_asked x (zones_in w) t))
  unfolding zones_asked zones_in
  zones_end_law y a b e =
      rows_end (zone_in w) (missed_zone x t) p q z n (get_or w 0 0) y a b (e ∙ length_tab (get_or w 0 0) (zone_in w))

-- ---- a zone, or none
module _ (kind id k : ℕ) (to : List ℕ) (e : k ≡ start_of to id) where
  pub there_put : (p : Pen) → k < table_words → Wrote p p (write_many asked_field (missed kind (zones_in to) id))
  unfolding missed write_many
  there_put p h = rw (start_tells to id k e h) (wrote_none p)

  pub missed_put : (p q : Pen) → length (zones_in to) ≤ most_zones → table_words ≤ k
      → Wrote p q (write_many asked_field (numbers kind id no_region ∷ []))
      → Wrote p q (write_many asked_field (missed kind (zones_in to) id))
  unfolding missed
  missed_put p q few h x = rw (end_tells to id k e few h) x

pub zones_on : (p q r : Pen) (w : List ℕ) (x : Change) (kind id z : ℕ) (t : List Zone)
    → Wrote p q (write_many asked_field (flat_map (missed_zone x t) (tab z (zone_in w)))) → kind ≡ zone_kind x
    → id ≡ (zone_in w z).id → Wrote q r (write_many asked_field (missed kind t id))
    → Wrote p r (write_many asked_field (flat_map (missed_zone x t) (tab (z + 1) (zone_in w))))
unfolding missed_zone
zones_on p q r w x kind id z t a ek ei b =
    rows_on (zone_in w) (missed_zone x t) p q r z a
    (wrote_as q r _ _ (ap₂ (λ (k n : ℕ). write_many asked_field (missed k t n)) ek ei) b)

-- ---- the whole list
pub list_put : (p q r x y : Pen) (t w : List Zone) → Wrote p q (write_many asked_field (regions_asked Goes t w))
    → Wrote q r (write_many asked_field (zones_asked Goes t w)) → Wrote r x (write_many asked_field (zones_asked Comes w t))
    → Wrote x y (write_many asked_field (regions_asked Comes w t)) → Wrote p y (records_of (requests_for t w))
list_put p q r x y t w a b c d =
    wrote_as p y _ _ (sym (list_bytes_law t w))
    (wrote_both p q y _ _ a (wrote_both q r y _ _ b (wrote_both r x y _ _ c d)))
