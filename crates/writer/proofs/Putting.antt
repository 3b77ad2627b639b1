-- Each section is put part by part, one behind the other, and is then what the format writes.
use Prim.Native.Nat.{ℕ, ◌+◌, ◌-◌, ◌*◌, ◌/◌, ◌^◌, ◌≤◌, ◌<◌}
use native.Mathlib.Omega.{arith}
use mathlib.Core.Bool.{true}
use mathlib.Core.List.{List, [], ◌∷◌, ◌++◌}
use mathlib.Core.Path.{◌≡◌, refl, sym, ap, ap₂, subst, ◌∙◌}
use borrow.Author.Tests.{leb-true}
use Rattle.std.proofs.lemmas.List.{take_all}
use lib.ListN.{length, get_or, take, drop, length-take}
use Rattle.lists.specs.Bytes.{bytes_of, Bytes}
use Rattle.lists.specs.Places.{places, tab}
use Rattle.lists.specs.Words.{part}
use Rattle.lists.proofs.Every.{all_at}
use Rattle.lists.proofs.Places.{length_tab, get_d_tab, tab_last}
use Rattle.lists.proofs.Tests.{parts}
use Rattle.lists.proofs.Words.{part_last}
use Rattle.formats.specs.Formats.{write_many, write_both, write_headed}
use Rattle.formats.proofs.Formats.{many_append, many_one}
use Rattle.puts.specs.Pens.{Wrote}
use Rattle.puts.specs.Puts.{Put}
use Rattle.puts.specs.declared.pen.Pen.{Pen}
use Rattle.puts.proofs.Pens.{wrote_as, wrote_both, wrote_none}
use Rattle.rules.specs.Differing.{zones_bytes}
use Rattle.rules.specs.Limits.{most_regions, most_zones, most_in_set, highest_id, limits}
use Rattle.rules.specs.Plan.{long, marks_section, regions_section, set_format, zone_format}
use Rattle.rules.specs.Plan.{zones_section, requests_section, encode}
use Rattle.rules.specs.Run.{request_size}
use Rattle.rules.specs.Tables.{no_zone, sound_zone, table_of, Zone}
use Rattle.rules.specs.Writer.{asked_of}
use Rattle.rules.specs.declared.Region.{Region}
use Rattle.rules.specs.declared.Side.TheVariants.{Cpu, Iommu}
use Rattle.rules.proofs.Keeps.{sound_parts, SoundTable}
use Rattle.rules.proofs.Stored.{stands_well}
use Rattle.zones.specs.Decide.{Ready}
use Rattle.zones.specs.Kept.{Stands}
use Rattle.zones.specs.Layout.{region_words, set_words, table_words, config_words, config_count, config_gic}
use Rattle.zones.specs.Layout.{config_records, zone_base, zone_start, set_base}
use Rattle.zones.specs.Records.{records_at}
use Rattle.zones.specs.View.{stored_config, stored_table, config_in, set_in, zone_in, zones_in, ConfigPassed}
use Rattle.zones.proofs.ConfigReaders.{count_is, gic_is, regions_in}
use Rattle.zones.proofs.Readers.{count_word, len_word, start_is}
use Rattle.zones.proofs.Stepping.{stands_same, stands_ready}
use Rattle.zones.proofs.Writers.{set_few}
use Rattle.writer.specs.Writer.{plan_in, set_bytes, zone_bytes, SetFits, ZoneAt, TableFits}
use Rattle.writer.proofs.Bytes.{records_longs, set_written, asked_bytes, asked_many}

-- ---- marks
pub marks_put : (p q r x y : Pen) (gic e : ℕ) → Wrote p q (bytes_of 4 3) → Wrote q r (bytes_of 4 gic)
    → Wrote r x (bytes_of 4 e) → Wrote x y (bytes_of 4 2)
    → Wrote p y ((marks_section limits).write (record { gic = gic; edition = e }))
unfolding write_headed write_both
marks_put p q r x y gic e a b c d =
    wrote_both p q y _ _ a (wrote_both q r y _ _ b (wrote_both r x y _ _ c (wrote_both x y y _ _ d (wrote_none y))))

-- ---- words, 8 bytes each
take_last : (i : ℕ) (l : List ℕ) (d : ℕ) → i < length l → take (i + 1) l ≡ take i l ++ get_or l i d ∷ []
unfolding part
take_last i l d h =
    let e : 0 + i ≡ i = omega arith in part_last 0 i l d (omega arith) ∙ ap (λ (j : ℕ). take i l ++ get_or l j d ∷ []) e

pub longs_none : (p : Pen) (w : List ℕ) → Wrote p p (write_many long (take 0 w))
unfolding write_many
longs_none p w = wrote_none p

pub longs_on : (p q r : Pen) (w : List ℕ) (i : ℕ) → Wrote p q (write_many long (take i w))
    → Wrote q r (bytes_of 8 (get_or w i 0)) → i < length w → Wrote p r (write_many long (take (i + 1) w))
longs_on p q r w i a b h =
    wrote_as p r _ _
    (sym (ap (write_many long) (take_last i w 0 h) ∙ many_append long (take i w) (get_or w i 0 ∷ [])
    ∙ ap (λ (l : List ℕ). write_many long (take i w) ++ l) (many_one long (get_or w i 0))))
    (wrote_both p q r _ _ a b)

pub longs_end : (p q : Pen) (w : List ℕ) (i : ℕ) → Wrote p q (write_many long (take i w)) → length w ≤ i
    → Wrote p q (write_many long w)
longs_end p q w i a h = wrote_as p q _ _ (ap (write_many long) (take_all i w h)) a

-- ---- a set
pub set_put : (p q r : Pen) (w : List ℕ) (k a e : ℕ) → SetFits w k a → e ≡ a + get_or w k 0 * region_words
    → Wrote p q (bytes_of 4 (get_or w k 0)) → Wrote q r (write_many long (take (e - a) (drop a w)))
    → Wrote p r (set_bytes w k a)
unfolding set_bytes part
set_put p q r w k a e fits f x y =
    let n : e - a ≡ get_or w k 0 * region_words = omega arith in
    wrote_both p q r _ _ x
    (wrote_as q r _ _
    (ap (λ (j : ℕ). write_many long (take j (drop a w))) n ∙ records_longs w a (get_or w k 0) fits.inside) y)

-- ---- a zone
module _ (w : List ℕ) (z : ℕ) where
  cpu_bytes : (set_format limits).write (set_in w z Cpu) ≡ set_bytes w (zone_base z + 1) (zone_base z + 2)
  unfolding set_in set_base
  cpu_bytes =
      let e : zone_base z + 1 + 1 ≡ zone_base z + 2 = omega arith in
      ap (λ (a : ℕ). (set_format limits).write (records_at w a (get_or w (zone_base z + 1) 0))) e
      ∙ sym (set_written w (zone_base z + 1) (zone_base z + 2) 0 most_in_set)

  iommu_bytes : (set_format limits).write (set_in w z Iommu)
      ≡ set_bytes w (zone_base z + 1 + set_words) (zone_base z + 2 + set_words)
  unfolding set_in set_base
  iommu_bytes =
      let k : zone_base z + (1 + set_words) ≡ zone_base z + 1 + set_words = omega arith in
      let e : zone_base z + (1 + set_words) + 1 ≡ zone_base z + 2 + set_words = omega arith in
      ap₂ (λ (a b : ℕ). (set_format limits).write (records_at w a (get_or w b 0))) e k
      ∙ sym (set_written w (zone_base z + 1 + set_words) (zone_base z + 2 + set_words) 0 most_in_set)

  base : (k : ℕ) → k ≡ zone_start z → z < most_zones → k ≡ zone_base z
  base k e h = start_is z k e h

  pub zone_there : (k : ℕ) → k ≡ zone_start z → z < most_zones → ZoneAt w (zone_base z) → ZoneAt w k
  zone_there k e h = subst (ZoneAt w) (sym (base k e h))

  pub zone_written : (p q : Pen) (k : ℕ) → k ≡ zone_start z → z < most_zones → Wrote p q (zone_bytes w k)
      → Wrote p q ((zone_format limits).write (zone_in w z))
  unfolding zone_in write_both zone_bytes
  zone_written p q k e h a =
      wrote_as p q _ _
      (ap (zone_bytes w) (base k e h)
      ∙ ap₂ (λ (l m : List ℕ). bytes_of 4 (get_or w (zone_base z) 0) ++ (l ++ m)) (sym cpu_bytes) (sym iommu_bytes)) a

pub zone_put : (p q r x : Pen) (w : List ℕ) (k : ℕ) → Wrote p q (bytes_of 4 (get_or w k 0))
    → Wrote q r (set_bytes w (k + 1) (k + 2)) → Wrote r x (set_bytes w (k + 1 + set_words) (k + 2 + set_words))
    → Wrote p x (zone_bytes w k)
unfolding zone_bytes
zone_put p q r x w k a b c = wrote_both p q x _ _ a (wrote_both q r x _ _ b c)

-- ---- zones
pub zones_none : (p : Pen) (w : List ℕ) → Wrote p p (write_many (zone_format limits) (tab 0 (zone_in w)))
unfolding write_many tab places
zones_none p w = wrote_none p

pub zones_on : (p q r : Pen) (w : List ℕ) (z : ℕ) → Wrote p q (write_many (zone_format limits) (tab z (zone_in w)))
    → Wrote q r ((zone_format limits).write (zone_in w z))
    → Wrote p r (write_many (zone_format limits) (tab (z + 1) (zone_in w)))
zones_on p q r w z a b =
    wrote_as p r _ _
    (sym (ap (write_many (zone_format limits)) (tab_last z (zone_in w))
    ∙ many_append (zone_format limits) (tab z (zone_in w)) (zone_in w z ∷ [])
    ∙ ap (λ (l : List ℕ). write_many (zone_format limits) (tab z (zone_in w)) ++ l) (many_one (zone_format limits) (zone_in w z))))
    (wrote_both p q r _ _ a b)

pub zones_end_law : (p q : Pen) (w : List ℕ) (z n : ℕ) → Wrote p q (write_many (zone_format limits) (tab z (zone_in w)))
    → z ≤ n → n ≤ z → Wrote p q (write_many (zone_format limits) (tab n (zone_in w)))
zones_end_law p q w z n a h k =
    let e : z ≡ n = omega arith in
    wrote_as p q _ _ (ap (λ (j : ℕ). write_many (zone_format limits) (tab j (zone_in w))) e) a

pub zones_put : (p q r : Pen) (w : List ℕ) → Wrote p q (bytes_of 4 (get_or w 0 0))
    → Wrote q r (write_many (zone_format limits) (tab (get_or w 0 0) (zone_in w)))
    → Wrote p r ((zones_section limits).write (zones_in w))
unfolding zones_in write_headed
zones_put p q r w a b =
    wrote_both p q r _ _
    (wrote_as p q _ _ (ap (bytes_of 4) (sym (length_tab (get_or w 0 0) (zone_in w)))) a) b

-- ---- requests
-- (the bytes of all that are wholly there)
pub whole_long : (r : List ℕ)
    → length r / request_size * request_size ≡ length (take (length r / request_size * request_size) r)
whole_long r = omega (arith, length-take (length r / request_size * request_size) r)

pub requests_put : (p q r : Pen) (b : List ℕ) (n : ℕ) → Bytes b → n ≡ length b / request_size → Wrote p q (bytes_of 4 n)
    → Wrote q r (take (n * request_size) b) → Wrote p r ((requests_section limits).write (asked_of b))
unfolding write_headed
requests_put p q r b n bytes e x y =
    wrote_both p q r _ _ (wrote_as p q _ _ (ap (bytes_of 4) (e ∙ sym (asked_many b))) x)
    (wrote_as q r _ _ (ap (λ (j : ℕ). take (j * request_size) b) e ∙ sym (asked_bytes b bytes)) y)

-- ---- a state that stands can be written
module _ (c t : List ℕ) (ok : Stands c t) where
  passed : ConfigPassed c
  passed = (stands_well limits (stored_config c) (stored_table t) ok).0

  pub gic_fits : get_or c config_gic 0 < 256 ^ 4
  gic_fits = let h : get_or c config_gic 0 < most_regions = (gic_is c passed).1 in omega arith

  pub regions_few : get_or c config_count 0 ≤ most_regions
  regions_few = (count_is c passed).1

  pub config_fits : config_words ≤ length c → SetFits c config_count config_records
  config_fits l =
      let h : get_or c config_count 0 ≤ most_regions = regions_few in
      record { here = omega arith; few = h; inside = omega arith }

  module _ (long : length t ≡ table_words) (z : ℕ) (h : z < length (zones_in t)) where
    ready : Ready c t
    ready = stands_ready c t _ refl ok long

    zone_sound : sound_zone limits (config_in c) (zone_in t z) ≡ true
    unfolding zones_in
    zone_sound =
        let s : SoundTable limits (config_in c) (zones_in t) = sound_parts limits (config_in c) (zones_in t) ready.table in
        let e : get_or (tab (get_or t 0 0) (zone_in t)) z no_zone ≡ zone_in t z =
        get_d_tab (get_or t 0 0) (zone_in t) z no_zone (omega (arith, length_tab (get_or t 0 0) (zone_in t))) in
        ap (sound_zone limits (config_in c)) (sym e) ∙ all_at (sound_zone limits (config_in c)) (zones_in t) no_zone s.zones z h

    pub zone_fits : ZoneAt t (zone_base z)
    unfolding sound_zone zone_in set_base
    zone_fits =
        let few : length (zones_in t) ≤ most_zones = ready.words.within.zones in
        let i : get_or t (zone_base z) 0 ≤ highest_id = leb-true _ _ (parts _ zone_sound).0 in
        let a : get_or t (zone_base z + 1) 0 ≤ most_in_set =
        omega (arith, len_word t z Cpu (zone_base z + 1) refl, set_few t z Cpu ready.words h) in
        let k : zone_base z + (1 + set_words) ≡ zone_base z + 1 + set_words = omega arith in
        let b : get_or t (zone_base z + 1 + set_words) 0 ≤ most_in_set =
        omega (arith, len_word t z Iommu (zone_base z + 1 + set_words) (sym k), set_few t z Iommu ready.words h) in
        record {
          here = omega arith;
          id = omega arith;
          cpu = record { here = omega arith; few = omega arith; inside = omega arith };
          cpu_few = a;
          iommu = record { here = omega arith; few = omega arith; inside = omega arith };
          iommu_few = b;
        }

  pub table_fits : length t ≡ table_words → TableFits t
  table_fits long =
      let few : length (zones_in t) ≤ most_zones = (stands_ready c t _ refl ok long).words.within.zones in
      record {
        here = omega arith;
        few = omega (arith, count_word t);
        zones = λ z h. zone_fits long z (omega (arith, count_word t));
      }

  -- ---- the zones alone
  pub zones_whole : (s v : List ℕ) (at f : ℕ) → Put s at ((zones_section limits).write (zones_in t)) v f
      → Put s at (zones_bytes limits (stored_table t)) v f
  zones_whole s v at f p =
      subst (λ (l : List Zone). Put s at ((zones_section limits).write l) v f) (stands_same c t _ refl ok) p

  -- ---- the whole plan
  pub plan_put : (e : ℕ) (r : List ℕ) (p u v x y : Pen)
      → Wrote p u ((marks_section limits).write (record { gic = get_or c config_gic 0; edition = e }))
      → Wrote u v (set_bytes c config_count config_records) → Wrote v x ((zones_section limits).write (zones_in t))
      → Wrote x y ((requests_section limits).write (asked_of r)) → Wrote p y (plan_in c t e r)
  unfolding encode write_both
  plan_put e r p u v x y m g z q =
      let gic : get_or c config_gic 0 ≡ (config_in c).gic = (gic_is c passed).0 in
      let count : get_or c config_count 0 ≡ length (config_in c).regions = (count_is c passed).0 in
      let regions : set_bytes c config_count config_records ≡ (regions_section limits).write (config_in c).regions =
      set_written c config_count config_records 1 most_regions
      ∙ ap (λ (n : ℕ). (regions_section limits).write (records_at c config_records n)) count
      ∙ ap (λ (l : List Region). (regions_section limits).write l) (sym (regions_in c passed)) in
      let zones : zones_in t ≡ table_of (stored_table t) = stands_same c t _ refl ok in
      wrote_as p y _ _
      (λ i. (marks_section limits).write (record { gic = gic i; edition = e })
      ++ (regions i ++ ((zones_section limits).write (zones i) ++ (requests_section limits).write (asked_of r))))
      (wrote_both p u y _ _ m (wrote_both u v y _ _ g (wrote_both v x y _ _ z q)))
