-- Bytes held against words: what is put together passes exactly if each of its parts does, so the first part that does
-- not decides.
use Prim.Native.Nat.{ℕ, zero, suc, ◌+◌, ◌-◌, ◌*◌, ◌≤◌, ◌<◌}
use native.Mathlib.Omega.{arith}
use mathlib.Core.Bool.{Bool, true, false, cond, ◌&&◌}
use mathlib.Core.List.{List, [], ◌∷◌, map}
use mathlib.Core.Path.{◌≡◌, refl, sym, ap, ap₂, ◌∙◌}
use borrow.Author.Tests.{eq-eqb, ne_eqb}
use lib.Dec.{eqb}
use Rattle.std.proofs.Common.{Option, Some, None, is_some, Ok, Err}
use lib.ListN.{length, get_or, take, drop, length-drop}
use lib.Seq.{drop-drop}
use Rattle.std.specs.List.{list_all, range_with_len}
use Rattle.lists.specs.Bytes.{little}
use Rattle.lists.specs.First.{all}
use Rattle.lists.specs.Places.{places, tab}
use Rattle.lists.specs.Tests.{all_of}
use Rattle.lists.specs.Words.{part}
use Rattle.lists.proofs.Places.{length_tab}
use Rattle.lists.proofs.Tests.{false_of, all_miss, all_pass, all_last}
use Rattle.formats.specs.Formats.{Out, got, bad, left, then, read_number, read_count, read_many, read_headed}
use Rattle.formats.specs.Formats.{read_both, read_as, listed}
use Rattle.formats.proofs.Formats.{Part, many_got}
use Rattle.rules.specs.Applying.{same_list, same_zone}
use Rattle.rules.specs.Fields.{region_size, short_size}
use Rattle.rules.specs.Limits.{most_zones, limits}
use Rattle.rules.specs.Plan.{region_format, region_field, set_format, zone_to, zone_format, regions_section}
use Rattle.rules.specs.Plan.{RegionFits}
use Rattle.rules.specs.Regions.{region_eq}
use Rattle.rules.specs.Run.{region_in}
use Rattle.rules.specs.Tables.{Zone}
use Rattle.rules.specs.declared.Region.{Region}
use Rattle.rules.specs.declared.Side.TheVariants.{Iommu}
use Rattle.rules.proofs.Applying.{same_list_law, same_zone_law}
use Rattle.rules.proofs.Plan.{lawful_region_field, lawful_list}
use Rattle.rules.proofs.Regions.{equal_same}
use Rattle.zones.specs.Layout.{region_words, set_words, zone_base, zone_start, set_base, config_count, config_gic}
use Rattle.zones.specs.Layout.{config_records}
use Rattle.zones.specs.Records.{region_at, record_at, records_at, holds_at}
use Rattle.zones.specs.View.{set_in, zone_in, zones_in}
use Rattle.zones.proofs.Readers.{start_is}
use Rattle.zones.proofs.Records.{held_there}
use Rattle.zones.proofs.Running.{region_within}
use Rattle.plan.specs.Fields.{field_out, FieldRead}
use Rattle.plan.specs.Held.{two_sets, held_answer, same_record, holds_regions, holds_sets, config_held}
use Rattle.plan.specs.Held.{table_held}
use Rattle.plan.specs.Sections.{section_answer}
use Rattle.plan.specs.Told.{answer_by}
use Rattle.plan.specs.declared.refused.Refused.{Refused}
use Rattle.plan.proofs.Fields.{region_value, wide_region, in_bytes, field_is}
use Rattle.plan.proofs.Into.{count_most}
use Rattle.plan.proofs.Locating.{set_part, zone_part}
use Rattle.plan.proofs.Offsets.{place, part_in, end_within, ends_with}
use Rattle.plan.proofs.Passing.{Listed, list_read_law}

-- ---- one value
module _ {A : Type 0} (n : ℕ) (p : A → Bool) where
  held_passes : (o : Out A) (x : A) (t : List ℕ) → o ≡ got x t → p x ≡ true → held_answer n p o ≡ Some (n - length t)
  unfolding held_answer
  held_passes o x t e h = ap (held_answer n p) e ∙ ap (λ (b : Bool). cond b (Some (n - length t)) None) h

  held_fails : (o : Out A) (x : A) (t : List ℕ) → o ≡ got x t → p x ≡ false → held_answer n p o ≡ None
  unfolding held_answer
  held_fails o x t e h = ap (held_answer n p) e ∙ ap (λ (b : Bool). cond b (Some (n - length t)) None) h

  pub held_refused : (o : Out A) (e : ℕ × ℕ) → Err e ≡ section_answer n o → held_answer n p o ≡ None
  unfolding held_answer answer_by
  held_refused (got x t) e er = absurd (cc)
  held_refused (bad j t) e er = refl

-- what passed, and where it ends
module _ {A : Type 0} (s : List ℕ) (p : A → Bool) (o : Out A) (part : Part (left o) s) where
  pub record Passed (e : ℕ) : Type 0 where
    pub value : A
    pub read : o ≡ got value (drop e s)
    pub passes : p value ≡ true
    pub within : e ≤ length s

  passed : (e : ℕ) → Some e ≡ held_answer (length s) p o → Passed e
  unfolding held_answer left answer_by
  passed e f = by o refl part f
    where
      told : (x : A) (t : List ℕ) (b : Bool) → p x ≡ b → o ≡ got x t → Part t s
          → Some e ≡ cond b (Some (length s - length t)) None → Passed e
      told x t true h eo q g =
          let m : e ≡ length s - length t = cc in
          let ends : Ok e ≡ section_answer (length s) (got x t) = ap (λ (i : ℕ). Ok i) m in
          let (y, ey) = ends_with s (got x t) q e ends in
          let k : x ≡ y = cc in
          record {
            value = x;
            read = eo ∙ ey ∙ ap (λ (v : A). got v (drop e s)) (sym k);
            passes = h;
            within = end_within s (got x t) q e ends;
          }
      told x t false h eo q g = absurd (cc)

      by : (y : Out A) → o ≡ y → Part (left y) s → Some e ≡ held_answer (length s) p y → Passed e
      by (got x t) eo q g = told x t (p x) refl eo q g
      by (bad k t) eo q g = absurd (cc)

-- the value seen as another
held_as : {A B : Type 0} (n : ℕ) (p : B → Bool) (to : A → B) (o : Out A)
    → held_answer n (λ x. p (to x)) o ≡ held_answer n p (then o (λ x t. got (to x) t))
unfolding held_answer then
held_as n p to (got x t) = refl
held_as n p to (bad k t) = refl

-- ---- o and then what g reads, as one value
module _ {A B C : Type 0} (n : ℕ) (o : Out A) (g : List ℕ → Out B) (to : A → B → C) (p : A → Bool) (q : B → Bool)
    (r : C → Bool) (law : (x : A) (y : B) → r (to x y) ≡ (p x && q y)) where
  abbrev chained : Out C
  chained = then o (λ x u. then (g u) (λ y t. got (to x y) t))

  chain_other : held_answer n p o ≡ None → held_answer n r chained ≡ None
  unfolding held_answer then
  chain_other e = by o e
    where
      second : (x : A) (v : Out B) → p x ≡ false → held_answer n r (then v (λ y t. got (to x y) t)) ≡ None
      second x (got y t) h =
          ap (λ (b : Bool). cond b (Some (n - length t)) None) (law x y ∙ ap (λ (b : Bool). b && q y) h)
      second x (bad k t) h = refl

      first : (x : A) (t : List ℕ) (b : Bool) → p x ≡ b → cond b (Some (n - length t)) None ≡ None
          → held_answer n r (then (g t) (λ y u. got (to x y) u)) ≡ None
      first x t true h f = absurd (let z : ◌≡◌ {A = ℕ} 0 1 = cc in omega arith)
      first x t false h f = second x (g t) h

      by : (o : Out A) → held_answer n p o ≡ None
          → held_answer n r (then o (λ x u. then (g u) (λ y t. got (to x y) t))) ≡ None
      by (got x t) f = first x t (p x) refl f
      by (bad k t) f = refl

  chain_same : (x : A) (t : List ℕ) → o ≡ got x t → p x ≡ true → held_answer n q (g t) ≡ held_answer n r chained
  unfolding held_answer then
  chain_same x t e h =
      by (g t) ∙ sym (ap (λ (v : Out A). held_answer n r (then v (λ x u. then (g u) (λ y t. got (to x y) t)))) e)
    where
      by : (v : Out B) → held_answer n q v ≡ held_answer n r (then v (λ y u. got (to x y) u))
      by (got y u) =
          ap (λ (b : Bool). cond b (Some (n - length u)) None) (sym (law x y ∙ ap (λ (b : Bool). b && q y) h))
      by (bad k u) = refl

-- ---- a record: the region is read from its own bytes, which end at e
pub record_same : (s w : List ℕ) (at e k : ℕ) (r : Region) (b : Bool) → at + region_size ≤ e
    → k + region_words ≤ length w → r ≡ region_in (take (e - at) (drop at s)) 0 → b ≡ holds_at w k r
    → b ≡ region_eq (region_at w k) (region_in s at)
record_same s w at e k r b h l er eb =
    held_there w k r b l eb ∙ ap (region_eq (region_at w k)) (er ∙ region_within s at e h)

-- ---- records one after another
pub one_record : (s w : List ℕ) (at a i : ℕ) (b : Bool)
    → b ≡ region_eq (region_at w (a + i * region_words)) (region_in s (at + i * region_size)) → b ≡ same_record s at w a i
unfolding same_record record_at
one_record s w at a i b e = e

pub all_places : (p : ℕ → Bool) (i n : ℕ) → list_all p (range_with_len i n) ≡ all p (places i n)
unfolding all places
all_places p i zero = refl
all_places p i (suc n) =
    let e : i + 1 ≡ suc i = omega arith in
    ap (λ (j : ℕ). p i && list_all p (range_with_len j n)) e
    ∙ ap (λ (b : Bool). p i && b) (all_places p (suc i) n)

-- ---- a list of regions
pub same_tabs : {A : Type 0} (e : A → A → Bool) (f g : ℕ → A) (k n : ℕ)
    → same_list e (map f (places k n)) (map g (places k n)) ≡ all (λ i. e (f i) (g i)) (places k n)
unfolding same_list all places
same_tabs e f g k zero = refl
same_tabs e f g k (suc n) = ap (λ (b : Bool). e (f k) (g k) && b) (same_tabs e f g (suc k) n)

module _ (s w : List ℕ) (start lo hi k a : ℕ) where
  abbrev list_at : Out (List Region)
  list_at = (listed 4 lo hi region_field).read (drop start s)

  list_part : Part (left list_at) s
  list_part =
      part_in s (left list_at) start ((lawful_list lo hi region_field RegionFits lawful_region_field).part (drop start s))

  pub regions_other : (e : ℕ × ℕ) → Err e ≡ section_answer (length s) list_at
      → None ≡ held_answer (length s) (holds_regions w k a) list_at
  regions_other e f = sym (held_refused (length s) (holds_regions w k a) list_at e f)

  module _ (e : ℕ) (f : Ok e ≡ section_answer (length s) list_at) (n : ℕ) (en : n ≡ little (part start 4 s)) where
    value : (xs : List Region) × (list_at ≡ got xs (drop e s))
    value = ends_with s list_at list_part e f

    abbrev xs : List Region
    xs = value.0

    facts : Listed region_format region_size region_value wide_region lo hi (drop start s) xs (drop e s)
    facts = list_read_law region_format region_size region_value wide_region lo hi (drop start s) xs (drop e s) value.1

    many : length xs ≡ n
    unfolding part
    many = facts.count ∙ sym en

    pub records_room : a + hi * region_words ≤ length w → a + n * region_words ≤ length w
    records_room h = omega (arith, many, facts.most)

    pub bytes_there : start + 4 + n * region_size ≤ length s
    bytes_there = omega (arith, many, facts.there, length-drop start s)

    -- as many regions are asked for as the words count, or not
    pub regions_fewer : (get_or w k 0 ≡ n → ⊥) → None ≡ held_answer (length s) (holds_regions w k a) list_at
    unfolding holds_regions records_at
    regions_fewer ne =
        sym (held_fails (length s) (holds_regions w k a) list_at xs (drop e s) value.1
        (false_of (holds_regions w k a xs) (λ h. ne
        (sym (length_tab (get_or w k 0) (record_at w a))
        ∙ ap length (same_list_law region_eq equal_same (records_at w a (get_or w k 0)) xs h)
        ∙ many))))

    -- each is the record's, or not
    same_each : get_or w k 0 ≡ n → all (same_record s (start + 4) w a) (places 0 n) ≡ holds_regions w k a xs
    unfolding holds_regions records_at same_record tab
    same_each q =
        let there : (i : ℕ) → drop (i * region_size) (drop 4 (drop start s)) ≡ drop (start + 4 + i * region_size) s =
        λ i. ap (drop (i * region_size)) (drop-drop 4 start s) ∙ drop-drop (i * region_size) (start + 4) s in
        let field : (i : ℕ)
        → region_in s (start + 4 + i * region_size) ≡ region_value (drop (i * region_size) (drop 4 (drop start s))) =
        λ i. in_bytes s (start + 4 + i * region_size) ∙ ap region_value (sym (there i)) in
        (λ j. all (λ i. region_eq (record_at w a i) (field i j)) (places 0 n))
        ∙ sym (same_tabs region_eq (record_at w a) (λ i. region_value (drop (i * region_size) (drop 4 (drop start s)))) 0
        n)
        ∙ ap₂ (λ (m : ℕ) (ys : List Region). same_list region_eq (tab m (record_at w a)) ys) (sym q)
        (ap (λ (m : ℕ). tab m (λ i. region_value (drop (i * region_size) (drop 4 (drop start s))))) (sym many)
        ∙ sym facts.each)

    module _ (b : Bool) (q : get_or w k 0 ≡ n) (eb : b ≡ all (same_record s (start + 4) w a) (places 0 n)) where
      pub regions_differ : b ≡ false → None ≡ held_answer (length s) (holds_regions w k a) list_at
      regions_differ g =
          sym (held_fails (length s) (holds_regions w k a) list_at xs (drop e s) value.1 (sym (same_each q) ∙ sym eb ∙ g))

      pub regions_same : b ≡ true → Some e ≡ held_answer (length s) (holds_regions w k a) list_at
      regions_same g =
          ap (λ (i : ℕ). Some i) (place s e (end_within s list_at list_part e f))
          ∙ sym (held_passes (length s) (holds_regions w k a) list_at xs (drop e s) value.1
          (sym (same_each q) ∙ sym eb ∙ g))

-- ---- two sets
and-true : (b : Bool) → (b && true) ≡ b
and-true true = refl
and-true false = refl

module _ (s w : List ℕ) (start k : ℕ) where
  sets_law : (x y : List Region)
      → holds_sets w k (x, y) ≡ (holds_regions w k (k + 1) x && holds_regions w (k + set_words) (k + set_words + 1) y)
  unfolding holds_sets all_of
  sets_law x y =
      ap (λ (b : Bool). holds_regions w k (k + 1) x && b) (and-true (holds_regions w (k + set_words) (k + set_words + 1) y))

  pub sets_other : None ≡ held_answer (length s) (holds_regions w k (k + 1)) ((set_format limits).read (drop start s))
      → None ≡ held_answer (length s) (holds_sets w k) (two_sets.read (drop start s))
  unfolding read_both
  sets_other e =
      sym (chain_other (length s) ((set_format limits).read (drop start s)) (λ u. (set_format limits).read u)
      (λ x y. (x, y)) (holds_regions w k (k + 1)) (holds_regions w (k + set_words) (k + set_words + 1))
      (holds_sets w k) sets_law (sym e))

  module _ (e : ℕ)
      (f : Some e ≡ held_answer (length s) (holds_regions w k (k + 1)) ((set_format limits).read (drop start s))) where
    first : Passed s (holds_regions w k (k + 1)) ((set_format limits).read (drop start s)) (set_part s start) e
    first = passed s (holds_regions w k (k + 1)) ((set_format limits).read (drop start s)) (set_part s start) e f

    pub second_within : e ≤ length s
    second_within = first.within

    pub sets_second : (v : Option ℕ)
        → v ≡ held_answer (length s) (holds_regions w (k + set_words) (k + set_words + 1))
        ((set_format limits).read (drop e s))
        → v ≡ held_answer (length s) (holds_sets w k) (two_sets.read (drop start s))
    unfolding read_both
    sets_second v h =
        h ∙ chain_same (length s) ((set_format limits).read (drop start s)) (λ u. (set_format limits).read u)
        (λ x y. (x, y)) (holds_regions w k (k + 1)) (holds_regions w (k + set_words) (k + set_words + 1))
        (holds_sets w k) sets_law first.value (drop e s) first.read first.passes

-- ---- a zone
zone_sets : (w : List ℕ) (i : ℕ) (y : List Region × List Region)
    → holds_sets w (zone_base i + 1) y ≡ all_of
    (same_list region_eq (zone_in w i).cpu y.0 ∷ same_list region_eq (zone_in w i).iommu y.1 ∷ [])
unfolding holds_sets holds_regions zone_in set_in set_base
zone_sets w i y =
    let b : zone_base i + 1 + set_words ≡ set_base i Iommu = omega arith in
    ap (λ (j : ℕ). all_of (same_list region_eq (records_at w (zone_base i + 1 + 1) (get_or w (zone_base i + 1) 0)) y.0
    ∷ same_list region_eq (records_at w (j + 1) (get_or w j 0)) y.1 ∷ [])) b

module _ (s w : List ℕ) (start i : ℕ) where
  abbrev id_then_sets : Out (ℕ × (List Region × List Region))
  id_then_sets = then (read_number 4 (drop start s)) (λ x u. then (two_sets.read u) (λ y t. got (x, y) t))

  abbrev same_id : ℕ → Bool
  same_id id = eqb (zone_in w i).id id

  zone_law : (x : ℕ) (y : List Region × List Region)
      → same_zone (zone_in w i) (zone_to (x, y)) ≡ (same_id x && holds_sets w (zone_base i + 1) y)
  unfolding same_zone all_of
  zone_law x y = ap (λ (b : Bool). same_id x && b) (sym (zone_sets w i y))

  zone_as : held_answer (length s) (λ x. same_zone (zone_in w i) (zone_to x)) id_then_sets
      ≡ held_answer (length s) (same_zone (zone_in w i)) ((zone_format limits).read (drop start s))
  unfolding read_as read_both
  zone_as = held_as (length s) (same_zone (zone_in w i)) zone_to id_then_sets

  pub zone_cut : (e : Refused) → FieldRead short_size s start (read_number 4 (drop start s)) (Err e)
      → None ≡ held_answer (length s) (same_zone (zone_in w i)) ((zone_format limits).read (drop start s))
  unfolding held_answer then field_out
  zone_cut e read =
      sym (ap (λ (o : Out ℕ). held_answer (length s) (λ x. same_zone (zone_in w i) (zone_to x))
      (then o (λ x u. then (two_sets.read u) (λ y t. got (x, y) t)))) read.read)
      ∙ zone_as

  module _ (id : ℕ) (read : FieldRead short_size s start (read_number 4 (drop start s)) (Ok id)) (z : ℕ)
      (ez : z ≡ zone_start i) (h : i < most_zones) where
    number_read_law : read_number 4 (drop start s) ≡ got id (drop (start + 4) s)
    number_read_law = field_is short_size s start (read_number 4 (drop start s)) id read

    id_there : get_or w z 0 ≡ (zone_in w i).id
    unfolding zone_in
    id_there = ap (λ (j : ℕ). get_or w j 0) (start_is i z ez h)

    pub zone_other : (get_or w z 0 ≡ id → ⊥)
        → None ≡ held_answer (length s) (same_zone (zone_in w i)) ((zone_format limits).read (drop start s))
    zone_other ne =
        sym (chain_other (length s) (read_number 4 (drop start s)) (λ u. two_sets.read u) (λ x y. (x, y)) same_id
        (holds_sets w (zone_base i + 1)) (λ x. same_zone (zone_in w i) (zone_to x)) zone_law
        (held_fails (length s) same_id (read_number 4 (drop start s)) id (drop (start + 4) s) number_read_law
        (ne_eqb _ _ (λ q. ne (id_there ∙ q)))))
        ∙ zone_as

    pub zone_same : (v : Option ℕ) → get_or w z 0 ≡ id
        → v ≡ held_answer (length s) (holds_sets w (z + 1)) (two_sets.read (drop (start + 4) s))
        → v ≡ held_answer (length s) (same_zone (zone_in w i)) ((zone_format limits).read (drop start s))
    zone_same v q g =
        g ∙ ap (λ (j : ℕ). held_answer (length s) (holds_sets w (j + 1)) (two_sets.read (drop (start + 4) s)))
        (start_is i z ez h)
        ∙ chain_same (length s) (read_number 4 (drop start s)) (λ u. two_sets.read u) (λ x y. (x, y)) same_id
        (holds_sets w (zone_base i + 1)) (λ x. same_zone (zone_in w i) (zone_to x)) zone_law id
        (drop (start + 4) s) number_read_law (eq-eqb _ _ (sym id_there ∙ q))
        ∙ zone_as

-- ---- zones one after another
-- the m zones from byte `at` on, held against those from zone i on
abbrev pub zones_from : List ℕ → List ℕ → ℕ → ℕ → ℕ → Option ℕ
zones_from s w m i at =
    held_answer (length s) (same_list same_zone (map (zone_in w) (places i m))) (read_many (zone_format limits) m (drop at s))

module _ (s w : List ℕ) (n i at : ℕ) (R : Option ℕ) (inv : zones_from s w (n - i) i at ≡ R) where
  pub zones_over : n ≤ i → at ≤ length s → Some at ≡ R
  unfolding held_answer same_list read_many places
  zones_over h l =
      let e : n - i ≡ 0 = omega arith in
      ap (λ (p : ℕ). Some p) (place s at l) ∙ sym (ap (λ (m : ℕ). zones_from s w m i at) e) ∙ inv

  module _ (h : i < n) where
    abbrev m : ℕ
    m = n - (i + 1)

    abbrev later : List Zone → Bool
    later = same_list same_zone (map (zone_in w) (places (suc i) m))

    list_law : (x : Zone) (xs : List Zone)
        → same_list same_zone (zone_in w i ∷ map (zone_in w) (places (suc i) m)) (x ∷ xs)
        ≡ (same_zone (zone_in w i) x && later xs)
    unfolding same_list
    list_law x xs = refl

    turn : held_answer (length s) (same_list same_zone (zone_in w i ∷ map (zone_in w) (places (suc i) m)))
        (then ((zone_format limits).read (drop at s))
        (λ x u. then (read_many (zone_format limits) m u) (λ xs t. got (x ∷ xs) t)))
        ≡ R
    unfolding read_many places
    turn = let e : n - i ≡ suc m = omega arith in sym (ap (λ (j : ℕ). zones_from s w j i at) e) ∙ inv

    pub zones_stop : None ≡ held_answer (length s) (same_zone (zone_in w i)) ((zone_format limits).read (drop at s))
        → None ≡ R
    zones_stop e =
        sym (chain_other (length s) ((zone_format limits).read (drop at s))
        (λ u. read_many (zone_format limits) m u) (λ x xs. x ∷ xs) (same_zone (zone_in w i)) later
        (same_list same_zone (zone_in w i ∷ map (zone_in w) (places (suc i) m))) list_law (sym e))
        ∙ turn

    module _ (e : ℕ)
        (f : Some e ≡ held_answer (length s) (same_zone (zone_in w i)) ((zone_format limits).read (drop at s))) where
      here : Passed s (same_zone (zone_in w i)) ((zone_format limits).read (drop at s)) (zone_part s at) e
      here = passed s (same_zone (zone_in w i)) ((zone_format limits).read (drop at s)) (zone_part s at) e f

      pub zones_within : e ≤ length s
      zones_within = here.within

      pub zones_go : zones_from s w (n - (i + 1)) (i + 1) e ≡ R
      zones_go =
          let k : i + 1 ≡ suc i = omega arith in
          ap (λ (j : ℕ). zones_from s w m j e) k
          ∙ chain_same (length s) ((zone_format limits).read (drop at s))
          (λ u. read_many (zone_format limits) m u) (λ x xs. x ∷ xs) (same_zone (zone_in w i)) later
          (same_list same_zone (zone_in w i ∷ map (zone_in w) (places (suc i) m))) list_law here.value (drop e s)
          here.read here.passes
          ∙ turn

pub zones_begin : (s w : List ℕ) (n at : ℕ)
    → zones_from s w (n - 0) 0 at ≡ held_answer (length s) (same_list same_zone (tab n (zone_in w))) (read_many (zone_format limits) n (drop at s))
unfolding tab
zones_begin s w n at = let e : n - 0 ≡ n = omega arith in ap (λ (m : ℕ). zones_from s w m 0 at) e

-- ---- the zones' section: b is what is answered
module _ (s w : List ℕ) where
  pub table_cut : (e : Refused) → FieldRead short_size s 0 (read_count 4 0 most_zones (drop 0 s)) (Err e) → false ≡ table_held s w
  unfolding table_held held_answer read_headed then field_out
  table_cut e read =
      sym (ap (λ (o : Out ℕ). is_some (held_answer (length s) (same_list same_zone (zones_in w))
      (then o (λ c u. read_many (zone_format limits) c u)))) read.read)

  module _ (n : ℕ) (read : FieldRead short_size s 0 (read_count 4 0 most_zones (drop 0 s)) (Ok n)) where
    counted : table_held s w ≡ is_some (held_answer (length s) (same_list same_zone (zones_in w))
        (read_many (zone_format limits) n (drop 4 s)))
    unfolding table_held read_headed then
    counted =
        ap (λ (o : Out ℕ). is_some (held_answer (length s) (same_list same_zone (zones_in w))
        (then o (λ c u. read_many (zone_format limits) c u)))) (field_is short_size s 0 (read_count 4 0 most_zones s) n read)

    pub table_fewer : (get_or w 0 0 ≡ n → ⊥) → false ≡ table_held s w
    unfolding held_answer zones_in
    table_fewer ne = by (read_many (zone_format limits) n (drop 4 s)) refl ∙ sym counted
      where
        by : (o : Out (List Zone)) → read_many (zone_format limits) n (drop 4 s) ≡ o
            → false ≡ is_some (held_answer (length s) (same_list same_zone (zones_in w)) o)
        by (got zs u) q =
            let m : length zs ≡ n =
            (many_got (zone_format limits) (λ x. Unit {0}) (λ b x t e. tt) n (drop 4 s) zs u q).0 in
            let f : same_list same_zone (zones_in w) zs ≡ false =
            false_of _ (λ g. ne (sym (length_tab (get_or w 0 0) (zone_in w))
            ∙ ap length (same_list_law same_zone same_zone_law (zones_in w) zs g)
            ∙ m)) in
            sym (ap (λ (x : Bool). is_some (cond x (Some (length s - length u)) None)) f)
        by (bad k u) q = refl

    pub table_room : zone_base most_zones ≤ length w → zone_base n ≤ length w
    table_room l = omega (arith, count_most s 0 0 most_zones n read)

    pub table_held_law : (b : Bool) → get_or w 0 0 ≡ n
        → b ≡ is_some (held_answer (length s) (same_list same_zone (tab n (zone_in w)))
        (read_many (zone_format limits) n (drop 4 s)))
        → b ≡ table_held s w
    unfolding zones_in
    table_held_law b q g =
        g ∙ ap (λ (m : ℕ). is_some (held_answer (length s) (same_list same_zone (tab m (zone_in w)))
        (read_many (zone_format limits) n (drop 4 s)))) (sym q)
        ∙ sym counted

-- ---- the configuration: b is whether the words hold the regions
module _ (s w : List ℕ) (gic : ℕ) (b : Bool)
    (eb : b ≡ is_some (held_answer (length s) (holds_regions w config_count config_records) ((regions_section limits).read s))) where
  pub config_other : b ≡ false → false ≡ config_held s gic w
  unfolding config_held
  config_other e = all_miss _ _ (sym eb ∙ e)

  pub config_held_law : b ≡ true → eqb (get_or w config_gic 0) gic ≡ config_held s gic w
  unfolding config_held
  config_held_law e = all_pass _ _ _ (sym eb ∙ e) (all_last _ _ refl)
