-- What each return of the sections' readers answers: a field's reader says how far the bytes go, and that decides what
-- the format reads.
use Prim.Native.Nat.{ℕ, ◌-◌, ◌*◌, ◌+◌, ◌≤◌}
use native.Mathlib.Omega.{arith}
use mathlib.Core.List.{List, [], ◌∷◌, ◌++◌}
use mathlib.Core.Path.{◌≡◌, refl, sym, ap, ap₂, subst, ◌∙◌}
use Rattle.std.proofs.Common.{Result, Ok, Err}
use lib.ListN.{length, drop, set, replicate, replicate-append-replicate}
use Rattle.lists.specs.Words.{counted}
use Rattle.lists.proofs.Words.{counted_words}
use Rattle.formats.specs.Formats.{Out, got, bad, then, read_number, read_count, read_both, read_as, read_headed}
use Rattle.formats.proofs.Formats.{listed_got}
use Rattle.rules.specs.Limits.{most_regions, most_zones, limits, in_format}
use Rattle.rules.specs.Fields.{short_size}
use Rattle.rules.specs.Numbers.{number}
use Rattle.rules.specs.Plan.{region_field, marks_section, regions_section, zone_format, zones_section}
use Rattle.rules.specs.Plan.{Marks as PlanMarks}
use Rattle.rules.specs.Regions.{no_region}
use Rattle.rules.specs.Tables.{Zone}
use Rattle.rules.specs.declared.Region.{Region}
use Rattle.rules.proofs.Sections.{sets_few}
use Rattle.zones.specs.Layout.{region_words, config_words, table_words, config_count, config_gic, config_records}
use Rattle.zones.specs.Records.{words_of_region}
use Rattle.zones.specs.Words.{words_of_config}
use Rattle.zones.proofs.Records.{zero_region}
use Rattle.plan.specs.Fields.{field_out, field_end, FieldRead}
use Rattle.plan.specs.Into.{Step, on, stop, set_into, zones_into, step_of, section_place, Reads}
use Rattle.plan.specs.Sections.{marks_answer, section_answer, config_answer, table_answer, regions_answer, zones_answer}
use Rattle.plan.specs.Sections.{RegionsIn, ZonesIn}
use Rattle.plan.specs.Told.{told, answer_by}
use Rattle.plan.specs.declared.refused.Refused.{Refused}
use Rattle.plan.specs.declared.sections.Regions.{Regions}
use Rattle.plan.specs.declared.sections.Zones.{Zones}
use Rattle.plan.proofs.Agreeing.{Agrees, put_all, store_record, store_set, set_agrees, zones_agree}
use Rattle.plan.proofs.Offsets.{place}
use Rattle.plan.proofs.Storing.{SetsFit, records_stored, zones_stored}

-- ---- what a reader into words says of the format: o is what the format reads
module _ {A : Type 0} (p : A → List ℕ) (o : Out A) (s v : List ℕ) (S : Step) (agrees : Agrees p o S) where
  pub reads_end : (e : ℕ) → Reads s v (Ok e) S → (x : A) × (o ≡ got x (drop e s)) × (v ≡ p x) × (e ≤ length s)
  unfolding Agrees step_of section_place
  reads_end e read = by o agrees
    where
      by : (o : Out A) → Agrees p o S → (x : A) × (o ≡ got x (drop e s)) × (v ≡ p x) × (e ≤ length s)
      by (got x t) a =
          let q : on (p x) t ≡ on v (drop e s) = sym a ∙ read.step in
          let m : t ≡ drop e s = cc in
          let n : v ≡ p x = cc in
          (x, ap (got x) m, n, read.within)
      by (bad k t) a = absurd (let q : stop a.0 k t ≡ on v (drop e s) = sym a.1 ∙ read.step in cc)

  pub reads_bad : (r : Refused) → Reads s v (Err r) S → (o ≡ bad (number r.why) (drop r.at s)) × (r.at ≤ length s)
  unfolding Agrees step_of section_place
  reads_bad r read = by o agrees
    where
      by : (o : Out A) → Agrees p o S → (o ≡ bad (number r.why) (drop r.at s)) × (r.at ≤ length s)
      by (got x t) a = absurd (let q : on (p x) t ≡ stop v (number r.why) (drop r.at s) = sym a ∙ read.step in cc)
      by (bad j t) a =
          let q : stop a.0 j t ≡ stop v (number r.why) (drop r.at s) = sym a.1 ∙ read.step in
          let m : j ≡ number r.why = cc in
          let n : t ≡ drop r.at s = cc in
          (ap₂ (λ (x : ℕ) (y : List ℕ). bad x y) m n, read.within)

-- ---- the marks of a format with the mark m, field by field
module _ (m : ℕ) (s : List ℕ) where
  abbrev marks : Out PlanMarks
  marks = (marks_section (in_format (m ∷ []) limits)).read s

  pub marks_none : (e : Refused) → FieldRead short_size s 0 (read_count 4 3 3 (drop 0 s)) (Err e)
      → Err (number e.why, e.at) ≡ marks_answer (length s) marks
  unfolding answer_by read_headed then field_out field_end
  marks_none e read =
      let q : read_count 4 3 3 s ≡ bad (number e.why) (drop e.at s) = read.read in
      rw q (ap (λ (p : ℕ). Err (number e.why, p)) (place s e.at read.within))

  module _ (n : ℕ) (first : FieldRead short_size s 0 (read_count 4 3 3 (drop 0 s)) (Ok n)) where
    count_read : read_count 4 3 3 s ≡ got n (drop 4 s)
    unfolding field_out
    count_read = first.read

    pub marks_no_gic : (e : Refused) → FieldRead short_size s 4 (read_number 4 (drop 4 s)) (Err e)
        → Err (number e.why, e.at) ≡ marks_answer (length s) marks
    unfolding answer_by read_headed read_as read_both then field_out field_end
    marks_no_gic e read =
        let q : read_number 4 (drop 4 s) ≡ bad (number e.why) (drop e.at s) = read.read in
        rw (count_read, q) (ap (λ (p : ℕ). Err (number e.why, p)) (place s e.at read.within))

    module _ (gic : ℕ) (second : FieldRead short_size s 4 (read_number 4 (drop 4 s)) (Ok gic)) where
      gic_read : read_number 4 (drop 4 s) ≡ got gic (drop 8 s)
      unfolding field_out
      gic_read = second.read

      pub marks_no_edition : (e : Refused) → FieldRead short_size s 8 (read_number 4 (drop 8 s)) (Err e)
          → Err (number e.why, e.at) ≡ marks_answer (length s) marks
      unfolding answer_by read_headed read_as read_both then field_out field_end
      marks_no_edition e read =
          let q : read_number 4 (drop 8 s) ≡ bad (number e.why) (drop e.at s) = read.read in
          rw (count_read, gic_read, q) (ap (λ (p : ℕ). Err (number e.why, p)) (place s e.at read.within))

      module _ (edition : ℕ) (third : FieldRead short_size s 8 (read_number 4 (drop 8 s)) (Ok edition)) where
        edition_read : read_number 4 (drop 8 s) ≡ got edition (drop 12 s)
        unfolding field_out
        edition_read = third.read

        pub marks_other : (e : Refused) → FieldRead short_size s 12 (read_count 4 m m (drop 12 s)) (Err e)
            → Err (number e.why, e.at) ≡ marks_answer (length s) marks
        unfolding answer_by read_headed read_as read_both then field_out field_end
        marks_other e read =
            let q : read_count 4 m m (drop 12 s) ≡ bad (number e.why) (drop e.at s) = read.read in
            rw (count_read, gic_read, edition_read, q) (ap (λ (p : ℕ). Err (number e.why, p)) (place s e.at read.within))

        pub marks_are : (k : ℕ) → FieldRead short_size s 12 (read_count 4 m m (drop 12 s)) (Ok k)
            → Ok (record { gic = gic; edition = edition }) ≡ marks_answer (length s) marks
        unfolding answer_by read_headed read_as read_both then field_out
        marks_are k read =
            let q : read_count 4 m m (drop 12 s) ≡ got k (drop 16 s) = read.read in
            rw (count_read, gic_read, edition_read, q)

-- ---- the configuration
config_stored : (gic : ℕ) (rs : List Region) → length rs ≤ most_regions
    → store_set config_count config_records (set (replicate config_words 0) config_gic gic) rs
    ≡ words_of_config (record { regions = rs; gic = gic })
unfolding store_set words_of_config counted
config_stored gic rs h =
    let c : ℕ = length rs in
    let free : List ℕ = replicate ((most_regions - c) * region_words) 0 in
    let split : replicate {A = ℕ} (most_regions * region_words) 0 ≡ replicate (c * region_words) 0 ++ free =
    (let q : most_regions * region_words ≡ c * region_words + (most_regions - c) * region_words = omega arith in
    ap (λ (m : ℕ). replicate m 0) q
    ∙ sym (replicate-append-replicate (c * region_words) ((most_regions - c) * region_words) 0)) in
    ap (λ (l : List ℕ). put_all (store_record config_records) 0 (c ∷ gic ∷ l) rs) split
    ∙ records_stored config_records rs (c ∷ gic ∷ []) free refl
    ∙ ap (λ (l : List ℕ). c ∷ gic ∷ drop 1 l)
    (sym (counted_words words_of_region region_words most_regions no_region zero_region rs h))

-- words w that were cleared to u
module _ (s w u : List ℕ) (gic : ℕ) (wide : length w ≡ config_words) (zero : u ≡ replicate (length w) 0) where
  zeros : u ≡ replicate config_words 0
  zeros = zero ∙ ap (λ (n : ℕ). replicate n 0) wide

  pub regions_bad : (e : Refused) → told (Err e) ≡ section_answer (length s) ((regions_section limits).read s)
      → RegionsIn gic s (Err e) u
  unfolding answer_by config_answer
  regions_bad e f = record { section = f; words = zeros ∙ by ((regions_section limits).read s) f }
    where
      by : (o : Out (List Region)) → told (Err e) ≡ section_answer (length s) o
          → replicate config_words 0 ≡ (config_answer gic o).words
      by (got rs t) q = absurd (cc)
      by (bad j t) q = refl

  -- then read into where the section ends, and v is what they then are
  module _ (e : ℕ) (f : Ok e ≡ section_answer (length s) ((regions_section limits).read s)) (v : List ℕ)
      (x : Result ℕ Refused)
      (read : Reads s v x (set_into 1 most_regions config_count config_records (set u config_gic gic) (drop 0 s))) where
    abbrev fresh : List ℕ
    fresh = set (replicate config_words 0) config_gic gic

    read_fresh : Reads s v x (set_into 1 most_regions config_count config_records fresh s)
    read_fresh =
        subst (λ (y : List ℕ). Reads s v x (set_into 1 most_regions config_count config_records (set y config_gic gic) s)) zeros
        read

    agree : Agrees (store_set config_count config_records fresh) ((regions_section limits).read s)
        (set_into 1 most_regions config_count config_records fresh s)
    agree = set_agrees 1 most_regions config_count config_records fresh s

    pub regions_are : RegionsIn gic s x v
    unfolding answer_by config_answer
    regions_are = by x read_fresh
      where
        by : (y : Result ℕ Refused) → Reads s v y (set_into 1 most_regions config_count config_records fresh s)
            → RegionsIn gic s y v
        by (Ok a) q =
            let (rs, o, m, l) = reads_end _ _ s v _ agree a q in
            let h : length rs ≤ most_regions =
            (listed_got region_field (λ x. Unit {0}) (λ b x t e. tt) 4 1 most_regions s rs (drop a s) o).0 in
            record {
              section = ap (λ (p : ℕ). Ok p) (place s a l) ∙ sym (ap (section_answer (length s)) o);
              words = m ∙ config_stored gic rs h ∙ sym (ap (λ (o : Out (List Region)). (config_answer gic o).words) o);
            }
        by (Err r) q =
            absurd (let (o, l) = reads_bad _ _ s v _ agree r q in
            let z : Err (number r.why, length s - length (drop r.at s)) ≡ Ok e =
            sym (ap (section_answer (length s)) o) ∙ sym f in
            cc)

-- by value
pub regions_by : (gic : ℕ) (s : List ℕ) (e : ℕ) (w : List ℕ) → RegionsIn gic s (Ok e) w
    → ◌≡◌ {A = Result Regions (ℕ × ℕ)} (Ok (record { end = e; config = record { words = w } }))
    (regions_answer gic (length s) ((regions_section limits).read s))
unfolding answer_by config_answer
regions_by gic s e w h = by ((regions_section limits).read s) h.section h.words
  where
    by : (o : Out (List Region)) → Ok e ≡ section_answer (length s) o → w ≡ (config_answer gic o).words
        → ◌≡◌ {A = Result Regions (ℕ × ℕ)} (Ok (record { end = e; config = record { words = w } }))
        (regions_answer gic (length s) o)
    by (got rs t) q z =
        let p : e ≡ length s - length t = cc in
        (λ i. Ok (record { end = p i; config = record { words = z i } }))
    by (bad k t) q z = absurd (cc)

-- ---- the zones
-- zeros that were read into
pub zones_read_law : (s v : List ℕ) (a : ℕ) → Reads s v (Ok a) (zones_into (replicate table_words 0) s) → ZonesIn s (Ok a) v
unfolding answer_by table_answer
zones_read_law s v a read =
    let (zs, o, m, l) = reads_end _ _ s v _ (zones_agree (replicate table_words 0) s) a read in
    let (h, d) = listed_got (zone_format limits) SetsFit (sets_few limits) 4 0 most_zones s zs (drop a s) o in record {
      section = ap (λ (p : ℕ). Ok p) (place s a l) ∙ sym (ap (section_answer (length s)) o);
      words = m ∙ zones_stored zs d h ∙ sym (ap (λ (o : Out (List Zone)). (table_answer o).words) o);
    }

module _ (s w u : List ℕ) (wide : length w ≡ table_words) (zero : u ≡ replicate (length w) 0) where
  empty : u ≡ replicate table_words 0
  empty = zero ∙ ap (λ (n : ℕ). replicate n 0) wide

  pub zones_bad : (e : Refused) → told (Err e) ≡ section_answer (length s) ((zones_section limits).read s)
      → ZonesIn s (Err e) u
  unfolding answer_by table_answer
  zones_bad e f = record { section = f; words = empty ∙ by ((zones_section limits).read s) f }
    where
      by : (o : Out (List Zone)) → told (Err e) ≡ section_answer (length s) o
          → replicate table_words 0 ≡ (table_answer o).words
      by (got zs t) q = absurd (cc)
      by (bad j t) q = refl

  pub zones_are : (e : ℕ) → Ok e ≡ section_answer (length s) ((zones_section limits).read s) → (v : List ℕ)
      (x : Result ℕ Refused) → Reads s v x (zones_into u s) → ZonesIn s x v
  unfolding answer_by
  zones_are e f v x read = by x (subst (λ (y : List ℕ). Reads s v x (zones_into y s)) empty read)
    where
      by : (y : Result ℕ Refused) → Reads s v y (zones_into (replicate table_words 0) s) → ZonesIn s y v
      by (Ok a) q = zones_read_law s v a q
      by (Err r) q =
          absurd (let (o, l) = reads_bad _ _ s v _ (zones_agree (replicate table_words 0) s) r q in
          let z : Err (number r.why, length s - length (drop r.at s)) ≡ Ok e =
          sym (ap (section_answer (length s)) o) ∙ sym f in
          cc)

-- by value
pub zones_by : (s : List ℕ) (e : ℕ) (w : List ℕ) → ZonesIn s (Ok e) w
    → ◌≡◌ {A = Result Zones (ℕ × ℕ)} (Ok (record { end = e; table = record { words = w } }))
    (zones_answer (length s) ((zones_section limits).read s))
unfolding answer_by table_answer
zones_by s e w h = by ((zones_section limits).read s) h.section h.words
  where
    by : (o : Out (List Zone)) → Ok e ≡ section_answer (length s) o → w ≡ (table_answer o).words
        → ◌≡◌ {A = Result Zones (ℕ × ℕ)} (Ok (record { end = e; table = record { words = w } })) (zones_answer (length s) o)
    by (got zs t) q z =
        let p : e ≡ length s - length t = cc in
        (λ i. Ok (record { end = p i; table = record { words = z i } }))
    by (bad k t) q z = absurd (cc)
