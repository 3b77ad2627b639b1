-- The map listing: a line gives its words back and a word its number, so the lines tell the zones that hold regions;
-- and the longest buffer is long enough for any sound table.
use Prim.Native.Nat.{ℕ, zero, suc, ◌≤◌, ◌<◌}
use native.Mathlib.Omega.{arith}
use mathlib.Core.Bool.{Bool, true, false, cond, not, true≢false}
use mathlib.Core.List.{List, [], ◌∷◌, ◌++◌, map, flat_map, append-nil}
use mathlib.Core.Logic.{⊎_elim}
use mathlib.Core.Path.{◌≡◌, refl, sym, ap, ap₂, subst, ◌∙◌}
use borrow.Author.Tests.{eqb-true, eqb-false, not-true, eq-eqb, ne_eqb}
use lib.Dec.{ltb, eqb}
use lib.ListN.{length, length-append}
use Rattle.lists.specs.First.{all}
use Rattle.lists.specs.Pairs.{pairwise}
use Rattle.lists.specs.Rules.{◌when◌, first_rule}
use Rattle.lists.proofs.Lines.{exactly_of, first_of, all as every, ◌and◌}
use Rattle.lists.proofs.Room.{length_room}
use Rattle.lists.proofs.Tests.{both_true, holds_or_fails, not_holds}
use Rattle.lists.proofs.Words.{flat_append}
use Rattle.formats.specs.Formats.{Out, got, bad, All}
use Rattle.formats.specs.Sizes.{total}
use Rattle.formats.specs.Texts.{ascii, decimal, signed, hex, leading_words, past_words}
use Rattle.formats.proofs.Bounds.{all_joined}
use Rattle.formats.proofs.Texts.{Printed, decimal_back, decimal_alike, decimal_printed, signed_back, signed_alike}
use Rattle.formats.proofs.Texts.{signed_printed, hex_back, hex_alike, hex_printed, line_back, line_length}
use Rattle.rules.specs.Applying.{plain, plain_steps, apply, apply_by, base_of, answer_read, answer_alone, Terminal}
use Rattle.rules.specs.Configuration.{config_of, StoredConfig}
use Rattle.rules.specs.Fields.{numbers_of}
use Rattle.rules.specs.Filling.{own_rule, fill_answer, Filled}
use Rattle.rules.specs.Limits.{Limits, Sayable}
use Rattle.rules.specs.Listing.{shift, side_word, fields_of, line, set_lines, zone_lines, listing, list, list_after}
use Rattle.rules.specs.Listing.{list_read, longest_listing, Reaches}
use Rattle.rules.specs.Plan.{read_plan, RegionFits, Plan}
use Rattle.rules.specs.Regions.{no_region}
use Rattle.rules.specs.Requests.{standing}
use Rattle.rules.specs.Tables.{empty_zone, regions_of, ids_differ, table_of, Zone, StoredTable}
use Rattle.rules.specs.declared.Outcome.{Outcome}
use Rattle.rules.specs.declared.Region.{Region}
use Rattle.rules.specs.declared.Side.{Side}
use Rattle.rules.specs.declared.Side.TheVariants.{Cpu, Iommu}
use Rattle.rules.proofs.Configuration.{passed}
use Rattle.rules.proofs.Filling.{Refusing, fits_zero, leaves_all}
use Rattle.rules.proofs.Keeps.{sound_parts, SoundTable}
use Rattle.rules.proofs.Listing.{shift_exact, shift_range, listing_most, table_listable, Formed, Listable}
use Rattle.rules.proofs.Plan.{plan_refuses, plan_ends}
use Rattle.rules.proofs.Planner.{sound_fits}
use Rattle.rules.proofs.Stored.{stands_well}
use Rattle.promises.specs.Listing.{PrintedReadsBack, NoTwoPrintAlike, ShiftIsExact, ShiftInRange, Entry, side_read}
use Rattle.promises.specs.Listing.{some, entry_read, entries_read, on_side, place, zones_made, listing_read, with_regions}
use Rattle.promises.specs.Listing.{ListingReadsBack, ListingTells, EmptyUnlisted, ListIsExact, LongestSuffices}
use Rattle.promises.specs.Listing.{ListRefusalLeaves, ListSuccessFills, AloneRefused, AloneListed}
use Rattle.promises.specs.Filling.{Fills}
use Rattle.promises.proofs.Answers.{tells_lt, standing_exactly}
use Rattle.promises.proofs.Filling.{filled}
use Rattle.promises.proofs.Plans.{configuration_stays, apply_keeps_sound}
use Rattle.promises.proofs.Steps.{accepted_stands_by}

pub printed_reads_back : PrintedReadsBack
printed_reads_back = (decimal_back, signed_back, hex_back)

pub no_two_print_alike : NoTwoPrintAlike
no_two_print_alike = (decimal_alike, signed_alike, hex_alike)

pub shift_is_exact : (lim : Limits) → ShiftIsExact lim
shift_is_exact lim = shift_exact lim.page

pub shift_in_range : (lim : Limits) → ShiftInRange lim
shift_in_range = shift_range

-- ---- what the lines speak of
abbrev entry_of : ℕ → Side → Region → Entry
entry_of id s r = record { zone = id; side = s; region = r }

zone_entries : Zone → List Entry
zone_entries z = map (entry_of z.id Cpu) z.cpu ++ map (entry_of z.id Iommu) z.iommu

entries : List Zone → List Entry
entries t = flat_map zone_entries t

abbrev entry_line : Limits → Entry → List ℕ
entry_line l e = line l e.zone e.side e.region

module _ (lim : Limits) where
  set_entries : (id : ℕ) (s : Side) (xs : List Region)
      → set_lines lim id s xs ≡ flat_map (entry_line lim) (map (entry_of id s) xs)
  unfolding flat_map
  set_entries id s [] = refl
  set_entries id s (x ∷ xs) = ap (λ (l : List ℕ). line lim id s x ++ l) (set_entries id s xs)

  zone_entries_law : (z : Zone) → zone_lines lim z ≡ flat_map (entry_line lim) (zone_entries z)
  unfolding zone_lines zone_entries
  zone_entries_law z =
      ap₂ (λ (a b : List ℕ). a ++ b) (set_entries z.id Cpu z.cpu) (set_entries z.id Iommu z.iommu)
      ∙ sym (flat_append (entry_line lim) (map (entry_of z.id Cpu) z.cpu) (map (entry_of z.id Iommu) z.iommu))

  listing_entries : (t : List Zone) → listing lim t ≡ flat_map (entry_line lim) (entries t)
  unfolding listing entries flat_map
  listing_entries [] = refl
  listing_entries (z ∷ t) =
      ap₂ (λ (a b : List ℕ). a ++ b) (zone_entries_law z) (listing_entries t)
      ∙ sym (flat_append (entry_line lim) (zone_entries z) (entries t))

-- ---- entries tell the zones that hold regions
abbrev zone_with : ℕ → List Region → List Region → Zone
zone_with n c i = record { id = n; cpu = c; iommu = i }

-- the first zone, if there is one, has another id
abbrev NotFirst : ℕ → List Zone → Type 0
NotFirst n [] = Unit {0}
NotFirst n (z ∷ zs) = eqb z.id n ≡ false

zones_join : (zs : List Zone) (xs ys : List Entry) → zones_made zs (xs ++ ys) ≡ zones_made (zones_made zs ys) xs
zones_join zs [] ys = refl
zones_join zs (x ∷ xs) ys = ap (place x) (zones_join zs xs ys)

place_new : (n : ℕ) (s : Side) (r : Region) (zs : List Zone) → NotFirst n zs
    → place (entry_of n s r) zs ≡ on_side s r (empty_zone n) ∷ zs
unfolding place
place_new n s r [] h = refl
place_new n s r (z ∷ zs) h = rw h

place_on : (s : Side) (r : Region) (z : Zone) (zs : List Zone)
    → place (entry_of z.id s r) (z ∷ zs) ≡ on_side s r z ∷ zs
unfolding place
place_on s r z zs = rw (eq-eqb z.id z.id refl)

cpu_on : (n : ℕ) (c i xs : List Region) (zs : List Zone)
    → zones_made (zone_with n c i ∷ zs) (map (entry_of n Cpu) xs) ≡ zone_with n (xs ++ c) i ∷ zs
unfolding on_side
cpu_on n c i [] zs = refl
cpu_on n c i (x ∷ xs) zs =
    ap (place (entry_of n Cpu x)) (cpu_on n c i xs zs) ∙ place_on Cpu x (zone_with n (xs ++ c) i) zs

module _ (n : ℕ) (zs : List Zone) (h : NotFirst n zs) where
  cpu_new : (x : Region) (xs : List Region)
      → zones_made zs (map (entry_of n Cpu) (x ∷ xs)) ≡ zone_with n (x ∷ xs) [] ∷ zs
  unfolding on_side
  cpu_new x [] = place_new n Cpu x zs h
  cpu_new x (y ∷ ys) = ap (place (entry_of n Cpu x)) (cpu_new y ys) ∙ place_on Cpu x (zone_with n (y ∷ ys) []) zs

  iommu_new : (x : Region) (xs : List Region)
      → zones_made zs (map (entry_of n Iommu) (x ∷ xs)) ≡ zone_with n [] (x ∷ xs) ∷ zs
  unfolding on_side
  iommu_new x [] = place_new n Iommu x zs h
  iommu_new x (y ∷ ys) = ap (place (entry_of n Iommu x)) (iommu_new y ys) ∙ place_on Iommu x (zone_with n [] (y ∷ ys)) zs

  zone_back : (c i : List Region)
      → zones_made zs (zone_entries (zone_with n c i)) ≡ cond (some (c ++ i)) (zone_with n c i ∷ zs) zs
  unfolding zone_entries some
  zone_back [] [] = refl
  zone_back [] (y ∷ i) = iommu_new y i
  zone_back (x ∷ c) [] = ap (zones_made zs) (append-nil (map (entry_of n Cpu) (x ∷ c))) ∙ cpu_new x c
  zone_back (x ∷ c) (y ∷ i) =
      zones_join zs (map (entry_of n Cpu) (x ∷ c)) (map (entry_of n Iommu) (y ∷ i))
      ∙ ap (λ (l : List Zone). zones_made l (map (entry_of n Cpu) (x ∷ c))) (iommu_new y i)
      ∙ cpu_on n [] (y ∷ i) (x ∷ c) zs
      ∙ ap (λ (l : List Region). zone_with n l (y ∷ i) ∷ zs) (append-nil (x ∷ c))

other_first : (y : Zone) (t : List Zone) → all (ids_differ y) t ≡ true → NotFirst y.id (with_regions t)
unfolding with_regions all
other_first y [] e = tt
other_first y (z ∷ t) e =
    let b = both_true (ids_differ y z) (all (ids_differ y) t) e in
    by (some (regions_of z))
    (ne_eqb z.id y.id (λ q. eqb-false y.id z.id (not-true _ b.0) (sym q))) (other_first y t b.1)
  where
    by : (k : Bool) → eqb z.id y.id ≡ false → NotFirst y.id (with_regions t)
        → NotFirst y.id (cond k (z ∷ with_regions t) (with_regions t))
    by true f g = f
    by false f g = g

zones_back : (t : List Zone) → pairwise ids_differ t ≡ true → zones_made [] (entries t) ≡ with_regions t
unfolding entries flat_map with_regions pairwise
zones_back [] e = refl
zones_back (z ∷ t) e =
    let b = both_true (all (ids_differ z) t) (pairwise ids_differ t) e in
    zones_join [] (zone_entries z) (entries t)
    ∙ ap (λ (l : List Zone). zones_made l (zone_entries z)) (zones_back t b.1)
    ∙ zone_back z.id (with_regions t) (other_first z t b.0) z.cpu z.iommu

-- ---- a line read back
word_printed : (s : Side) → Printed (side_word s)
unfolding side_word ascii
word_printed Cpu = (omega arith, (omega arith, (omega arith, tt)))
word_printed Iommu = (omega arith, (omega arith, (omega arith, (omega arith, (omega arith, tt)))))

word_read : (s : Side) → side_read (side_word s) ≡ s
unfolding side_read side_word ascii
word_read Cpu = refl
word_read Iommu = refl

some_of : (b : List ℕ) → 0 < length b → some b ≡ true
unfolding some
some_of [] h = absurd (omega arith)
some_of (c ∷ b) h = refl

abbrev Fits : Entry → Type 0
Fits e = RegionFits e.region

module _ (lim : Limits) where
  module _ (e : Entry) where
    -- the words after the first
    abbrev later : List (List ℕ)
    later =
        side_word e.side ∷ hex e.region.v.0 ∷ hex e.region.p.0 ∷ hex e.region.size
        ∷ decimal e.region.rights.0 ∷ signed (shift lim.page e.region) ∷ []

    fields_printed : All Printed (decimal e.zone ∷ later)
    fields_printed = (
      decimal_printed e.zone,
      (
        word_printed e.side,
        (
          hex_printed e.region.v.0,
          (
            hex_printed e.region.p.0,
            (
              hex_printed e.region.size,
              (decimal_printed e.region.rights.0, (signed_printed (shift lim.page e.region), tt)),
            ),
          ),
        ),
      ),
    )

    line_some : 0 < length (entry_line lim e)
    unfolding fields_of total
    line_some = omega (arith, line_length (decimal e.zone) later)

    fields_back : Fits e → entry_read (decimal e.zone ∷ later) ≡ e
    unfolding entry_read numbers_of
    fields_back f =
        λ i. record {
          zone = decimal_back e.zone i;
          side = word_read e.side i;
          region = record {
            v = record { 0 = hex_back e.region.v.0 f.0 i };
            p = record { 0 = hex_back e.region.p.0 f.1.0 i };
            size = hex_back e.region.size f.1.1.0 i;
            rights = record { 0 = decimal_back e.region.rights.0 i };
          };
        }

    one_back : (s : List ℕ) → Fits e
        → (entry_read (leading_words 7 (entry_line lim e ++ s)) ≡ e) × (past_words 7 (entry_line lim e ++ s) ≡ s)
    unfolding fields_of
    one_back s f =
        let (w, p) = line_back (decimal e.zone) later s fields_printed in (ap entry_read w ∙ fields_back f, p)

  entries_back : (k : ℕ) (es : List Entry) → length es ≤ k → All Fits es
      → entries_read k (flat_map (entry_line lim) es) ≡ es
  unfolding flat_map entries_read some
  entries_back zero [] h f = refl
  entries_back zero (e ∷ es) h f = absurd (omega arith)
  entries_back (suc k) [] h f = refl
  entries_back (suc k) (e ∷ es) h f =
      let rest : List ℕ = flat_map (entry_line lim) es in
      let (w, p) = one_back e rest f.0 in
      let there : some (entry_line lim e ++ rest) ≡ true =
      some_of (entry_line lim e ++ rest) (omega (arith, length-append (entry_line lim e) rest, line_some e)) in
      rw there
      (ap₂ (λ (x : Entry) (l : List Entry). x ∷ l) w (ap (entries_read k) p ∙ entries_back k es (omega arith) f.1))

  many_lines : (es : List Entry) → length es ≤ length (flat_map (entry_line lim) es)
  unfolding flat_map
  many_lines [] = omega arith
  many_lines (e ∷ es) =
      omega (arith, length-append (entry_line lim e) (flat_map (entry_line lim) es), line_some e, many_lines es)

  -- ---- the entries of a sound table fit
  module _ (say : Sayable lim) where
    set_fits : (n : ℕ) (s : Side) (xs : List Region) → All (Formed lim) xs → All Fits (map (entry_of n s) xs)
    set_fits n s [] h = tt
    set_fits n s (x ∷ xs) h = (sound_fits lim say x h.0.0 h.0.1, set_fits n s xs h.1)

    entries_fit : (t : List Zone) → All (Listable lim) t → All Fits (entries t)
    unfolding entries zone_entries flat_map
    entries_fit [] h = tt
    entries_fit (z ∷ t) h =
        all_joined Fits (map (entry_of z.id Cpu) z.cpu ++ map (entry_of z.id Iommu) z.iommu) (entries t)
        (all_joined Fits (map (entry_of z.id Cpu) z.cpu) (map (entry_of z.id Iommu) z.iommu)
        (set_fits z.id Cpu z.cpu h.0.cpu) (set_fits z.id Iommu z.iommu h.0.iommu))
        (entries_fit t h.1)

  pub listing_reads_back : ListingReadsBack lim
  unfolding listing_read
  listing_reads_back say s t u =
      let ok : SoundTable lim (config_of s) t = sound_parts lim (config_of s) t u.table in
      let fit : All Fits (entries t) =
      entries_fit say t (table_listable lim (config_of s) (passed lim s u.config.0 u.config.1) t ok) in
      ap (λ (b : List ℕ). zones_made [] (entries_read (length b) b)) (listing_entries lim t)
      ∙ ap (zones_made [])
      (entries_back (length (flat_map (entry_line lim) (entries t))) (entries t) (many_lines (entries t)) fit)
      ∙ zones_back t ok.ids

  pub listing_tells : ListingTells lim
  listing_tells say s q t u st su e =
      sym (listing_reads_back say s t st) ∙ ap listing_read e ∙ listing_reads_back say q u su

  -- a zone that holds nothing has no line
  none_listed : (z : Zone) → some (regions_of z) ≡ false → zone_lines lim z ≡ []
  unfolding zone_lines flat_map some
  none_listed z e = by z.cpu z.iommu e
    where
      by : (c i : List Region) → some (c ++ i) ≡ false
          → set_lines lim z.id Cpu c ++ set_lines lim z.id Iommu i ≡ []
      by [] [] e = refl
      by [] (y ∷ i) e = absurd (true≢false e)
      by (x ∷ c) i e = absurd (true≢false e)

  pub empty_unlisted : EmptyUnlisted lim
  unfolding listing flat_map with_regions
  empty_unlisted [] = refl
  empty_unlisted (z ∷ t) = by (some (regions_of z)) (none_listed z) (empty_unlisted t)
    where
      by : (k : Bool) → (k ≡ false → zone_lines lim z ≡ []) → listing lim t ≡ listing lim (with_regions t)
          → zone_lines lim z ++ listing lim t ≡ listing lim (cond k (z ∷ with_regions t) (with_regions t))
      by true f e = ap (λ (l : List ℕ). zone_lines lim z ++ l) e
      by false f e = ap (λ (l : List ℕ). l ++ listing lim t) (f refl) ∙ e

  -- ---- the library's answer
  module _ (c : StoredConfig) (t : StoredTable) where
    b : List ℕ
    b = listing lim (table_of t)

    own_refuses : Refusing (own_rule lim c t ∷ [])
    own_refuses = ((λ a e. eqb-false _ _ (not-true _ a) e), tt)

    in_order_law : (room : ℕ) → fill_answer (own_rule lim c t ∷ []) b room
        ≡ cond (eqb (standing lim c t) 0)
        (first_rule (plain 28 0 when ltb room (length b) ∷ []) (plain 0 (length b))) (plain (standing lim c t) 0)
    unfolding fill_answer first_rule
    in_order_law room = by _ _ (eqb (standing lim c t) 0)
      where
        by : (x y : Outcome) (k : Bool) → cond (not k) x y ≡ cond k y x
        by x y true = refl
        by x y false = refl

    -- where the state stands and there is room
    listed : (w : List ℕ) → standing lim c t ≡ 0 → length b ≤ length w → (list lim c t w).outcome ≡ plain 0 (length b)
    unfolding list b
    listed w e r = fits_zero b (length w) (own_rule lim c t ∷ []) (not_holds _ (eq-eqb _ 0 e), tt) r

    -- the longest buffer has room
    module _ (far : Reaches lim) (full : length c.records ≡ lim.regions) (e : standing lim c t ≡ 0) where
      room_for : length b ≤ longest_listing lim
      unfolding b
      room_for =
          let (ok, s) = stands_well lim c t e in
          listing_most lim far (config_of c) (passed lim c full ok) (table_of t) s

  pub list_is_exact : ListIsExact lim
  unfolding list b
  list_is_exact c t w =
      exactly_of (in_order_law c t (length w))
      (standing_exactly lim c t (λ k. plain k 0) _ _
      (first_of (plain 0 (length (b c t))) (λ o. plain 0 (length (b c t)) ≡ o) (tells_lt _ _ and every)
      (λ none a. ((λ e. e), λ e. e))))

  pub list_refusal_leaves : ListRefusalLeaves lim
  unfolding list
  list_refusal_leaves c t w ne = leaves_all _ (listing lim (table_of t)) w ne

  pub list_success_fills : ListSuccessFills lim
  unfolding list
  list_success_fills c t w e = filled (own_rule lim c t ∷ []) (listing lim (table_of t)) w (own_refuses c t) e

  pub longest_suffices : LongestSuffices lim
  unfolding list b
  longest_suffices far c full t w h =
      ⊎_elim
      (λ e.
      let z : standing lim c t ≡ 0 = eqb-true _ _ e in
      ap (λ (o : Outcome). o.number) (listed c t w z (omega (arith, room_for c t far full z))) ∙ sym z)
      (λ e.
      ap (λ (o : Outcome). o.number)
      (in_order_law c t (length w)
      ∙ ap (λ (k : Bool). cond k (first_rule (plain 28 0 when ltb (length w) (length (b c t)) ∷ [])
      (plain 0 (length (b c t)))) (plain (standing lim c t) 0)) e))
      (holds_or_fails (eqb (standing lim c t) 0))

  -- ---- the program's
  pub alone_refused : AloneRefused lim
  unfolding answer_alone answer_read list_read list_after
  alone_refused b w = by (read_plan lim b)
    where
      by : (o : Out Plan) → ((answer_read lim b o).number ≡ 0 → ⊥)
          → list_read lim b w o ≡ record { outcome = answer_read lim b o; buffer = w }
      by (bad k t) ne = refl
      by (got p t) ne =
          ap (λ (x : Bool). cond x
          (list lim (apply lim (base_of lim p) b).state.config (apply lim (base_of lim p) b).state.table w)
          (record { outcome = (apply lim (base_of lim p) b).outcome; buffer = w })) (ne_eqb _ 0 ne)

  -- an accepted plan leaves a state that stands, so nothing but its listing comes
  module _ (far : Reaches lim) (b w : List ℕ) (room : longest_listing lim ≤ length w) (p : Plan)
      (e : (apply lim (base_of lim p) b).outcome.number ≡ 0) where
    left : Terminal
    left = (apply lim (base_of lim p) b).state

    left_stands : standing lim left.config left.table ≡ 0
    unfolding left apply_by apply
    left_stands = apply_keeps_sound lim (base_of lim p) b (accepted_stands_by (plain_steps lim) (base_of lim p) b e)

    left_full : length left.config.records ≡ lim.regions
    unfolding left
    left_full =
        ap (λ (c : StoredConfig). length c.records) (configuration_stays lim (base_of lim p) b)
        ∙ length_room lim.regions no_region p.regions

    list_left : Fills (listing lim (table_of left.table)) w (list lim left.config left.table w).outcome
        (list lim left.config left.table w).buffer
    list_left =
        list_success_fills left.config left.table w
        (longest_suffices far left.config left_full left.table w room ∙ left_stands)

    after_fills : Fills (listing lim (table_of left.table)) w (list_after lim (apply lim (base_of lim p) b) w).outcome
        (list_after lim (apply lim (base_of lim p) b) w).buffer
    unfolding left list_after
    after_fills =
        subst (λ (f : Filled). Fills (listing lim (table_of left.table)) w f.outcome f.buffer)
        (sym (ap (λ (x : Bool). cond x (list lim left.config left.table w) (record
        { outcome = (apply lim (base_of lim p) b).outcome; buffer = w })) (eq-eqb _ 0 e)))
        list_left

  pub alone_listed : AloneListed lim
  unfolding answer_alone answer_read list_read left
  alone_listed far b w e room = by (read_plan lim b) refl e
    where
      by : (o : Out Plan) → read_plan lim b ≡ o → (answer_read lim b o).number ≡ 0
          → (p : Plan) × (read_plan lim b ≡ got p [])
          × Fills (listing lim (table_of (apply lim (base_of lim p) b).state.table)) w (list_read lim b w o).outcome
          (list_read lim b w o).buffer
      by (bad k t) g e = absurd (plan_refuses lim b k t g e)
      by (got p t) g e = (p, g ∙ ap (got p) (plan_ends lim b p t g), after_fills far b w room p e)
