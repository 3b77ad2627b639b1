-- The quick check of a configuration: regions of which none starts before the one in front of it ends have no fault,
-- where each is well formed and in reach and every position is among those that were gone through. Of the n positions
-- that keys name no two are the same, since a region with an address ends after it starts.
use Prim.Native.Nat.{ℕ, ◌+◌, ◌-◌, ◌/◌, ◌%◌, ◌≤◌, ◌<◌}
use native.Mathlib.Decide.{dec_lt}
use native.Mathlib.Nat.{sub-zero, div-add-mod', mod-lt}
use native.Mathlib.Omega.{arith}
use mathlib.Core.Bool.{Bool, true, false, not}
use mathlib.Core.List.{List, [], ◌∷◌, map, flat_map}
use mathlib.Core.Path.{◌≡◌, sym, ap, ap₂, ◌∙◌}
use borrow.Author.Tests.{ltb-true, leb-true, eqb-true, not-true, not-false, lt-ltb, le-ltb, le-leb, ne_eqb}
use lib.Dec.{eqb}
use lib.ListN.{length, get_or, take, length-take, length-map, get_or-map}
use lib.Seq.{get_or-take}
use mir.Syntax.{w64}
use mir.Val.{Fits}
use Rattle.lists.specs.First.{any, all}
use Rattle.lists.specs.Orders.{keep, is_below, differ, Among}
use Rattle.lists.specs.Pairs.{pairwise}
use Rattle.lists.specs.Places.{places}
use Rattle.lists.specs.Rules.{first_rule}
use Rattle.lists.proofs.Every.{none_make}
use Rattle.lists.proofs.Orders.{keep_all, keep_hit, keep_pass, low_at, all_there, row_there, pair_of}
use Rattle.lists.proofs.Pairs.{pairs_make}
use Rattle.lists.proofs.Places.{places_step, places_end, get_d_tab}
use Rattle.lists.proofs.Rules.{rules_past}
use Rattle.lists.proofs.Tests.{parts, not_fails}
use Rattle.rules.specs.Configuration.{position_rules}
use Rattle.rules.specs.Limits.{phys_reach, most_regions, limits}
use Rattle.rules.specs.Regions.{well_formed, in_reach, phys_overlap, region_eq, no_region}
use Rattle.rules.specs.declared.Checked.{Checked}
use Rattle.rules.specs.declared.Checked.TheVariants.{Sound}
use Rattle.rules.specs.declared.Region.{Region}
use Rattle.rules.proofs.Configuration.{telling_at, gives_none}
use Rattle.rules.proofs.Regions.{equal_same}
use Rattle.zones.specs.Layout.{config_records}
use Rattle.zones.specs.Records.{record_at, records_at}
use Rattle.zones.specs.Spans.{Span, spaced, filled, spans_apart, span_at, fits, FitBelow, ClearBelow}
use Rattle.zones.specs.Spans.{position_of, named}
use Rattle.zones.specs.View.{all_records}
use Rattle.zones.proofs.Spans.{apart_symmetric, spaced_at, spaced_pairs}

-- ---- regions that are well formed and in reach
-- what a sum that the code forms comes to
pub end_within : (r : Region) → fits r ≡ true → r.p.0 + r.size ≤ phys_reach
unfolding fits in_reach
end_within r e = leb-true _ _ (parts _ (parts _ e).1.0).1.0

pub key_fits : (r : Region) (t : Bool) (i n : ℕ) → n ≤ most_regions → i < n → t ≡ fits r → not t ≡ false
    → Fits w64 (r.p.0 + i)
key_fits r t i n l h e f =
    let m : r.p.0 + r.size ≤ phys_reach = end_within r (sym e ∙ not-false t f) in omega arith

module _ (w : List ℕ) where
  pub fit_none : FitBelow w 0
  unfolding FitBelow
  fit_none i h = absurd (omega arith)

  pub fit_more : (i : ℕ) (r : Region) (t : Bool) → FitBelow w i → r ≡ record_at w config_records i → t ≡ fits r
      → not t ≡ false → FitBelow w (i + 1)
  unfolding FitBelow
  fit_more i r t fit g e f j h =
      elim (dec_lt j i) [
        | yes a ↦ fit j a
        | no a ↦
            (let q : j ≡ i = omega arith in
            ap (λ (k : ℕ). fits (record_at w config_records k)) q ∙ ap fits (sym g) ∙ sym e ∙ not-false t f)
      ]

  fit_fewer : (m n : ℕ) → FitBelow w n → m ≤ n → FitBelow w m
  unfolding FitBelow
  fit_fewer m n fit h i l = fit i (omega arith)

  -- the same for a region that was read, and for its start with a position
  end_below : (n i : ℕ) (r : Region) → FitBelow w n → i < n → r ≡ record_at w config_records i
      → r.p.0 + r.size ≤ phys_reach
  unfolding FitBelow
  end_below n i r fit h g = end_within r (ap fits g ∙ fit i h)

  pub end_fits_below : (n i : ℕ) (r : Region) → FitBelow w n → i < n → r ≡ record_at w config_records i
      → Fits w64 (r.p.0 + r.size)
  end_fits_below n i r fit h g = let e : r.p.0 + r.size ≤ phys_reach = end_below n i r fit h g in omega arith

  filled_at : (n : ℕ) → FitBelow w n → (i : ℕ) → i < n → filled (span_at w i) ≡ true
  unfolding FitBelow fits well_formed filled span_at
  filled_at n fit i h = (parts _ (parts _ (fit i h)).0).0

-- ---- no rule applies at a position below 0; nor where every two regions are apart
pub clear_none : (w : List ℕ) → ClearBelow w 0
unfolding ClearBelow
clear_none w i h = absurd (omega arith)

clear_among : (w : List ℕ) (n : ℕ) (ps : List ℕ) → n ≤ most_regions → FitBelow w n → Among ps n
    → pairwise spans_apart (map (span_at w) ps) ≡ true → ClearBelow w n
unfolding ClearBelow FitBelow fits records_at spans_apart span_at
clear_among w n ps h fit there e i l =
    let here : get_or (all_records w) i no_region ≡ record_at w config_records i =
    get_d_tab most_regions (record_at w config_records) i no_region (omega arith) in
    let f = parts _ (fit i l) in
    let none : any (phys_overlap (get_or (all_records w) i no_region)) (take i (all_records w)) ≡ false =
    none_make (phys_overlap (get_or (all_records w) i no_region)) (take i (all_records w)) no_region
    (λ j q.
    let m : j < i = omega (arith, length-take i (all_records w)) in
    ap₂ phys_overlap here (get_or-take i (all_records w) j no_region m
    ∙ get_d_tab most_regions (record_at w config_records) j no_region (omega arith))
    ∙ not-true _ (pair_of spans_apart apart_symmetric (span_at w) ps n there e i j l (omega arith) (λ z. omega arith))) in
    sym (gives_none limits (all_records w) i (ap (well_formed limits.page) here ∙ f.0)
    (ap (in_reach limits) here ∙ f.1.0) none)

-- ---- the loop through the positions in a row
spaced_step : (e : ℕ) (s : Span) (ss : List Span) → e ≤ s.0 → spaced e (s ∷ ss) ≡ spaced (s.0 + s.1) ss
unfolding spaced
spaced_step e s ss h = rw (le-leb e s.0 h)

module _ (w : List ℕ) (i n end : ℕ) (r : Region) (whole : Bool) where
  pub row_on : spaced end (map (span_at w) (places i (n - i))) ≡ whole → i < n → r ≡ record_at w config_records i
      → end ≤ r.p.0 → spaced (r.p.0 + r.size) (map (span_at w) (places (i + 1) (n - (i + 1)))) ≡ whole
  unfolding span_at
  row_on inv h g l =
      let rest : List Span = map (span_at w) (places (i + 1) (n - (i + 1))) in
      ap (λ (x : Region). spaced (x.p.0 + x.size) rest) g
      ∙ sym (spaced_step end (span_at w i) rest (omega (arith, ap (λ (x : Region). x.p.0) g)))
      ∙ sym (ap (λ (l : List ℕ). spaced end (map (span_at w) l)) (places_step i n h)) ∙ inv

pub row_start : (w : List ℕ) (n : ℕ)
    → spaced 0 (map (span_at w) (places 0 (n - 0))) ≡ spaced 0 (map (span_at w) (places 0 n))
row_start w n = rw sub-zero

pub clear_row : (w : List ℕ) (i n end : ℕ) → n ≤ most_regions → FitBelow w n
    → spaced end (map (span_at w) (places i (n - i))) ≡ spaced 0 (map (span_at w) (places 0 n)) → n ≤ i → ClearBelow w n
unfolding spaced
clear_row w i n end h fit inv b =
    clear_among w n (places 0 n) h fit (row_there n)
    (spaced_pairs 0 (map (span_at w) (places 0 n))
    (sym inv ∙ ap (λ (l : List ℕ). spaced end (map (span_at w) l)) (places_end i n b)))

-- ---- the loop through the positions that keys name: i is what key j names
module _ (w keys : List ℕ) (m n j i : ℕ) where
  abbrev rest : List ℕ
  rest = named keys m (j + 1) (n - (j + 1))

  named_step : j < n
      → named keys m j (n - j)
      ≡ keep (is_below m) (position_of keys j ∷ map (position_of keys) (places (j + 1) (n - (j + 1))))
  unfolding named
  named_step h = ap (λ (l : List ℕ). keep (is_below m) (map (position_of keys) l)) (places_step j n h)

  named_hit : j < n → i ≡ position_of keys j → i < m → named keys m j (n - j) ≡ i ∷ rest
  unfolding named is_below
  named_hit h e l =
      named_step h ∙ keep_hit (is_below m) (position_of keys j) _ (lt-ltb (position_of keys j) m (omega arith))
      ∙ ap (λ (k : ℕ). k ∷ rest) (sym e)

  named_pass : j < n → i ≡ position_of keys j → m ≤ i → named keys m j (n - j) ≡ rest
  unfolding named is_below
  named_pass h e l =
      named_step h ∙ keep_pass (is_below m) (position_of keys j) _ (le-ltb (position_of keys j) m (omega arith))

  pub met_hit : (met total : ℕ) → met + length (named keys m j (n - j)) ≡ total → j < n → i ≡ position_of keys j
      → i < m → met + 1 + length rest ≡ total
  met_hit met total inv h e l = omega (arith, ap length (named_hit h e l))

  pub met_pass : (met total : ℕ) → met + length (named keys m j (n - j)) ≡ total → j < n → i ≡ position_of keys j
      → m ≤ i → met + length rest ≡ total
  met_pass met total inv h e l = omega (arith, ap length (named_pass h e l))

  module _ (end : ℕ) (whole : Bool) where
    pub key_on : (r : Region) → spaced end (map (span_at w) (named keys m j (n - j))) ≡ whole → j < n
        → i ≡ position_of keys j → i < m → r ≡ record_at w config_records i → end ≤ r.p.0
        → spaced (r.p.0 + r.size) (map (span_at w) rest) ≡ whole
    unfolding span_at
    key_on r inv h e l g q =
        ap (λ (x : Region). spaced (x.p.0 + x.size) (map (span_at w) rest)) g
        ∙ sym (spaced_step end (span_at w i) (map (span_at w) rest) (omega (arith, ap (λ (x : Region). x.p.0) g)))
        ∙ sym (ap (λ (k : List ℕ). spaced end (map (span_at w) k)) (named_hit h e l)) ∙ inv

    pub key_pass : spaced end (map (span_at w) (named keys m j (n - j))) ≡ whole → j < n → i ≡ position_of keys j
        → m ≤ i → spaced end (map (span_at w) rest) ≡ whole
    key_pass inv h e l = sym (ap (λ (k : List ℕ). spaced end (map (span_at w) k)) (named_pass h e l)) ∙ inv

pub keys_start : (w keys : List ℕ) (m n : ℕ)
    → spaced 0 (map (span_at w) (named keys m 0 (n - 0))) ≡ spaced 0 (map (span_at w) (named keys m 0 n))
keys_start w keys m n = rw sub-zero

pub met_start : (keys : List ℕ) (m n : ℕ) → 0 + length (named keys m 0 (n - 0)) ≡ length (named keys m 0 n)
met_start keys m n = let e : n - 0 ≡ n = omega arith in omega (arith, ap (λ (k : ℕ). length (named keys m 0 k)) e)

-- positions of regions that have an address and stand so differ
spaced_differ : (f : ℕ → Span) (m : ℕ) (ps : List ℕ) → all (is_below m) ps ≡ true
    → ((i : ℕ) → i < m → filled (f i) ≡ true) → spaced 0 (map f ps) ≡ true → pairwise differ ps ≡ true
unfolding differ filled
spaced_differ f m ps low full e = pairs_make differ ps 0 (λ a b h l. not_fails _ (ne_eqb _ _ (other a b h l)))
  where
    other : (a b : ℕ) → a < b → b < length ps → get_or ps a 0 ≡ get_or ps b 0 → ⊥
    other a b h l q =
        let s : get_or (map f ps) a (f 0) ≡ f (get_or ps a 0) = get_or-map f ps a 0 in
        let t : get_or (map f ps) b (f 0) ≡ f (get_or ps a 0) = get_or-map f ps b 0 ∙ ap f (sym q) in
        let k : (get_or (map f ps) a (f 0)).0 + (get_or (map f ps) a (f 0)).1 ≤ (get_or (map f ps) b (f 0)).0 =
        spaced_at 0 (map f ps) (f 0) e a b h (omega (arith, length-map ps f)) in
        let n : 0 < (f (get_or ps a 0)).1 = ltb-true _ _ (full (get_or ps a 0) (low_at m ps low a (omega arith))) in
        omega (arith, ap (λ (x : Span). x.0) s, ap (λ (x : Span). x.1) s, ap (λ (x : Span). x.0) t)

-- m positions below m were gone through
pub clear_met : (w keys : List ℕ) (m n j end met : ℕ) → m ≤ most_regions → FitBelow w m
    → spaced end (map (span_at w) (named keys m j (n - j))) ≡ spaced 0 (map (span_at w) (named keys m 0 n))
    → met + length (named keys m j (n - j)) ≡ length (named keys m 0 n) → n ≤ j → eqb met m ≡ true → ClearBelow w m
unfolding spaced keep named
clear_met w keys m n j end met h fit inv count b e =
    let none : named keys m j (n - j) ≡ [] =
    ap (λ (l : List ℕ). keep (is_below m) (map (position_of keys) l)) (places_end j n b) in
    let q : spaced 0 (map (span_at w) (named keys m 0 n)) ≡ true =
    sym inv ∙ ap (λ (l : List ℕ). spaced end (map (span_at w) l)) none in
    let same : met ≡ m = eqb-true _ _ e in
    let len : length (named keys m 0 n) ≡ m = omega (arith, ap length none) in
    let low : all (is_below m) (named keys m 0 n) ≡ true =
    keep_all (is_below m) (map (position_of keys) (places 0 n)) in
    clear_among w m (named keys m 0 n) h fit
    (all_there m (named keys m 0 n) low (spaced_differ (span_at w) m (named keys m 0 n) low (filled_at w m fit) q) len)
    (spaced_pairs 0 (map (span_at w) (named keys m 0 n)) q)

-- ---- what a call told
pub told_clear : (w : List ℕ) (n : ℕ) (t : Bool) → (t ≡ true → ClearBelow w n) → t ≡ true → ClearBelow w n
told_clear w n t told e = told e

-- ---- halfway between two numbers
module _ (lo hi : ℕ) (h : lo < hi) where
  pub mid_low : lo + (hi - lo) / 2 < hi
  mid_low =
      let z : 0 < 2 = omega arith in
      let l : (hi - lo) % 2 < 2 = mod-lt (hi - lo) z in
      omega (arith, div-add-mod' (hi - lo) 2)

  pub mid_within : (n : ℕ) → hi ≤ n → lo + (hi - lo) / 2 ≤ n
  mid_within n l = omega (arith, mid_low)

  pub mid_fits : (n : ℕ) → hi ≤ n → n ≤ most_regions → Fits w64 (lo + (hi - lo) / 2)
  mid_fits n l m = omega (arith, mid_low)

  pub mid_most : (n : ℕ) → hi ≤ n → n ≤ most_regions → lo + (hi - lo) / 2 ≤ most_regions
  mid_most n l m = omega (arith, mid_low)

  pub mid_below : lo + (hi - lo) / 2 ≤ hi
  mid_below = omega (arith, mid_low)

  pub lower_less : lo + (hi - lo) / 2 - lo < hi - lo
  lower_less = omega (arith, mid_low)

pub upper_less : (lo hi : ℕ) → 1 < hi - lo → hi - (lo + (hi - lo) / 2) < hi - lo
upper_less lo hi h =
    let z : 0 < 2 = omega arith in
    let l : (hi - lo) % 2 < 2 = mod-lt (hi - lo) z in
    omega (arith, div-add-mod' (hi - lo) 2)

pub fit_mid : (w : List ℕ) (lo hi n : ℕ) → FitBelow w n → 1 < hi - lo → hi ≤ n → FitBelow w (lo + (hi - lo) / 2)
fit_mid w lo hi n fit h l = fit_fewer w (lo + (hi - lo) / 2) n fit (mid_within lo hi (omega arith) n l)

-- ---- a region that was compared
pub place_told : (r e x : Region) (t : Bool) → t ≡ region_eq r e → t ≡ true → e ≡ x → r ≡ x
place_told r e x t q f g = equal_same r e (sym q ∙ f) ∙ g

-- ---- the answer: that of the positions from i on
pub answer_from : (w : List ℕ) (i n : ℕ) (v : Checked) → ClearBelow w i → i ≤ n
    → v ≡ first_rule (flat_map (position_rules limits (all_records w)) (places i (n - i))) Sound
    → v ≡ first_rule (flat_map (position_rules limits (all_records w)) (places 0 n)) Sound
unfolding ClearBelow
answer_from w i n v clear h e =
    e ∙ rules_past (position_rules limits (all_records w)) n Sound (telling_at limits (all_records w)) i h clear
