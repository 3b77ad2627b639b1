-- The configuration's check: what an answer says is enough for it, and something that an answer says is always so;
-- hence each answer is given exactly when what it says is so.
use Prim.Native.Nat.{ℕ, ◌+◌, ◌≤◌, ◌<◌}
use native.Mathlib.Omega.{arith}
use mathlib.Core.Bool.{Bool, true, false, not, ◌&&◌, ◌||◌, true≢false}
use mathlib.Core.List.{flat_map}
use mathlib.Core.Logic.{◌⊎◌, inl, inr, ⊎_elim}
use mathlib.Core.Path.{◌≡◌, refl, sym, ap, subst, ◌∙◌}
use borrow.Author.Tests.{ltb-true, ltb-false, leb-true, leb-false, eqb-true, eqb-false, not-true, not-false, lt-ltb}
use borrow.Author.Tests.{le-ltb, le-leb, lt-leb, eq-eqb, ne_eqb}
use lib.Dec.{ltb, leb, eqb}
use lib.ListN.{length, get_or, take, drop, length-take, length-drop}
use lib.Seq.{get_or-take, get_or-drop}
use Rattle.lists.specs.First.{first_index, first_from, any}
use Rattle.lists.specs.Places.{places}
use Rattle.lists.specs.Rules.{first_rule}
use Rattle.lists.proofs.Every.{any_make, none_at, none_make}
use Rattle.lists.proofs.First.{any_first, first_passes, before_fails, first_is, any_from, from_passes, between_fails}
use Rattle.lists.proofs.First.{from_least, from_is}
use Rattle.lists.proofs.Places.{first_failing}
use Rattle.lists.proofs.Tests.{both_true, false_both, or_left, or_right, holds_or_fails, true_of}
use Rattle.rules.specs.Configuration.{position_rules, check, StoredConfig}
use Rattle.rules.specs.Limits.{Limits}
use Rattle.rules.specs.Regions.{well_formed, in_reach, phys_overlap, no_region, used}
use Rattle.rules.specs.declared.Checked.{Checked}
use Rattle.rules.specs.declared.Checked.TheVariants.{Sound, BadCount, BadGic, NotZero, Malformed, OutOfReach, Overlap}
use Rattle.rules.specs.declared.Region.{Region}
use Rattle.rules.proofs.Configuration.{gives_c1, gives_c2, gives_c3, gives_positions, c4_faulty, c5_faulty, c6_faulty}
use Rattle.rules.proofs.Configuration.{gives_c4, gives_c5, gives_c6, gives_none, first_fault, no_fault, passed}
use Rattle.rules.proofs.Regions.{equal_same, equal_refl}
use Rattle.promises.specs.Configuration.{at, RightCount, ZeroUpTo, Means, CheckIsExact, AllRegionsValid}
use Rattle.promises.specs.Configuration.{AllRegionsDisjoint, GicRegionInAllRegions, Opening, Fit, Reached}

-- a record is zero exactly where it is not used
pub zero_unused : (r : Region) → r ≡ no_region → used r ≡ false
zero_unused r e = ap used e ∙ ap not (equal_refl no_region)

pub unused_zero : (r : Region) → used r ≡ false → r ≡ no_region
unused_zero r e = equal_same r no_region (not-false _ e)

module _ (lim : Limits) where
  module _ (s : StoredConfig) (full : length s.records ≡ lim.regions) where
    -- ---- the tests of C1, C2, C3
    right_count : RightCount lim s → (eqb s.count 0 || ltb lim.regions s.count) ≡ false
    right_count h = false_both _ _ (ne_eqb s.count 0 (omega arith)) (le-ltb lim.regions s.count (omega arith))

    right_gic : s.gic < s.count → leb s.count s.gic ≡ false
    right_gic h = lt-leb s.count s.gic h

    -- C3 names the first used record
    first_used : (k : ℕ) → s.count ≤ k → k < lim.regions → (at s k ≡ no_region → ⊥) → ZeroUpTo s k
        → first_from used s.records s.count ≡ k
    first_used k h l ne z =
        from_is used s.records no_region s.count k h (omega arith)
        (true_of (used (at s k)) (λ e. ne (unused_zero (at s k) e))) (λ j a b. zero_unused (at s j) (z j a b))

    unused_test : (k : ℕ) → first_from used s.records s.count ≡ k → s.count ≤ lim.regions
        → any used (drop s.count s.records) ≡ ltb k lim.regions
    unused_test k e h =
        any_from used s.records s.count (omega arith) ∙ ap (λ (j : ℕ). ltb j (length s.records)) e
        ∙ ap (ltb k) full

    all_zero : s.count ≤ lim.regions → ZeroUpTo s lim.regions → any used (drop s.count s.records) ≡ false
    all_zero h z =
        none_make used (drop s.count s.records) no_region
        (λ j l. ap used (get_or-drop s.count s.records j no_region)
        ∙ zero_unused (at s (s.count + j)) (z (s.count + j) (omega arith)
        (omega (arith, length-drop s.count s.records))))

    -- ---- the positions
    module _ (i : ℕ) (inside : i < lim.regions) where
      earlier_at : (j : ℕ) → j < i → get_or (take i s.records) j no_region ≡ at s j
      earlier_at j h = get_or-take i s.records j no_region h

      long : length (take i s.records) ≡ i
      long = omega (arith, length-take i s.records, full)

      clear_test : ((j : ℕ) → j < i → phys_overlap (at s i) (at s j) ≡ false)
          → any (phys_overlap (at s i)) (take i s.records) ≡ false
      clear_test f =
          none_make (phys_overlap (at s i)) (take i s.records) no_region
          (λ j h. let l : j < i = omega (arith, long) in ap (phys_overlap (at s i)) (earlier_at j l) ∙ f j l)

      fit_none : Fit lim s i → Sound ≡ first_rule (position_rules lim s.records i) Sound
      fit_none f = gives_none lim s.records i f.formed f.near (clear_test f.clear)

      lowest : (k : ℕ) → k < i → phys_overlap (at s i) (at s k) ≡ true
          → ((j : ℕ) → j < k → phys_overlap (at s i) (at s j) ≡ false)
          → first_index (phys_overlap (at s i)) (take i s.records) ≡ k
      lowest k h e f =
          first_is (phys_overlap (at s i)) (take i s.records) no_region k (omega (arith, long))
          (ap (phys_overlap (at s i)) (earlier_at k h) ∙ e)
          (λ j l. ap (phys_overlap (at s i)) (earlier_at j (omega arith)) ∙ f j l)

      overlap_test : (k : ℕ) → k < i → phys_overlap (at s i) (at s k) ≡ true
          → any (phys_overlap (at s i)) (take i s.records) ≡ true
      overlap_test k h e =
          any_make (phys_overlap (at s i)) (take i s.records) no_region k (omega (arith, long))
          (ap (phys_overlap (at s i)) (earlier_at k h) ∙ e)

    opened : Opening lim s
        → first_rule (flat_map (position_rules lim s.records) (places 0 s.count)) Sound ≡ check lim s
    opened o = gives_positions lim s (right_count o.count) (right_gic o.gic) (all_zero o.count.1 o.rest)

    reached : (i : ℕ) (f : Checked) → Reached lim s i → f ≡ first_rule (position_rules lim s.records i) Sound
        → (f ≡ Sound → ⊥) → check lim s ≡ f
    reached i f r e bad =
        let c : s.count ≤ lim.regions = r.opening.count.1 in
        let l : i < s.count = r.there in
        sym (first_fault lim s.records s.count i f l (λ j h. fit_none j (omega arith) (r.earlier j h)) e bad
        ∙ opened r.opening)

    -- ---- what an answer says is enough for it
    from_means : (f : Checked) → Means lim s f → check lim s ≡ f
    from_means Sound (o, fit) =
        let c : s.count ≤ lim.regions = o.count.1 in
        sym (no_fault lim s.records s.count (λ j h. fit_none j (omega arith) (fit j h)) ∙ opened o)
    from_means BadCount (inl z) = sym (gives_c1 lim s (or_left _ _ (eq-eqb s.count 0 z)))
    from_means BadCount (inr m) =
        sym (gives_c1 lim s (or_right (eqb s.count 0) _ (lt-ltb lim.regions s.count m)))
    from_means BadGic (c, g) = sym (gives_c2 lim s (right_count c) (le-leb s.count s.gic g))
    from_means (NotZero k) (c, g, h, l, ne, z) =
        let e : first_from used s.records s.count ≡ k = first_used k h l ne z in
        sym (ap NotZero (sym e)
        ∙ gives_c3 lim s (right_count c) (right_gic g) (unused_test k e c.1 ∙ lt-ltb k lim.regions l))
    from_means (Malformed i) (r, a) = reached i (Malformed i) r (gives_c4 lim s.records i a) (c4_faulty i)
    from_means (OutOfReach i) (r, a, b) = reached i (OutOfReach i) r (gives_c5 lim s.records i a b) (c5_faulty i)
    from_means (Overlap i k) (r, a, b, h, e, f) =
        let c : s.count ≤ lim.regions = r.opening.count.1 in
        let l : i < s.count = r.there in
        let m : i < lim.regions = omega arith in
        reached i (Overlap i k) r
        (ap (Overlap i) (sym (lowest i m k h e f)) ∙ gives_c6 lim s.records i a b (overlap_test i m k h e))
        (c6_faulty i k)

    -- ---- some answer is always so
    count_cases : (RightCount lim s → (f : Checked) × Means lim s f)
        → (eqb s.count 0 ≡ true) ⊎ (eqb s.count 0 ≡ false)
        → (ltb lim.regions s.count ≡ true) ⊎ (ltb lim.regions s.count ≡ false)
        → (f : Checked) × Means lim s f
    count_cases go (inl e) q = (BadCount, inl (eqb-true _ _ e))
    count_cases go (inr e) (inl q) = (BadCount, inr (ltb-true _ _ q))
    count_cases go (inr e) (inr q) = let ne : s.count ≡ 0 → ⊥ = eqb-false _ _ e in go (omega arith, ltb-false _ _ q)

    gic_cases : RightCount lim s → (s.gic < s.count → (f : Checked) × Means lim s f)
        → (leb s.count s.gic ≡ true) ⊎ (leb s.count s.gic ≡ false) → (f : Checked) × Means lim s f
    gic_cases c go (inl e) = (BadGic, (c, leb-true _ _ e))
    gic_cases c go (inr e) = go (leb-false _ _ e)

    rest_cases : RightCount lim s → s.gic < s.count → (ZeroUpTo s lim.regions → (f : Checked) × Means lim s f)
        → (k : ℕ) → first_from used s.records s.count ≡ k
        → (ltb k lim.regions ≡ true) ⊎ (ltb k lim.regions ≡ false) → (f : Checked) × Means lim s f
    rest_cases c g go k e (inl q) =
        let h : first_from used s.records s.count < lim.regions = rw e (ltb-true _ _ q) in (
          NotZero k,
          (
            c,
            g,
            rw e at (from_least used s.records no_region s.count),
            ltb-true _ _ q,
            (λ z. true≢false
                (sym (rw e at (from_passes used s.records no_region s.count (omega arith)))
                ∙ zero_unused (at s k) z)),
            (λ j a b. unused_zero (at s j) (between_fails used s.records no_region s.count j a (rw e b))),
          ),
        )
    rest_cases c g go k e (inr q) =
        let h : lim.regions ≤ first_from used s.records s.count = rw e (ltb-false _ _ q) in
        go (λ j a b. unused_zero (at s j) (between_fails used s.records no_region s.count j a (omega arith)))

    fits : ℕ → Bool
    fits i =
        well_formed lim.page (at s i)
        && (in_reach lim (at s i) && not (any (phys_overlap (at s i)) (take i s.records)))

    fits_fit : (i : ℕ) → i < lim.regions → fits i ≡ true → Fit lim s i
    unfolding fits
    fits_fit i h e =
        let a = both_true (well_formed lim.page (at s i)) _ e in
        let b = both_true (in_reach lim (at s i)) _ a.1 in
        record {
          formed = a.0;
          near = b.0;
          clear =
              λ j l. ap (phys_overlap (at s i)) (sym (earlier_at i h j l))
              ∙ none_at (phys_overlap (at s i)) (take i s.records) no_region (not-true _ b.1) j
              (omega (arith, long i h));
        }

    overlap_means : (i : ℕ) → i < lim.regions → Reached lim s i → well_formed lim.page (at s i) ≡ true
        → in_reach lim (at s i) ≡ true → any (phys_overlap (at s i)) (take i s.records) ≡ true
        → (f : Checked) × Means lim s f
    overlap_means i h r a b e =
        let k : ℕ = first_index (phys_overlap (at s i)) (take i s.records) in
        let l : k < length (take i s.records) =
        ltb-true _ _ (sym (any_first (phys_overlap (at s i)) (take i s.records)) ∙ e) in
        let m : k < i = omega (arith, long i h) in (
          Overlap i k,
          (
            r,
            a,
            b,
            m,
            ap (phys_overlap (at s i)) (sym (earlier_at i h k m))
                ∙ first_passes (phys_overlap (at s i)) (take i s.records) no_region l,
            (λ j n. ap (phys_overlap (at s i)) (sym (earlier_at i h j (omega arith)))
                ∙ before_fails (phys_overlap (at s i)) (take i s.records) no_region j n),
          ),
        )

    fits_false : (i : ℕ) → fits i ≡ false → well_formed lim.page (at s i) ≡ true → in_reach lim (at s i) ≡ true
        → any (phys_overlap (at s i)) (take i s.records) ≡ true
    unfolding fits
    fits_false i e a b = not-false _ (rw (a, b) at e)

    position_cases : Opening lim s → (f : Checked) × Means lim s f
    position_cases o =
        ⊎_elim all_fit (λ (i, h, e, f). faulty i h e (λ j l. fits_fit j (omega arith) (f j l)))
        (first_failing fits s.count)
      where
        c : s.count ≤ lim.regions
        c = o.count.1

        all_fit : ((i : ℕ) → i < s.count → fits i ≡ true) → (f : Checked) × Means lim s f
        all_fit f = (Sound, (o, λ i h. fits_fit i (omega (arith, c)) (f i h)))

        by_tests : (i : ℕ) → i < s.count → Reached lim s i → fits i ≡ false
            → (well_formed lim.page (at s i) ≡ true) ⊎ (well_formed lim.page (at s i) ≡ false)
            → (in_reach lim (at s i) ≡ true) ⊎ (in_reach lim (at s i) ≡ false) → (f : Checked) × Means lim s f
        by_tests i h r e (inr a) q = (Malformed i, (r, a))
        by_tests i h r e (inl a) (inr b) = (OutOfReach i, (r, a, b))
        by_tests i h r e (inl a) (inl b) = overlap_means i (omega (arith, c)) r a b (fits_false i e a b)

        faulty : (i : ℕ) → i < s.count → fits i ≡ false → ((j : ℕ) → j < i → Fit lim s j)
            → (f : Checked) × Means lim s f
        faulty i h e f =
            by_tests i h (record { opening = o; there = h; earlier = f }) e
            (holds_or_fails (well_formed lim.page (at s i))) (holds_or_fails (in_reach lim (at s i)))

    some_means : (f : Checked) × Means lim s f
    some_means =
        count_cases
        (λ c. gic_cases c (λ g. rest_cases c g (λ z. position_cases (record { count = c; gic = g; rest = z }))
        (first_from used s.records s.count) refl (holds_or_fails _)) (holds_or_fails _))
        (holds_or_fails _) (holds_or_fails _)

    to_means : (f : Checked) → check lim s ≡ f → Means lim s f
    to_means f e = subst (Means lim s) (sym (from_means some_means.0 some_means.1) ∙ e) some_means.1

  pub check_is_exact : CheckIsExact lim
  check_is_exact s full f = (to_means s full f, from_means s full f)

  -- ---- upstream's three axioms
  pub all_regions_valid : AllRegionsValid lim
  all_regions_valid s (full, e) i h = ((passed lim s full e).formed i h, (passed lim s full e).near i h)

  pub all_regions_disjoint : AllRegionsDisjoint lim
  all_regions_disjoint s (full, e) = (passed lim s full e).apart

  pub gic_region_in_all_regions : GicRegionInAllRegions lim
  gic_region_in_all_regions s (full, e) = (passed lim s full e).gic
