-- Spans of which none starts before the one in front of it ends are apart, since an end is never below its start; and
-- in the order of their starts, spans that are apart stand so.
use Prim.Native.Nat.{ℕ, zero, suc, ◌+◌, ◌≤◌, ◌<◌, min, max}
use native.Mathlib.Omega.{arith}
use mathlib.Core.Bool.{Bool, true, not, ◌&&◌}
use mathlib.Core.List.{List, [], ◌∷◌, map}
use mathlib.Core.Path.{◌≡◌, refl, sym, ap, ◌∙◌}
use borrow.Author.Tests.{ltb-true, ltb-false, leb-true, not-true, le-ltb, le-leb}
use lib.Dec.{leb}
use lib.ListN.{length, get_or, length-map, get_or-map}
use Rattle.lists.specs.First.{all}
use Rattle.lists.specs.Orders.{is_below, differ}
use Rattle.lists.specs.Pairs.{pairwise}
use Rattle.lists.specs.Places.{tab}
use Rattle.lists.proofs.Every.{all_at, all_make}
use Rattle.lists.proofs.Orders.{any_order, low_at}
use Rattle.lists.proofs.Pairs.{pairs_make}
use Rattle.lists.proofs.Places.{length_tab, get_d_tab}
use Rattle.lists.proofs.Tests.{both_true, true_both, same_test, not_fails}
use Rattle.rules.specs.Addresses.{overlaps}
use Rattle.rules.proofs.Addresses.{overlap_symmetric}
use Rattle.zones.specs.Spans.{Span, spaced, filled, starts_by, spans_apart}

pub apart_symmetric : (s t : Span) → spans_apart s t ≡ spans_apart t s
unfolding spans_apart
apart_symmetric s t = ap not (overlap_symmetric s.0 s.1 t.0 t.1)

ended_apart : (s t : Span) → s.0 + s.1 ≤ t.0 → spans_apart s t ≡ true
unfolding spans_apart overlaps
ended_apart s t h = not_fails _ (le-ltb (max s.0 t.0) (min (s.0 + s.1) (t.0 + t.1)) (omega arith))

-- a span that is apart from one that starts no later starts where that one ends, or later
apart_ended : (s t : Span) → filled t ≡ true → starts_by s t ≡ true → spans_apart s t ≡ true → s.0 + s.1 ≤ t.0
unfolding spans_apart overlaps filled starts_by
apart_ended s t f o a =
    let n : 0 < t.1 = ltb-true _ _ f in
    let l : s.0 ≤ t.0 = leb-true _ _ o in
    let m : min (s.0 + s.1) (t.0 + t.1) ≤ max s.0 t.0 = ltb-false _ _ (not-true _ a) in
    omega arith

-- ---- spaced: said of each one, and of each two
spaced_from : (e : ℕ) (ss : List Span) (d : Span) → spaced e ss ≡ true → (j : ℕ) → j < length ss → e ≤ (get_or ss j d).0
unfolding spaced
spaced_from e [] d q j h = absurd (omega arith)
spaced_from e (s ∷ ss) d q zero h = leb-true e s.0 (both_true (leb e s.0) (spaced (s.0 + s.1) ss) q).0
spaced_from e (s ∷ ss) d q (suc j) h =
    let b = both_true (leb e s.0) (spaced (s.0 + s.1) ss) q in
    let l : e ≤ s.0 = leb-true _ _ b.0 in
    let m : s.0 + s.1 ≤ (get_or ss j d).0 = spaced_from (s.0 + s.1) ss d b.1 j (omega arith) in
    omega arith

pub spaced_at : (e : ℕ) (ss : List Span) (d : Span) → spaced e ss ≡ true → (i j : ℕ) → i < j → j < length ss
    → (get_or ss i d).0 + (get_or ss i d).1 ≤ (get_or ss j d).0
unfolding spaced
spaced_at e [] d q i j h l = absurd (omega arith)
spaced_at e (s ∷ ss) d q zero zero h l = absurd (omega arith)
spaced_at e (s ∷ ss) d q zero (suc j) h l =
    spaced_from (s.0 + s.1) ss d (both_true (leb e s.0) (spaced (s.0 + s.1) ss) q).1 j (omega arith)
spaced_at e (s ∷ ss) d q (suc i) zero h l = absurd (omega arith)
spaced_at e (s ∷ ss) d q (suc i) (suc j) h l =
    spaced_at (s.0 + s.1) ss d (both_true (leb e s.0) (spaced (s.0 + s.1) ss) q).1 i j (omega arith)
    (omega arith)

pub spaced_pairs : (e : ℕ) (ss : List Span) → spaced e ss ≡ true → pairwise spans_apart ss ≡ true
spaced_pairs e ss q =
    pairs_make spans_apart ss (0, 0)
    (λ i j h l. ended_apart (get_or ss i (0, 0)) (get_or ss j (0, 0)) (spaced_at e ss (0, 0) q i j h l))

spaced_make : (e : ℕ) (ss : List Span) → all (λ (t : Span). leb e t.0) ss ≡ true → all filled ss ≡ true
    → pairwise starts_by ss ≡ true → pairwise spans_apart ss ≡ true → spaced e ss ≡ true
unfolding spaced all pairwise
spaced_make e [] low f o a = refl
spaced_make e (s ∷ ss) low f o a =
    let b = both_true (all (starts_by s) ss) (pairwise starts_by ss) o in
    let c = both_true (all (spans_apart s) ss) (pairwise spans_apart ss) a in
    let g = both_true (filled s) (all filled ss) f in
    let next : all (λ (t : Span). leb (s.0 + s.1) t.0) ss ≡ true =
    all_make (λ (t : Span). leb (s.0 + s.1) t.0) ss (0, 0)
    (λ j h. le-leb _ _ (apart_ended s (get_or ss j (0, 0)) (all_at filled ss (0, 0) g.1 j h)
    (all_at (starts_by s) ss (0, 0) b.0 j h) (all_at (spans_apart s) ss (0, 0) c.0 j h))) in
    true_both (leb e s.0) (spaced (s.0 + s.1) ss) (both_true (leb e s.0) _ low).0
    (spaced_make (s.0 + s.1) ss next g.1 b.1 c.1)

-- none starts before the one in front of it ends, exactly when the starts ascend and any two are apart
pub spaced_exactly : (ss : List Span) → all filled ss ≡ true
    → spaced 0 ss ≡ (pairwise starts_by ss && pairwise spans_apart ss)
unfolding starts_by
spaced_exactly ss f =
    same_test (spaced 0 ss) (pairwise starts_by ss && pairwise spans_apart ss)
    (λ q. true_both _ _ (ascend q) (spaced_pairs 0 ss q))
    (λ q. let b = both_true (pairwise starts_by ss) (pairwise spans_apart ss) q in
    spaced_make 0 ss
    (all_make (λ (t : Span). leb 0 t.0) ss (0, 0) (λ j h. le-leb 0 (get_or ss j (0, 0)).0 (omega arith))) f
    b.0 b.1)
  where
    ascend : spaced 0 ss ≡ true → pairwise starts_by ss ≡ true
    ascend q =
        pairs_make starts_by ss (0, 0)
        (λ i j h l. le-leb (get_or ss i (0, 0)).0 (get_or ss j (0, 0)).0 (omega (arith, spaced_at 0 ss (0, 0) q i j h l)))

-- The law: n spans, each with an address, in an order in which their starts ascend. Neighbours are apart in it, exactly
-- when any two of the n are apart.
pub neighbours_apart : (f : ℕ → Span) (n : ℕ) (ps : List ℕ) → all (is_below n) ps ≡ true → pairwise differ ps ≡ true
    → length ps ≡ n → all filled (tab n f) ≡ true → pairwise starts_by (map f ps) ≡ true
    → spaced 0 (map f ps) ≡ pairwise spans_apart (tab n f)
neighbours_apart f n ps low d len full up =
    spaced_exactly (map f ps) full_too ∙ ap (λ (t : Bool). t && pairwise spans_apart (map f ps)) up
    ∙ any_order spans_apart apart_symmetric f ps n low d len
  where
    full_too : all filled (map f ps) ≡ true
    full_too =
        all_make filled (map f ps) (f 0)
        (λ a h. let l : get_or ps a 0 < n = low_at n ps low a (omega (arith, length-map ps f)) in
        ap filled (get_or-map f ps a 0 ∙ sym (get_d_tab n f (get_or ps a 0) (f 0) l))
        ∙ all_at filled (tab n f) (f 0) full (get_or ps a 0) (omega (arith, length_tab n f)))
