-- How far two lists go alike: by induction along both. There is one such place, and where it is an end of one of the lists, the other
-- goes on from there.
use Prim.Native.Nat.{ℕ, zero, suc, ◌+◌, ◌≤◌, ◌<◌}
use native.Mathlib.Decide.{dec_lt}
use native.Mathlib.Omega.{arith}
use mathlib.Core.Bool.{Bool, true, false, cond}
use mathlib.Core.List.{List, [], ◌∷◌, ◌++◌}
use mathlib.Core.Path.{◌≡◌, refl, sym, ap, ap₂, ◌∙◌}
use borrow.Author.Tests.{eq-eqb, ne_eqb, eqb-true, eqb-false}
use lib.Dec.{eqb}
use lib.ListN.{length, get_or, drop, length-append, get_or-append, drop_of_length-le}
use lib.Seq.{drop-cons}
use Rattle.lists.specs.Alike.{alike, SameAt, FirstLack}

-- ---- it is what it says
module _ (x y : ℕ) (b c : List ℕ) where
  cons_same : (k : ℕ) → x ≡ y → FirstLack b c k → FirstLack (x ∷ b) (y ∷ c) (suc k)
  cons_same k e h = record {
    within = omega (arith, h.within);
    before = before;
    lacks = λ l s. h.lacks (omega arith) (omega (arith, s.0), s.1);
  }
    where
      before : (i : ℕ) → i < suc k → SameAt (x ∷ b) (y ∷ c) i
      before zero l = (omega arith, sym e)
      before (suc i) l = let (m, q) = h.before i (omega arith) in (omega (arith, m), q)

  cons_other : (x ≡ y → ⊥) → FirstLack (x ∷ b) (y ∷ c) 0
  cons_other ne = record {
    within = omega arith;
    before = λ i l. absurd (omega arith);
    lacks = λ l s. ne (sym s.1);
  }

pub alike_is : (b c : List ℕ) → FirstLack b c (alike b c)
unfolding alike
alike_is [] c = record { within = omega arith; before = λ i l. absurd (omega arith); lacks = λ l s. omega arith }
alike_is (x ∷ b) [] = record {
  within = omega arith;
  before = λ i l. absurd (omega arith);
  lacks = λ l s. omega (arith, s.0);
}
alike_is (x ∷ b) (y ∷ c) = by (eqb x y) refl (alike_is b c)
  where
    by : (t : Bool) → eqb x y ≡ t → FirstLack b c (alike b c) → FirstLack (x ∷ b) (y ∷ c) (cond t (suc (alike b c)) 0)
    by true e h = cons_same x y b c (alike b c) (eqb-true x y e) h
    by false e h = cons_other x y b c (eqb-false x y e)

-- and no other place is
pub one_lack : (b c : List ℕ) (j k : ℕ) → FirstLack b c j → FirstLack b c k → j ≡ k
one_lack b c j k g h =
    elim (dec_lt j k) [
      | yes l ↦ absurd (g.lacks (omega (arith, h.within)) (h.before j l))
      | no n ↦
          elim (dec_lt k j) [
            | yes l ↦ absurd (h.lacks (omega (arith, g.within)) (g.before k l))
            | no m ↦ omega arith
          ]
    ]

-- ---- ends
-- the first is as far as they go alike: the second goes on from there
pub alike_out : (b c : List ℕ) → alike b c ≡ length b → c ≡ b ++ drop (length b) c
unfolding alike
alike_out [] c e = refl
alike_out (x ∷ b) [] e = absurd (omega (arith, e))
alike_out (x ∷ b) (y ∷ c) e = by (eqb x y) refl e (alike_out b c)
  where
    by : (t : Bool) → eqb x y ≡ t → cond t (suc (alike b c)) 0 ≡ suc (length b)
        → (alike b c ≡ length b → c ≡ b ++ drop (length b) c) → y ∷ c ≡ x ∷ (b ++ drop (length b) c)
    by true e k h = λ i. sym (eqb-true x y e) i ∷ h (omega arith) i
    by false e k h = absurd (omega arith)

-- a list and what it begins are alike to its end
pub alike_begun : (b t : List ℕ) → alike b (b ++ t) ≡ length b
alike_begun b t =
    one_lack b (b ++ t) _ _ (alike_is b (b ++ t))
    (record {
      within = omega arith;
      before = λ i h. (omega (arith, length-append b t), get_or-append b t 0 i h);
      lacks = λ h s. omega arith;
    })

-- ---- place by place, as a loop goes
module _ (b c : List ℕ) where
  -- the answer, as it is from place i on
  abbrev pub alike_from : ℕ → ℕ
  alike_from i = i + alike (drop i b) (drop i c)

  pub alike_start : alike_from 0 ≡ alike b c
  alike_start = omega arith

  module _ (i : ℕ) (so : alike_from i ≡ alike b c) where
    -- the same number in both: one further
    pub alike_on : i < length b → i < length c → get_or b i 0 ≡ get_or c i 0 → alike_from (i + 1) ≡ alike b c
    unfolding alike
    alike_on hb hc e =
        let q : alike (drop i b) (drop i c) ≡ alike (get_or b i 0 ∷ drop (suc i) b) (get_or c i 0 ∷ drop (suc i) c) =
        ap₂ alike (drop-cons b i 0 hb) (drop-cons c i 0 hc) in
        let r : alike (get_or b i 0 ∷ drop (suc i) b) (get_or c i 0 ∷ drop (suc i) c)
        ≡ suc (alike (drop (suc i) b) (drop (suc i) c)) =
        ap (λ (t : Bool). cond t (suc (alike (drop (suc i) b) (drop (suc i) c))) 0) (eq-eqb (get_or b i 0) (get_or c i 0) e) in
        let n : suc (alike (drop (suc i) b) (drop (suc i) c)) ≡ suc (alike (drop (i + 1) b) (drop (i + 1) c)) =
        ap (λ (k : ℕ). suc (alike (drop k b) (drop k c))) (let e : suc i ≡ i + 1 = omega arith in e) in
        omega (arith, so, q, r, n)

    -- one of them ends, or they differ: so far and no further
    pub alike_ended : length b ≤ i → i ≡ alike b c
    unfolding alike
    alike_ended h =
        let z : alike (drop i b) (drop i c) ≡ 0 = ap (λ (l : List ℕ). alike l (drop i c)) (drop_of_length-le b h) in
        omega (arith, so, z)

    pub alike_short : i < length b → length c ≤ i → i ≡ alike b c
    unfolding alike
    alike_short hb hc =
        let z : alike (drop i b) (drop i c) ≡ 0 = ap₂ alike (drop-cons b i 0 hb) (drop_of_length-le c hc) in
        omega (arith, so, z)

    pub alike_differ : i < length b → i < length c → (get_or b i 0 ≡ get_or c i 0 → ⊥) → i ≡ alike b c
    unfolding alike
    alike_differ hb hc ne =
        let z : alike (drop i b) (drop i c) ≡ 0 =
        ap₂ alike (drop-cons b i 0 hb) (drop-cons c i 0 hc)
        ∙ ap (λ (t : Bool). cond t (suc (alike (drop (suc i) b) (drop (suc i) c))) 0)
        (ne_eqb (get_or b i 0) (get_or c i 0) ne) in
        omega (arith, so, z)
