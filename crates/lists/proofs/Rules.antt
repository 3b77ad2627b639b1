-- The first rule that applies: a rule whose test fails may be left out, so where a chain, a stage or a loop of tests
-- stands, the rules that are left give the whole answer.
use Prim.Native.Nat.{ℕ, zero, suc, ◌+◌, ◌-◌, ◌≤◌, ◌<◌, suc-le-suc}
use native.Mathlib.Decide.{dec_lt}
use native.Mathlib.Nat.{sub-zero, le_of_suc-le-suc}
use native.Mathlib.Omega.{arith}
use mathlib.Core.Bool.{Bool, true, false, cond, not, true≢false}
use mathlib.Core.List.{List, [], ◌∷◌, ◌++◌, map, flat_map}
use mathlib.Core.Logic.{inl, inr, ◌↔◌}
use mathlib.Core.Path.{◌≡◌, refl, sym, ap, subst, ◌∙◌}
use borrow.Author.Tests.{ltb-true, eqb-true, eqb-false, eq-eqb, not-true}
use lib.Dec.{ltb, eqb}
use lib.ListN.{length, get_or, length-map, get_or-map}
use Rattle.lists.specs.First.{all}
use Rattle.lists.specs.Pairs.{pairwise}
use Rattle.lists.specs.Places.{places}
use Rattle.lists.specs.Rules.{Rule, ◌when◌, first_rule, Silent, Given, numbered, Applies}
use Rattle.lists.proofs.Pairs.{pairs_at}
use Rattle.lists.proofs.Places.{get_d_any, places_step, places_end}
use Rattle.lists.proofs.Tests.{both_true, true_both}

module _ {R : Type 0} where
  -- ---- what each return of a chain of rules answers
  -- the first rule applies; it does not, and the answer is that of the others; none is left
  pub rule_hit : (a b other : R) (t : Bool) (rs : List (Rule R)) → t ≡ true → a ≡ b
      → a ≡ first_rule (b when t ∷ rs) other
  unfolding first_rule
  rule_hit a b other t rs e f = rw e f

  pub rule_skip : (a b other : R) (t : Bool) (rs : List (Rule R)) → t ≡ false → a ≡ first_rule rs other
      → a ≡ first_rule (b when t ∷ rs) other
  unfolding first_rule
  rule_skip a b other t rs e f = rw e f

  pub rule_none : (a other : R) → a ≡ other → a ≡ first_rule [] other
  unfolding first_rule
  rule_none a other e = e

  pub ruleset rule_steps = (rule_hit, rule_skip, rule_none)

  -- ---- rules in stages: v is what the first stage answers
  -- no rule gives `other`
  abbrev pub Telling : List (Rule R) → R → Type 0
  Telling [] other = Unit {0}
  Telling (r ∷ rs) other = (r.0 ≡ other → ⊥) × Telling rs other

  pub stage_hit : (us vs : List (Rule R)) (v other : R) → v ≡ first_rule us other → (v ≡ other → ⊥)
      → v ≡ first_rule (us ++ vs) other
  unfolding first_rule
  stage_hit [] vs v other e f = absurd (f e)
  stage_hit ((a, true) ∷ us) vs v other e f = e
  stage_hit ((a, false) ∷ us) vs v other e f = stage_hit us vs v other e f

  pub stage_skip : (us vs : List (Rule R)) (a v other : R) → Telling us other → v ≡ first_rule us other → v ≡ other
      → a ≡ first_rule vs other → a ≡ first_rule (us ++ vs) other
  unfolding first_rule
  stage_skip [] vs a v other z e f g = g
  stage_skip ((b, true) ∷ us) vs a v other z e f g = absurd (z.0 (sym e ∙ f))
  stage_skip ((b, false) ∷ us) vs a v other z e f g = stage_skip us vs a v other z.1 e f g

  -- ---- a loop through the rules at each place: v is what the rules at k answer, r the whole answer
  module _ (g : ℕ → List (Rule R)) (k e : ℕ) (v other r : R) where
    rest : List (Rule R)
    rest = flat_map g (places (k + 1) (e - (k + 1)))

    turn : k < e → flat_map g (places k (e - k)) ≡ g k ++ rest
    unfolding flat_map rest
    turn h = ap (flat_map g) (places_step k e h)

    pub rules_stop : first_rule (flat_map g (places k (e - k))) other ≡ r → k < e → v ≡ first_rule (g k) other
        → (v ≡ other → ⊥) → v ≡ r
    rules_stop inv h q f =
        stage_hit (g k) rest v other q f ∙ ap (λ (l : List (Rule R)). first_rule l other) (sym (turn h)) ∙ inv

    pub rules_on : first_rule (flat_map g (places k (e - k))) other ≡ r → k < e → v ≡ first_rule (g k) other → v ≡ other
        → Telling (g k) other → first_rule (flat_map g (places (k + 1) (e - (k + 1)))) other ≡ r
    unfolding rest
    rules_on inv h q f z =
        stage_skip (g k) rest (first_rule rest other) v other z q f refl
        ∙ ap (λ (l : List (Rule R)). first_rule l other) (sym (turn h)) ∙ inv

  pub rules_end : (g : ℕ → List (Rule R)) (k e : ℕ) (other r : R) → first_rule (flat_map g (places k (e - k))) other ≡ r
      → e ≤ k → other ≡ r
  unfolding first_rule flat_map
  rules_end g k e other r inv h = sym (rw (places_end k e h)) ∙ inv

  -- the rules at the places below i answer nothing: the answer is that of the places from i on
  pub rules_past : (g : ℕ → List (Rule R)) (n : ℕ) (other : R) → ((j : ℕ) → Telling (g j) other) → (i : ℕ) → i ≤ n
      → ((j : ℕ) → j < i → first_rule (g j) other ≡ other)
      → first_rule (flat_map g (places i (n - i))) other ≡ first_rule (flat_map g (places 0 n)) other
  rules_past g n other z zero h f = rw sub-zero
  rules_past g n other z (suc i) h f =
      let e : suc i ≡ i + 1 = omega arith in
      ap (λ (k : ℕ). first_rule (flat_map g (places k (n - k))) other) e
      ∙ rules_on g i n other other (first_rule (flat_map g (places 0 n)) other)
      (rules_past g n other z i (omega arith) (λ j l. f j (omega arith))) h (sym (f i (omega arith))) refl (z i)

  -- ---- where the answer is `other`, and no rule gives that, no rule applies
  abbrev pub Quiet : List (Rule R) → Type 0
  Quiet [] = Unit {0}
  Quiet (r ∷ rs) = (r.1 ≡ false) × Quiet rs

  pub quiet : (rs : List (Rule R)) (other : R) → Telling rs other → first_rule rs other ≡ other → Quiet rs
  unfolding first_rule
  quiet [] other z e = tt
  quiet ((a, true) ∷ rs) other z e = absurd (z.0 e)
  quiet ((a, false) ∷ rs) other z e = (refl, quiet rs other z.1 e)

  -- the test of the rule whose answer has the number n; false where there is none
  unfoldable pub test_of : (R → ℕ) → ℕ → List (Rule R) → Bool
  test_of number n [] = false
  test_of number n (r ∷ rs) = cond (eqb (number r.0) n) r.1 (test_of number n rs)

  -- a rule that does not apply is named by its number, wherever it stands in its list
  pub silent : (number : R → ℕ) (rs : List (Rule R)) → Quiet rs → (n : ℕ) → test_of number n rs ≡ false
  unfolding test_of
  silent number [] q n = refl
  silent number (r ∷ rs) q n = by (eqb (number r.0) n) (silent number rs q.1 n)
    where
      by : (b : Bool) → test_of number n rs ≡ false → cond b r.1 (test_of number n rs) ≡ false
      by true later = q.0
      by false later = later

  -- the answer where no rule applies matters only there
  pub hit_whatever : (rs : List (Rule R)) (v a b : R) → v ≡ first_rule rs a → (v ≡ a → ⊥) → v ≡ first_rule rs b
  unfolding first_rule
  hit_whatever [] v a b e f = absurd (f e)
  hit_whatever ((r, true) ∷ rs) v a b e f = e
  hit_whatever ((r, false) ∷ rs) v a b e f = hit_whatever rs v a b e f

  pub quiet_answer : (rs : List (Rule R)) (b : R) → Quiet rs → b ≡ first_rule rs b
  unfolding first_rule
  quiet_answer [] b q = refl
  quiet_answer ((r, true) ∷ rs) b q = absurd (true≢false q.0)
  quiet_answer ((r, false) ∷ rs) b q = quiet_answer rs b q.1

  telling_append : (us vs : List (Rule R)) (other : R) → Telling us other → Telling vs other → Telling (us ++ vs) other
  telling_append [] vs other a b = b
  telling_append (u ∷ us) vs other a b = (a.0, telling_append us vs other a.1 b)

  quiet_left : (us vs : List (Rule R)) → Quiet (us ++ vs) → Quiet us
  quiet_left [] vs q = tt
  quiet_left (u ∷ us) vs q = (q.0, quiet_left us vs q.1)

  quiet_right : (us vs : List (Rule R)) → Quiet (us ++ vs) → Quiet vs
  quiet_right [] vs q = q
  quiet_right (u ∷ us) vs q = quiet_right us vs q.1

  module _ (g : ℕ → List (Rule R)) where
    pub telling_places : (other : R) → ((i : ℕ) → Telling (g i) other) → (k n : ℕ)
        → Telling (flat_map g (places k n)) other
    unfolding flat_map places
    telling_places other z k zero = tt
    telling_places other z k (suc n) =
        telling_append (g k) (flat_map g (places (suc k) n)) other (z k) (telling_places other z (suc k) n)

    pub quiet_places : (k n : ℕ) → Quiet (flat_map g (places k n)) → (i : ℕ) → k ≤ i → i < k + n → Quiet (g i)
    unfolding flat_map places
    quiet_places k zero q i h l = absurd (omega arith)
    quiet_places k (suc n) q i h l =
        elim (dec_lt k i) [
          | yes a ↦ quiet_places (suc k) n (quiet_right (g k) (flat_map g (places (suc k) n)) q) i a (omega arith)
          | no a ↦
              (let e : k
              ≡ i = omega arith in subst (λ (j : ℕ). Quiet (g j)) e
              (quiet_left (g k) (flat_map g (places (suc k) n)) q))
        ]

  -- ---- what the answer says
  sooner : {b : R} {rs : List (Rule R)} {d : Rule R} {other a : R} → Given rs other d a
      → Given ((b, false) ∷ rs) other d a
  sooner {b} {rs} {d} (inl (k, h, q)) =
      inl (suc k, record { there = suc-le-suc h.there; holds = h.holds; earlier = past }, q)
    where
      past : (j : ℕ) → j < suc k → (get_or ((b, false) ∷ rs) j d).1 ≡ false
      past zero l = refl
      past (suc j) l = h.earlier j (omega arith)
  sooner {b} {rs} {d} (inr (s, q)) = inr (past, q)
    where
      past : (j : ℕ) → j < suc (length rs) → (get_or ((b, false) ∷ rs) j d).1 ≡ false
      past zero l = refl
      past (suc j) l = s j (omega arith)

  given : (rs : List (Rule R)) (other : R) (d : Rule R) (a : R) → first_rule rs other ≡ a → Given rs other d a
  unfolding first_rule
  given [] other d a e = inr (λ j h. absurd (omega arith), e)
  given ((b, true) ∷ rs) other d a e =
      inl (0, record { there = omega arith; holds = refl; earlier = λ j h. absurd (omega arith) }, e)
  given ((b, false) ∷ rs) other d a e = sooner (given rs other d a e)

  from_given : (rs : List (Rule R)) (other : R) (d : Rule R) (a : R) → Given rs other d a → first_rule rs other ≡ a
  unfolding first_rule
  from_given [] other d a (inl (k, h, q)) = absurd (let l : k < 0 = h.there in omega arith)
  from_given [] other d a (inr (s, q)) = q
  from_given ((b, true) ∷ rs) other d a (inl (zero, h, q)) = q
  from_given ((b, true) ∷ rs) other d a (inl (suc k, h, q)) = absurd (true≢false (h.earlier 0 (omega arith)))
  from_given ((b, true) ∷ rs) other d a (inr (s, q)) = absurd (true≢false (s 0 (omega arith)))
  from_given ((b, false) ∷ rs) other d a (inl (zero, h, q)) = absurd (true≢false (sym h.holds))
  from_given ((b, false) ∷ rs) other d a (inl (suc k, h, q)) =
      from_given rs other d a
      (inl (
        k,
        record {
          there = le_of_suc-le-suc h.there;
          holds = h.holds;
          earlier = λ j l. h.earlier (suc j) (suc-le-suc l);
        },
        q,
      ))
  from_given ((b, false) ∷ rs) other d a (inr (s, q)) =
      from_given rs other d a (inr (λ j l. s (suc j) (suc-le-suc l), q))

  -- the answer is a exactly when a rule that gives a applies and no earlier one does, or none applies and a is `other`
  pub first_rule_law : (rs : List (Rule R)) (other : R) (d : Rule R) (a : R) → (first_rule rs other ≡ a) ↔ Given rs other d a
  first_rule_law rs other d a = (given rs other d a, from_given rs other d a)

-- ---- where the answers are numbers
-- none of them is 0
unfoldable pub above_zero : List (Rule ℕ) → Bool
above_zero rs = all (λ (r : Rule ℕ). ltb 0 r.0) rs

pub numbers_tell : (rs : List (Rule ℕ)) → above_zero rs ≡ true → Telling rs 0
unfolding above_zero all
numbers_tell [] e = tt
numbers_tell (r ∷ rs) e =
    let b = both_true (ltb 0 r.0) (all (λ (q : Rule ℕ). ltb 0 q.0) rs) e in
    ((λ z. let h : 0 < r.0 = ltb-true _ _ b.0 in omega arith), numbers_tell rs b.1)

-- where the answer is 0, the rule of every number is silent
pub silent_number : (rs : List (Rule ℕ)) → above_zero rs ≡ true → first_rule rs 0 ≡ 0 → (n : ℕ)
    → test_of (λ m. m) n rs ≡ false
silent_number rs above e = silent (λ m. m) rs (quiet rs 0 (numbers_tell rs above) e)

-- they differ from each other and from 0
module _ (rs : List (Rule ℕ)) (d : Rule ℕ) (apart : numbered rs ≡ true) where
  answers : List ℕ
  answers = 0 ∷ map (λ (r : Rule ℕ). r.0) rs

  differ : (i j : ℕ) → i < j → j < suc (length rs) → get_or answers i 0 ≡ get_or answers j 0 → ⊥
  unfolding answers numbered
  differ i j h l e =
      eqb-false (get_or answers i 0) (get_or answers j 0)
      (not-true (eqb (get_or answers i 0) (get_or answers j 0))
      (pairs_at (λ (m n : ℕ). not (eqb m n)) answers 0 apart i j h
      (omega (arith, length-map rs (λ (r : Rule ℕ). r.0))))) e

  answer_at_law : (k : ℕ) → k < length rs → get_or answers (suc k) 0 ≡ (get_or rs k d).0
  unfolding answers
  answer_at_law k h =
      get_d_any (map (λ (r : Rule ℕ). r.0) rs) k 0 d.0 (omega (arith, length-map rs (λ (r : Rule ℕ). r.0)))
      ∙ get_or-map (λ (r : Rule ℕ). r.0) rs k d

  same_place : (j k : ℕ) → j < length rs → k < length rs → (get_or rs j d).0 ≡ (get_or rs k d).0 → j ≡ k
  same_place j k hj hk e =
      let q : get_or answers (suc j) 0 ≡ get_or answers (suc k) 0 = answer_at_law j hj ∙ e ∙ sym (answer_at_law k hk) in
      elim (dec_lt j k) [
        | yes a ↦ absurd (differ (suc j) (suc k) (suc-le-suc a) (suc-le-suc hk) q)
        | no a ↦
            elim (dec_lt k j) [
              | yes b ↦ absurd
                  (differ (suc k) (suc j) (suc-le-suc b) (suc-le-suc hj) (sym q))
              | no b ↦ omega arith
            ]
      ]

  not_zero_law : (k : ℕ) → k < length rs → 0 ≡ (get_or rs k d).0 → ⊥
  unfolding answers
  not_zero_law k h e = differ 0 (suc k) (omega arith) (suc-le-suc h) (e ∙ sym (answer_at_law k h))

  -- the answer is the number of rule k exactly when its test holds and no earlier one does
  pub number_exactly : (k : ℕ) → k < length rs → (first_rule rs 0 ≡ (get_or rs k d).0) ↔ Applies rs d k
  number_exactly k h =
      (λ e. of ((first_rule_law rs 0 d (get_or rs k d).0).0 e), λ a. (first_rule_law rs 0 d (get_or rs k d).0).1 (inl (k, a, refl)))
    where
      of : Given rs 0 d (get_or rs k d).0 → Applies rs d k
      of (inl (j, a, q)) = subst (Applies rs d) (same_place j k a.there h q) a
      of (inr (s, q)) = absurd (not_zero_law k h q)

  -- it is 0 exactly when no test holds
  pub zero_exactly : (first_rule rs 0 ≡ 0) ↔ Silent rs d
  zero_exactly = (λ e. of ((first_rule_law rs 0 d 0).0 e), λ s. (first_rule_law rs 0 d 0).1 (inr (s, refl)))
    where
      of : Given rs 0 d 0 → Silent rs d
      of (inl (j, a, q)) = absurd (not_zero_law j a.there (sym q))
      of (inr (s, q)) = s

-- ---- the answer is a number: its rule applies, and every rule before that one is silent
-- the rules before the one with the number n
unfoldable pub up_to : ℕ → List (Rule ℕ) → List (Rule ℕ)
up_to n [] = []
up_to n (r ∷ rs) = cond (eqb r.0 n) [] (r ∷ up_to n rs)

apart_from_law : ℕ → List (Rule ℕ) → Bool
apart_from_law a rs = all (λ (n : ℕ). not (eqb a n)) (map (λ (r : Rule ℕ). r.0) rs)

never_given : (a : ℕ) (rs : List (Rule ℕ)) → apart_from_law a rs ≡ true → (0 ≡ a → ⊥) → first_rule rs 0 ≡ a → ⊥
unfolding apart_from_law all first_rule
never_given a [] h z e = z e
never_given a ((b, true) ∷ rs) h z e =
    eqb-false a b (not-true _ (both_true (not (eqb a b)) (apart_from_law a rs) h).0) (sym e)
never_given a ((b, false) ∷ rs) h z e = never_given a rs (both_true (not (eqb a b)) (apart_from_law a rs) h).1 z e

pub number_told : (rs : List (Rule ℕ)) → numbered rs ≡ true → (n : ℕ) → (0 ≡ n → ⊥) → first_rule rs 0 ≡ n
    → (test_of (λ m. m) n rs ≡ true) × Quiet (up_to n rs)
unfolding numbered pairwise all first_rule test_of up_to apart_from_law
number_told [] h n z e = absurd (z e)
number_told ((a, true) ∷ rs) h n z e = rw (eq-eqb a n e) (refl, tt)
number_told ((a, false) ∷ rs) h n z e = by (λ k. number_told rs k n z e) (eqb a n) refl
  where
    ns : List ℕ
    ns = map (λ (r : Rule ℕ). r.0) rs

    others : (apart_from_law a rs ≡ true) × (numbered rs ≡ true)
    others =
        let zero = both_true (all (λ (m : ℕ). not (eqb 0 m)) (a ∷ ns)) _ h in
        let here = both_true (all (λ (m : ℕ). not (eqb a m)) ns) (pairwise (λ (i j : ℕ). not (eqb i j)) ns) zero.1 in
        (here.0, true_both _ _ (both_true (not (eqb 0 a)) (all (λ (m : ℕ). not (eqb 0 m)) ns) zero.0).1 here.1)

    by : (numbered rs ≡ true → (test_of (λ m. m) n rs ≡ true) × Quiet (up_to n rs)) → (b : Bool) → eqb a n ≡ b
        → (cond b false (test_of (λ m. m) n rs) ≡ true) × Quiet (cond b [] ((a, false) ∷ up_to n rs))
    by f true q = absurd (never_given a rs others.0 (λ w. z (w ∙ eqb-true _ _ q)) (e ∙ sym (eqb-true _ _ q)))
    by f false q = let (u, v) = f others.1 in (u, (refl, v))
