-- The writer's answer is the first of its numbers: 25 is asked of the edition alone, a run that is tried gives the others
-- but 28, and that is left to the plan's length.
use Prim.Native.Nat.{ℕ, ◌/◌, ◌≤◌}
use native.Mathlib.Omega.{arith}
use mathlib.Core.Bool.{Bool, true, false, cond, not, true≢false}
use mathlib.Core.List.{List, [], ◌∷◌}
use mathlib.Core.Path.{◌≡◌, refl, sym, ap, subst, ◌∙◌}
use borrow.Author.Tests.{ltb-false, eqb-true, eqb-false, not-true, not-false, eq-eqb, ne_eqb}
use lib.Dec.{ltb, eqb}
use lib.ListN.{length, length-map}
use Rattle.lists.specs.Rules.{first_rule}
use Rattle.lists.proofs.Tests.{not_holds}
use Rattle.rules.specs.Applying.{last_edition, plain}
use Rattle.rules.specs.Differing.{zones_bytes, write_zones}
use Rattle.rules.specs.Filling.{standing_rule, fill_answer, fill_leaves, filling, Filled}
use Rattle.rules.specs.Limits.{most_requests, limits}
use Rattle.rules.specs.Plan.{requests_from}
use Rattle.rules.specs.Planner.{ran_at}
use Rattle.rules.specs.Requests.{standing}
use Rattle.rules.specs.Run.{request_size, requests_in, run, ended, Run}
use Rattle.rules.specs.Tables.{table_of}
use Rattle.rules.specs.Writer.{writer_rules_by, write_by, writer_rules, asked_of}
use Rattle.rules.specs.declared.Outcome.{Outcome}
use Rattle.rules.proofs.Filling.{leaves_all}
use Rattle.zones.specs.Kept.{Stands}
use Rattle.zones.specs.Trial.{trial_answer}
use Rattle.zones.specs.View.{stored_config, stored_table, config_in}
use Rattle.writer.specs.Writer.{lent_in, plan_in, no_next, WritesIn, WritesZonesIn}
use Rattle.writer.proofs.Filling.{filled_with, own_refused, own_passed}
use Rattle.writer.proofs.Bytes.{asked_many, asked_requests}

-- ---- 25
module _ (c t : List ℕ) (n : ℕ) (e : n ≡ standing limits (stored_config c) (stored_table t)) where
  pub own_first : (n ≡ 0 → ⊥) → record { number = n; place = 0; inner = 0 } ≡ no_next c t
  unfolding no_next
  own_first ne =
      (λ i. plain (e i) 0)
      ∙ sym (ap (λ (b : Bool). cond b (plain 25 0) (plain (standing limits (stored_config c) (stored_table t)) 0))
      (ne_eqb _ 0 (λ z. ne (e ∙ z))))

  pub last_edition_law : n ≡ 0 → record { number = 25; place = 0; inner = 0 } ≡ no_next c t
  unfolding no_next
  last_edition_law z =
      sym (ap (λ (b : Bool). cond b (plain 25 0) (plain (standing limits (stored_config c) (stored_table t)) 0))
      (eq-eqb _ 0 (sym e ∙ z)))

-- ---- the zones alone, and 1 or 2 before them
module _ (c t : List ℕ) (n : ℕ) (e : n ≡ standing limits (stored_config c) (stored_table t)) where
  pub zones_stand : n ≡ 0 → Stands c t
  zones_stand z = sym e ∙ z

module _ (c t w : List ℕ) (n : ℕ) (e : n ≡ standing limits (stored_config c) (stored_table t)) where
  abbrev own : ℕ
  own = standing limits (stored_config c) (stored_table t)

  abbrev zones : List ℕ
  zones = zones_bytes limits (stored_table t)

  writes_zones : (o : Outcome) (v : List ℕ) → filled_with o v ≡ filling (standing_rule own ∷ []) zones w
      → WritesZonesIn c t w o v
  unfolding write_zones
  writes_zones o v q = record {
    answer = ap (λ (f : Filled). f.outcome) q;
    buffer = ap (λ (f : Filled). f.buffer) q;
  }

  pub zones_refused : (n ≡ 0 → ⊥) → WritesZonesIn c t w (record { number = n; place = 0; inner = 0 }) w
  zones_refused ne =
      writes_zones _ w (ap (λ (k : ℕ). filled_with (plain k 0) w) e ∙ own_refused zones w own (λ z. ne (e ∙ z)))

  pub zones_filled : n ≡ 0 → (o : Outcome) (v : List ℕ) → filled_with o v ≡ filling [] zones w → WritesZonesIn c t w o v
  zones_filled z o v f = writes_zones o v (f ∙ own_passed zones w own (sym e ∙ z))

-- ---- the whole
-- the first of three, with more behind the third where it is a refusal
refused_same : (a m i : Bool) (x y o rest : Outcome) → (i ≡ true → o.number ≡ 0)
    → ((cond a x (cond m y o)).number ≡ 0 → ⊥)
    → cond a x (cond m y (cond (not i) o rest)) ≡ cond a x (cond m y o)
refused_same true m i x y o rest h ne = refl
refused_same false true i x y o rest h ne = refl
refused_same false false true x y o rest h ne = absurd (ne (h refl))
refused_same false false false x y o rest h ne = refl

zero_parts : (a m : Bool) (x y o : Outcome) → (a ≡ true → x.number ≡ 0 → ⊥) → (y.number ≡ 0 → ⊥)
    → (cond a x (cond m y o)).number ≡ 0 → (a ≡ false) × ((m ≡ false) × (o.number ≡ 0))
zero_parts true m x y o hx hy e = absurd (hx refl e)
zero_parts false true x y o hx hy e = absurd (hy e)
zero_parts false false x y o hx hy e = (refl, (refl, e))

ended_zero : (r : Run) → (ended r).number ≡ 0 → eqb r.inner 0 ≡ true
unfolding ended
ended_zero r e = by (eqb r.inner 0) e
  where
    by : (b : Bool) → ◌≡◌ {A = ℕ} (cond b 0 27) 0 → b ≡ true
    by true e = refl
    by false e = absurd (omega arith)

zero_ended : (r : Run) → eqb r.inner 0 ≡ true → (ended r).number ≡ 0
unfolding ended
zero_ended r e = ap (λ (b : Bool). cond b 0 27) e

module _ (c t : List ℕ) (e : ℕ) (r w : List ℕ) where
  st : ℕ
  st = standing limits (stored_config c) (stored_table t)

  R : Run
  R = ran_at limits (stored_config c) (stored_table t) (asked_of r)

  b : List ℕ
  b = plan_in c t e r

  behind : Outcome
  behind = cond (ltb (length w) (length b)) (plain 28 0) (plain 0 (length b))

  Answer : Outcome
  Answer = fill_answer (writer_rules limits (lent_in c t e) (asked_of r)) b (length w)

  -- a refusal is an answer that leaves the buffer
  as_refused : (o : Outcome) (u : List ℕ) → o ≡ Answer → (o.number ≡ 0 → ⊥) → u ≡ t → WritesIn c t e r w o u w
  unfolding write_by Answer b
  as_refused o u f ne eu = record {
    answer = f;
    buffer = sym (leaves_all _ b w (λ z. ne (ap (λ (x : Outcome). x.number) f ∙ z)));
    table = eu;
  }

  -- no next edition
  pub writes_none : (o : Outcome) → o ≡ no_next c t → e ≡ last_edition → WritesIn c t e r w o t w
  unfolding no_next Answer fill_answer writer_rules_by first_rule st
  writes_none o f last =
      let same : no_next c t ≡ Answer =
      by (eqb st 0)
      (cond (ltb most_requests (length (asked_of r))) (plain 29 0)
      (cond (not (eqb (ran_at limits (stored_config c) (stored_table t) (asked_of r)).inner 0))
      (ended (ran_at limits (stored_config c) (stored_table t) (asked_of r)))
      (cond (ltb (length w) (length b)) (plain 28 0) (plain 0 (length b)))))
      (eqb e last_edition) (eq-eqb e last_edition last) in
      as_refused o t (f ∙ same) (ne_of (eqb st 0) refl o f) refl
    where
      by : (a : Bool) (x : Outcome) (l : Bool) → l ≡ true
          → cond a (plain 25 0) (plain st 0) ≡ cond (not a) (plain st 0) (cond l (plain 25 0) x)
      by true x true h = refl
      by false x true h = refl
      by a x false h = absurd (true≢false (sym h))

      ne_of : (a : Bool) → eqb st 0 ≡ a → (o : Outcome) → o ≡ cond a (plain 25 0) (plain st 0) → o.number ≡ 0 → ⊥
      ne_of true h o f z = let k : ◌≡◌ {A = ℕ} 25 0 = sym (ap (λ (x : Outcome). x.number) f) ∙ z in omega arith
      ne_of false h o f z = eqb-false st 0 h (sym (ap (λ (x : Outcome). x.number) f) ∙ z)

  -- ---- a run that was tried
  tried_as : trial_answer limits (stored_config c) (stored_table t) (requests_in r)
      ≡ cond (not (eqb st 0)) (plain st 0) (cond (ltb most_requests (length (asked_of r))) (plain 29 0) (ended R))
  unfolding trial_answer first_rule st R
  tried_as =
      let q : requests_in r ≡ requests_from (asked_of r) = sym (asked_requests r) in
      let n : length (requests_in r) ≡ length (asked_of r) = ap length q ∙ length-map (asked_of r) _ in
      (λ i. cond (not (eqb (standing limits (stored_config c) (stored_table t)) 0))
      (plain (standing limits (stored_config c) (stored_table t)) 0)
      (cond (ltb most_requests (n i)) (plain 29 0)
      (ended (run limits (config_in c) (table_of (stored_table t)) (q i)))))

  answer_as : (e ≡ last_edition → ⊥)
      → Answer
      ≡ cond (not (eqb st 0)) (plain st 0)
      (cond (ltb most_requests (length (asked_of r))) (plain 29 0)
      (cond (not (eqb R.inner 0)) (ended R) behind))
  unfolding Answer fill_answer writer_rules_by first_rule st R behind b
  answer_as ne = rw (ne_eqb e last_edition ne)

  module _ (o : Outcome) (f : o ≡ trial_answer limits (stored_config c) (stored_table t) (requests_in r))
      (u : List ℕ) (eu : u ≡ t) (ne : e ≡ last_edition → ⊥) where
    pub writes_refused : (o.number ≡ 0 → ⊥) → WritesIn c t e r w o u w
    writes_refused nz =
        as_refused o u
        (f ∙ tried_as
        ∙ sym (refused_same (not (eqb st 0)) (ltb most_requests (length (asked_of r))) (eqb R.inner 0) (plain st 0)
        (plain 29 0) (ended R) behind (zero_ended R)
        (λ z. nz (ap (λ (x : Outcome). x.number) (f ∙ tried_as) ∙ z)))
        ∙ sym (answer_as ne))
        nz eu

    module _ (z : o.number ≡ 0) where
      zeros : (not (eqb st 0) ≡ false) × ((ltb most_requests (length (asked_of r)) ≡ false) × ((ended R).number ≡ 0))
      zeros =
          zero_parts (not (eqb st 0)) (ltb most_requests (length (asked_of r))) (plain st 0) (plain 29 0) (ended R)
          (λ a h. eqb-false st 0 (not-true _ a) h) (λ h. omega arith)
          (sym (ap (λ (x : Outcome). x.number) (f ∙ tried_as)) ∙ z)

      pub tried_stands : Stands c u
      unfolding st
      tried_stands = subst (Stands c) (sym eu) (eqb-true _ _ (not-false _ zeros.0))

      pub tried_few : length r / request_size ≤ most_requests
      tried_few =
          let few : length (asked_of r) ≤ most_requests = ltb-false _ _ zeros.1.0 in
          omega (arith, asked_many r)

      answer_behind : Answer ≡ behind
      answer_behind =
          answer_as ne
          ∙ rw (zeros.0, zeros.1.0, not_holds _ (ended_zero R zeros.1.1))

      pub writes_filled : (p : Outcome) (v : List ℕ) → filled_with p v ≡ filling [] (plan_in c u e r) w
          → WritesIn c t e r w p u v
      unfolding write_by fill_answer first_rule Answer behind b
      writes_filled p v g =
          let h : filled_with p v ≡ filling [] (plan_in c t e r) w =
          g ∙ ap (λ (x : List ℕ). filling [] (plan_in c x e r) w) eu in record {
            answer = ap (λ (f : Filled). f.outcome) h ∙ sym answer_behind;
            buffer = ap (λ (f : Filled). f.buffer) h ∙ ap (λ (x : Outcome). fill_leaves x b w) (sym answer_behind);
            table = eu;
          }
