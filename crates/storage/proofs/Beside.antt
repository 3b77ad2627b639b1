-- A plan applied beside the current table, by any step rule: what is current afterwards is what the laws of plan say of a
-- table that is changed where it lies, since after a refusal the current table is still there.
use Prim.Native.Nat.{ℕ, ◌+◌, ◌^◌, ◌≤◌, ◌<◌}
use native.Mathlib.Omega.{arith}
use mathlib.Core.Bool.{Bool, true, false, cond, ◌&&◌}
use mathlib.Core.List.{List, [], ◌∷◌}
use mathlib.Core.Path.{◌≡◌, refl, sym, ap, subst, ◌∙◌}
use borrow.Author.Tests.{eqb-true, eqb-false, ne_eqb, lt-leb}
use lib.Dec.{eqb, leb, T}
use Rattle.std.proofs.Common.{Ok}
use Rattle.lists.specs.Tests.{all_of}
use Rattle.formats.specs.Formats.{bad}
use Rattle.rules.specs.Applying.{plain}
use Rattle.rules.specs.Run.{ended, Run}
use Rattle.rules.specs.Steps.{StepRule}
use Rattle.rules.specs.declared.Outcome.{Outcome}
use Rattle.zones.specs.Words.{words_of}
use Rattle.plan.specs.Machines.{JudgedBy, StandsBy}
use Rattle.plan.specs.Steps.{own_by, done_by, AppliedBy, RanBy, RanOrUndoneBy}
use Rattle.plan.specs.declared.finding.Parts.{Parts}
use Rattle.plan.proofs.Judging.{own_applied}
use Rattle.plan.proofs.Steps.{edition_kept, edition_raised, edition_next}
use Rattle.storage.specs.Beside.{judged_before, prepared_in, BesideBy, PreparedBy}
use Rattle.storage.specs.declared.Prepared.{Prepared}

-- ---- numbers
-- 1 and 2 come after the copy, of a plan for this base
own_is_late : (n : ℕ) → n ≤ 2 → judged_before n ≡ false
unfolding judged_before all_of
own_is_late n h = ap (λ (x : Bool). x && all_of (leb n 26 ∷ [])) (lt-leb _ _ (below n h))
  where
    below : (n : ℕ) → n ≤ 2 → n < 20
    below n h = omega arith

-- and so do 0 and 27
ended_is_late : (r : Run) → judged_before (ended r).number ≡ false
unfolding ended judged_before all_of
ended_is_late r = by (eqb r.inner 0)
  where
    by : (x : Bool) → judged_before (cond x 0 27) ≡ false
    by true = refl
    by false = refl

module _ (m : StepRule) (c : m.Config) (t y : List ℕ) where
  -- after a refusal the current table is
  here : (v : Outcome) (u : List ℕ) → (v.number ≡ 0 → ⊥) → cond (eqb v.number 0) u t ≡ t
  here v u ne = ap (λ (x : Bool). cond x u t) (ne_eqb _ 0 ne)

  -- ---- bytes that do not read whole
  pub beside_away : (e : ℕ) (b : List ℕ) (v : Outcome) → AppliedBy m c t e b v t → (v.number ≡ 0 → ⊥)
      → BesideBy m c t y e b v y
  beside_away e b v h ne = record {
    applied = subst (AppliedBy m c t e b v) (sym (here v y ne)) h;
    untouched = λ j. refl;
  }

  -- ---- a plan for this base: the run of the requests in the bytes q left u in the other slot
  module _ (q : List ℕ) (v : Outcome) (u : List ℕ) (ran : RanBy m c t q v u) where
    answered : (x : Bool) → eqb (own_by m c t) 0 ≡ x → v ≡ cond x (ended (done_by m c t q)) (plain (own_by m c t) 0)
    answered x h = ran.answer ∙ ap (λ (x : Bool). cond x (ended (done_by m c t q)) (plain (own_by m c t) 0)) h

    ran_beside : RanOrUndoneBy m c t q v (cond (eqb v.number 0) u t)
    ran_beside = record { answer = ran.answer; table = by (eqb v.number 0) refl (eqb (own_by m c t) 0) refl }
      where
        by : (z : Bool) → eqb v.number 0 ≡ z → (x : Bool) → eqb (own_by m c t) 0 ≡ x
            → cond (eqb v.number 0) u t ≡ cond (eqb v.number 0) (words_of (done_by m c t q).table) t
        by false g x h =
            ap (λ (z : Bool). cond z u t) g ∙ sym (ap (λ (z : Bool). cond z (words_of (done_by m c t q).table) t) g)
        by true g true h =
            ap (λ (z : Bool). cond z u t) g
            ∙ ran.table
            ∙ ap (λ (x : Bool). cond x (words_of (done_by m c t q).table) t) h
            ∙ sym (ap (λ (z : Bool). cond z (words_of (done_by m c t q).table) t) g)
        by true g false h =
            absurd (eqb-false _ _ h (sym (ap (λ (o : Outcome). o.number) (answered false h)) ∙ eqb-true _ _ g))

    late : own_by m c t ≤ 2 → judged_before v.number ≡ true → ⊥
    late small j = by (eqb (own_by m c t) 0) refl
      where
        by : (x : Bool) → eqb (own_by m c t) 0 ≡ x → ⊥
        by true h =
            subst T (sym j ∙ ap (λ (o : Outcome). judged_before o.number) (answered true h)
            ∙ ended_is_late (done_by m c t q)) tt
        by false h =
            subst T (sym j ∙ ap (λ (o : Outcome). judged_before o.number) (answered false h) ∙ own_is_late _ small) tt

  -- it began with the words w, which were copied
  pub beside_own : (e : ℕ) (b : List ℕ) (p : Parts) → JudgedBy m c t e b (Ok p) → (w : List ℕ) → w ≡ t → (v : Outcome)
      (u : List ℕ) → RanBy m c w p.requests.now v u → StandsBy m c w → BesideBy m c t y e b v u
  beside_own e b p judged w copied v u ran stands = record {
    applied = own_applied m c t e b p judged v (cond (eqb v.number 0) u t) (ran_beside p.requests.now v u here_ran);
    untouched = λ j. absurd (late p.requests.now v u here_ran (subst (λ (l : List ℕ). StandsBy m c l) copied stands).own j);
  }
    where
      here_ran : RanBy m c t p.requests.now v u
      here_ran = subst (λ (l : List ℕ). RanBy m c l p.requests.now v u) copied ran

  -- ---- the mark
  module _ (e : ℕ) (b : List ℕ) (o : Outcome) (u : List ℕ) (done : BesideBy m c t y e b o u) where
    -- 20 to 26
    pub prepared_away : (o.number ≡ 0 → ⊥) → (x : Bool) → x ≡ judged_before o.number → x ≡ true
        → PreparedBy m c t y e b (record { outcome = o; mark = e }) u
    prepared_away ne x ex early = record {
      beside = done;
      copied = λ _ late. absurd (subst T (sym early ∙ ex ∙ late) tt);
      mark = edition_kept m c t e b o _ done.applied ne;
    }

    -- after any other refusal w, a copy of the current table, is put in the place of what the run left
    pub prepared_refused : (o.number ≡ 0 → ⊥) → (x : Bool) → x ≡ judged_before o.number → x ≡ false → (w : List ℕ)
        → w ≡ t → PreparedBy m c t y e b (record { outcome = o; mark = e }) w
    prepared_refused ne x ex late w ew = record {
      beside = record {
        applied = subst (AppliedBy m c t e b o) (here o u ne ∙ sym (here o w ne)) done.applied;
        untouched = λ j. absurd (subst T (sym j ∙ sym ex ∙ late) tt);
      };
      copied = λ _ _. ew;
      mark = edition_kept m c t e b o _ done.applied ne;
    }

    module _ (refuses : (b : List ℕ) (k : ℕ) (l : List ℕ) → m.read b ≡ bad k l → k ≡ 0 → ⊥) (z : o.number ≡ 0) where
      pub prepared_accepted : PreparedBy m c t y e b (record { outcome = o; mark = e + 1 }) u
      prepared_accepted = record {
        beside = done;
        copied = λ ne. absurd (ne z);
        mark = edition_raised m c t e b o _ done.applied refuses z;
      }

      -- there is a next edition
      pub mark_room : e < 2 ^ 32 → e + 1 < 2 ^ 32
      mark_room = edition_next m c t e b o _ done.applied refuses z

  -- ---- as C has it
  pub words_told : (e : ℕ) (b : List ℕ) (r : Prepared) (u a : List ℕ) → PreparedBy m c t y e b r u
      → a ≡ r.mark ∷ r.outcome.place ∷ r.outcome.inner ∷ []
      → PreparedBy m c t y e b (prepared_in r.outcome.number a) u
  words_told e b r u a p ea =
      subst (λ (l : List ℕ). PreparedBy m c t y e b (prepared_in r.outcome.number l) u) (sym ea) p
