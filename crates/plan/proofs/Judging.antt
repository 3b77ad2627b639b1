-- How a plan is judged on words: each return answers one rule of the list, 1 or 2 in front of them all, or the run
-- after them.
use Prim.Native.Nat.{ℕ}
use mathlib.Core.Bool.{Bool, true, false, cond, not}
use mathlib.Core.List.{List, [], ◌∷◌}
use mathlib.Core.Path.{◌≡◌, refl, sym, ap, ap₂, subst, ◌∙◌}
use borrow.Author.Tests.{eqb-false, eq-eqb, ne_eqb, not-false}
use lib.Dec.{eqb}
use Rattle.std.proofs.Common.{Ok, Err}
use Rattle.lists.specs.First.{all}
use Rattle.lists.specs.Rules.{◌when◌}
use Rattle.lists.proofs.Rules.{rule_hit, rule_skip, rule_none, test_of, above_zero, silent_number}
use Rattle.rules.specs.Limits.{limits}
use Rattle.rules.specs.Numbers.{number}
use Rattle.rules.specs.Requests.{standing}
use Rattle.zones.specs.View.{stored_config, stored_table}
use Rattle.rules.specs.declared.refusal.Refusal.{Refusal}
use Rattle.rules.specs.Applying.{last_edition, plain}
use Rattle.rules.specs.Steps.{StepRule}
use Rattle.rules.specs.declared.Outcome.{Outcome}
use Rattle.zones.proofs.Ruling.{number_some}
use Rattle.plan.specs.Applying.{turned_away}
use Rattle.plan.specs.Found.{FitsIn, PartsOf}
use Rattle.plan.specs.Held.{table_held}
use Rattle.plan.specs.Machines.{FindsBy, Judged, JudgedBy}
use Rattle.plan.specs.Steps.{away_with, base_number, own_by, AppliedBy, RanOrUndoneBy, FoundBy}
use Rattle.plan.specs.Told.{Told, told}
use Rattle.plan.specs.declared.finding.Found.{Found}
use Rattle.plan.specs.declared.finding.Parts.{Parts}
use Rattle.plan.specs.declared.refused.Refused.{Refused}

-- ---- turned away: n is the state's own number
module _ (k place n : ℕ) where
  pub away_first : (n ≡ 0 → ⊥) → ◌≡◌ {A = Outcome} (record { number = n; place = 0; inner = 0 }) (away_with n k place)
  unfolding away_with
  away_first ne = sym (ap (λ (x : Bool). cond x (plain k place) (plain n 0)) (ne_eqb _ 0 ne))

  pub away_earned : n ≡ 0 → ◌≡◌ {A = Outcome} (record { number = k; place = place; inner = 0 }) (away_with n k place)
  unfolding away_with
  away_earned z = sym (ap (λ (x : Bool). cond x (plain k place) (plain n 0)) (eq-eqb _ 0 z))

-- n is what standing answered
module _ (c t : List ℕ) (k place n : ℕ) (e : n ≡ standing limits (stored_config c) (stored_table t)) where
  pub away_own : (n ≡ 0 → ⊥) → ◌≡◌ {A = Outcome} (record { number = n; place = 0; inner = 0 }) (turned_away c t k place)
  unfolding turned_away
  away_own ne = away_first k place n ne ∙ ap (λ (i : ℕ). away_with i k place) e

  pub away_plan : n ≡ 0 → ◌≡◌ {A = Outcome} (record { number = k; place = place; inner = 0 }) (turned_away c t k place)
  unfolding turned_away
  away_plan z = away_earned k place n z ∙ ap (λ (i : ℕ). away_with i k place) e

-- ---- the base: a and b are what the comparisons answered
module _ (a : Bool) (t : List ℕ) (e base : ℕ) (zs : List ℕ) where
  pub base_config : not a ≡ true → 23 ≡ base_number a t e base zs
  unfolding base_number
  base_config h = rule_hit _ _ _ _ _ h refl

  module _ (h : not a ≡ false) where
    pub base_edition : (e ≡ base → ⊥) → 24 ≡ base_number a t e base zs
    unfolding base_number
    base_edition ne = rule_skip _ _ _ _ _ h (rule_hit _ _ _ _ _ (ap not (ne_eqb _ _ ne)) refl)

    module _ (same : e ≡ base) where
      pub base_last : e ≡ last_edition → 25 ≡ base_number a t e base zs
      unfolding base_number
      base_last q =
          rule_skip _ _ _ _ _ h
          (rule_skip _ _ _ _ _ (ap not (eq-eqb _ _ same)) (rule_hit _ _ _ _ _ (eq-eqb _ _ q) refl))

      module _ (ne : e ≡ last_edition → ⊥) (b : Bool) (eb : b ≡ table_held zs t) where
        pub base_zones : not b ≡ true → 26 ≡ base_number a t e base zs
        unfolding base_number
        base_zones g =
            rule_skip _ _ _ _ _ h
            (rule_skip _ _ _ _ _ (ap not (eq-eqb _ _ same))
            (rule_skip _ _ _ _ _ (ne_eqb _ _ ne) (rule_hit _ _ _ _ _ (ap not (sym eb) ∙ g) refl)))

        pub base_same : not b ≡ false → 0 ≡ base_number a t e base zs
        unfolding base_number
        base_same g =
            rule_skip _ _ _ _ _ h
            (rule_skip _ _ _ _ _ (ap not (eq-eqb _ _ same))
            (rule_skip _ _ _ _ _ (ne_eqb _ _ ne) (rule_skip _ _ _ _ _ (ap not (sym eb) ∙ g) (rule_none _ _ refl))))

  -- where it is 0, the zones are the table's
  pub base_held : 0 ≡ base_number a t e base zs → table_held zs t ≡ true
  unfolding base_number test_of above_zero all
  base_held en =
      not-false _ (silent_number (23 when not a ∷ 24 when not (eqb e base) ∷ 25 when eqb e last_edition
      ∷ 26 when not (table_held zs t) ∷ []) refl (sym en) 26)

-- ---- after the base, by any step rule: a is what comparing the configuration answered
module _ (m : StepRule) (c : m.Config) (t : List ℕ) (e base : ℕ) (zs : List ℕ) (same a : Bool) (ea : a ≡ same)
    (b : List ℕ) (v : Outcome) where
  numbered : (n : ℕ) → n ≡ base_number a t e base zs → n ≡ base_number same t e base zs
  numbered n en = en ∙ ap (λ (x : Bool). base_number x t e base zs) ea

  pub found_away : (r : Refusal) → number r ≡ base_number a t e base zs → (own : ℕ) → own ≡ own_by m c t
      → v ≡ away_with own (number r) 0 → FoundBy m c t (base_number same t e base zs) b v t
  found_away r en own eo h =
      let q : number r ≡ base_number same t e base zs = numbered (number r) en in
      record {
        base_other = λ f. (h ∙ ap₂ (λ (i k : ℕ). away_with i k 0) eo q, refl);
        base_same = λ z. absurd (number_some r (q ∙ z));
      }

  pub found_run : 0 ≡ base_number a t e base zs → (u : List ℕ) → RanOrUndoneBy m c t b v u
      → FoundBy m c t (base_number same t e base zs) b v u
  found_run en u h = record { base_other = λ f. absurd (f (sym (numbered 0 en))); base_same = λ f. h }

-- who is turned away has a number
pub away_number : (own : ℕ) (k : Refusal) (place : ℕ) → (away_with own (number k) place).number ≡ 0 → ⊥
unfolding away_with
away_number own k place z = by (eqb own 0) refl
  where
    told : Bool → ℕ
    told x = (cond x (plain (number k) place) (plain own 0)).number

    by : (x : Bool) → eqb own 0 ≡ x → ⊥
    by true h = number_some k (sym (ap told h) ∙ z)
    by false h = eqb-false _ _ h (sym (ap told h) ∙ z)

-- ---- a plan judged at a state, by what was found of it
module _ (m : StepRule) (c : m.Config) (given : List ℕ → ℕ → Bool) (b t : List ℕ) (e : ℕ) where
  -- own is what standing answered, and o how the plan is turned away
  away_from : (own : ℕ) → own ≡ own_by m c t → (k : Refusal) (place : ℕ) (o : Outcome)
      → o ≡ away_with own (number k) place → AppliedBy m c t e b (away_with (own_by m c t) (number k) place) t
      → JudgedBy m c t e b (Err o)
  unfolding JudgedBy
  away_from own eo k place o h a =
      let q : o ≡ away_with (own_by m c t) (number k) place = h ∙ ap (λ (i : ℕ). away_with i (number k) place) eo in (
        subst (λ (v : Outcome). AppliedBy m c t e b v t) (sym q) a,
        λ z. away_number (own_by m c t) k place (sym (ap (λ (v : Outcome). v.number) q) ∙ z),
      )

  pub judged_away : (r : Refused) → FindsBy m c given b (Err r) → (own : ℕ) → own ≡ own_by m c t → (o : Outcome)
      → o ≡ away_with own (number r.why) r.at → JudgedBy m c t e b (Err o)
  unfolding FindsBy
  judged_away r finds own eo o h = away_from own eo r.why r.at o h (finds t e)

  pub fits_by : (f : Found) → FindsBy m c given b (Ok f) → FitsIn b f
  unfolding FindsBy
  fits_by f finds = finds.0

  -- a is what comparing the configuration answered
  module _ (f : Found) (finds : FindsBy m c given b (Ok f)) (p : Parts) (of : PartsOf b f p) (a : Bool)
      (ea : a ≡ given p.regions.now p.gic) where
    pub judged_other : (k : Refusal) → number k ≡ base_number a t e p.edition p.zones.now → (own : ℕ) → own ≡ own_by m c t
        → (o : Outcome) → o ≡ away_with own (number k) 0 → JudgedBy m c t e b (Err o)
    unfolding FindsBy
    judged_other k en own eo o h =
        away_from own eo k 0 o h
        (finds.1 p of t e (away_with (own_by m c t) (number k) 0) t
        (found_away m c t e p.edition p.zones.now (given p.regions.now p.gic) a ea p.requests.now
        (away_with (own_by m c t) (number k) 0) k en (own_by m c t) refl refl))

    pub judged_own : 0 ≡ base_number a t e p.edition p.zones.now → JudgedBy m c t e b (Ok p)
    unfolding FindsBy JudgedBy
    judged_own en = (
      base_held a t e p.edition p.zones.now en,
      λ v u h. finds.1 p of t e v u
          (found_run m c t e p.edition p.zones.now (given p.regions.now p.gic) a ea p.requests.now v en u h),
    )

-- ---- and what exactly is answered
module _ (found : Told Found) (given : List ℕ → ℕ → Bool) (own : ℕ) (t : List ℕ) (e : ℕ) (b : List ℕ) where
  pub told_away : (r : Refused) → told (Err r) ≡ found → (n : ℕ) → n ≡ own → (o : Outcome) → o ≡ away_with n (number r.why) r.at
      → Judged found given own t e b (Err o)
  unfolding Judged
  told_away r q n en o h =
      subst (λ (x : Told Found). Judged x given own t e b (Err o)) q
      (ap (λ (x : Outcome). Err x) (h ∙ ap (λ (i : ℕ). away_with i (number r.why) r.at) en))

  module _ (f : Found) (q : told (Ok f) ≡ found) (p : Parts) (of : PartsOf b f p) (a : Bool)
      (ea : a ≡ given p.regions.now p.gic) where
    abbrev base : ℕ
    base = base_number (given p.regions.now p.gic) t e p.edition p.zones.now

    same_base : base_number a t e p.edition p.zones.now ≡ base
    same_base = ap (λ (x : Bool). base_number x t e p.edition p.zones.now) ea

    pub told_other : (k : Refusal) → number k ≡ base_number a t e p.edition p.zones.now → (n : ℕ) → n ≡ own
        → (o : Outcome) → o ≡ away_with n (number k) 0 → Judged found given own t e b (Err o)
    unfolding Judged
    told_other k en n eo o h =
        subst (λ (x : Told Found). Judged x given own t e b (Err o)) q (
          p,
          (
            of,
            (
              (λ z. absurd (number_some k (en ∙ same_base ∙ z))),
              (λ ne. ap (λ (x : Outcome). Err x) (h ∙ ap₂ (λ (i j : ℕ). away_with i j 0) eo (en ∙ same_base))),
            ),
          ),
        )

    pub told_own : 0 ≡ base_number a t e p.edition p.zones.now → Judged found given own t e b (Ok p)
    unfolding Judged
    told_own en =
        subst (λ (x : Told Found). Judged x given own t e b (Ok p)) q
        (p, (of, ((λ z. refl), (λ ne. absurd (ne (sym (en ∙ same_base)))))))

-- ---- what judging says
module _ (m : StepRule) (c : m.Config) (t : List ℕ) (e : ℕ) (b : List ℕ) where
  pub own_held : (p : Parts) → JudgedBy m c t e b (Ok p) → table_held p.zones.now t ≡ true
  unfolding JudgedBy
  own_held p j = j.0

  pub own_applied : (p : Parts) → JudgedBy m c t e b (Ok p) → (r : Outcome) (u : List ℕ)
      → RanOrUndoneBy m c t p.requests.now r u → AppliedBy m c t e b r u
  unfolding JudgedBy
  own_applied p j = j.1

  pub turned_applied : (o : Outcome) → JudgedBy m c t e b (Err o) → AppliedBy m c t e b o t
  unfolding JudgedBy
  turned_applied o j = j.0

  pub turned_refused : (o : Outcome) → JudgedBy m c t e b (Err o) → o.number ≡ 0 → ⊥
  unfolding JudgedBy
  turned_refused o j = j.1
