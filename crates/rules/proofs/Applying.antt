-- Applying a plan: the comparisons of bases are equality, element by element; 0 is
-- answered where every rule is silent and the run has no refusal.
use Prim.Native.Nat.{ℕ}
use native.Mathlib.Omega.{arith}
use mathlib.Core.Bool.{Bool, true, false, cond, true≢false}
use mathlib.Core.List.{List, [], ◌∷◌}
use mathlib.Core.Logic.{◌↔◌}
use mathlib.Core.Path.{◌≡◌, refl, sym, ap, ap₂, ◌∙◌}
use borrow.Author.Tests.{eqb-true, eqb-false, eq-eqb, ne_eqb, not-false}
use lib.Dec.{eqb}
use Rattle.lists.specs.Rules.{◌when◌, first_rule}
use Rattle.formats.specs.Formats.{Out, got, bad}
use Rattle.lists.proofs.Rules.{Quiet, test_of, silent, quiet_answer}
use Rattle.lists.proofs.Tests.{both_true, true_both, parts, whole, not_holds}
use Rattle.rules.specs.Applying.{last_edition, same_list, same_zone, same_config, plain, base_rules}
use Rattle.rules.specs.Applying.{moved, settled, Kept, judged_by, apply_read_by, apply_by, TerminalOf}
use Rattle.rules.specs.Applying.{AppliedOf, GivesConfig}
use Rattle.rules.specs.Configuration.{Configuration}
use Rattle.rules.specs.Limits.{Limits}
use Rattle.rules.specs.Plan.{Plan}
use Rattle.rules.specs.Regions.{region_eq}
use Rattle.rules.specs.Run.{ended, Run}
use Rattle.rules.specs.Steps.{ran_by, StepRule}
use Rattle.rules.specs.Tables.{table_of, Zone}
use Rattle.rules.specs.declared.Outcome.{Outcome}
use Rattle.rules.specs.declared.Region.{Region}
use Rattle.rules.proofs.Regions.{equal_same, equal_refl}

-- ---- lists that are the same
module _ {A : Type 0} (e : A → A → Bool) where
  pub same_list_law : ((x y : A) → e x y ≡ true → x ≡ y) → (xs ys : List A) → same_list e xs ys ≡ true → xs ≡ ys
  unfolding same_list
  same_list_law f [] [] h = refl
  same_list_law f [] (y ∷ ys) h = absurd (true≢false (sym h))
  same_list_law f (x ∷ xs) [] h = absurd (true≢false (sym h))
  same_list_law f (x ∷ xs) (y ∷ ys) h =
      let p = both_true (e x y) (same_list e xs ys) h in
      ap₂ (λ (a : A) (l : List A). a ∷ l) (f x y p.0) (same_list_law f xs ys p.1)

  pub list_same : ((x : A) → e x x ≡ true) → (xs : List A) → same_list e xs xs ≡ true
  unfolding same_list
  list_same f [] = refl
  list_same f (x ∷ xs) = true_both (e x x) (same_list e xs xs) (f x) (list_same f xs)

pub same_zone_law : (y z : Zone) → same_zone y z ≡ true → y ≡ z
unfolding same_zone
same_zone_law y z h =
    let p = parts _ h in
    let i : y.id ≡ z.id = eqb-true _ _ p.0 in
    let c : y.cpu ≡ z.cpu = same_list_law region_eq equal_same y.cpu z.cpu p.1.0 in
    let d : y.iommu ≡ z.iommu = same_list_law region_eq equal_same y.iommu z.iommu p.1.1.0 in
    (λ k. record { id = i k; cpu = c k; iommu = d k })

pub zone_same : (z : Zone) → same_zone z z ≡ true
unfolding same_zone
zone_same z =
    whole _ (
      eq-eqb z.id z.id refl,
      (list_same region_eq equal_refl z.cpu, (list_same region_eq equal_refl z.iommu, tt)),
    )

-- what 23 asks of document 01's terminals
pub same_config_law : (c : Configuration) (p : Plan) → (same_config c p ≡ true) ↔ GivesConfig c p
unfolding same_config
same_config_law c p = (
  λ e. (let h = parts _ e in record { regions = same_list_law region_eq equal_same _ _ h.0; gic = eqb-true _ _ h.1.0 }),
  λ g. whole _ (
    ap (λ (l : List Region). same_list region_eq l p.regions) g.regions ∙ list_same region_eq equal_refl p.regions,
    (eq-eqb _ _ g.gic, tt),
  ),
)

-- ---- 0 is answered exactly for the base, below the last edition, with requests that are all accepted
-- what a plan gives is what the terminal has
pub record SameBase {C : Type 0} (s : TerminalOf C) (same : Bool) (e : ℕ) (zs : List Zone) : Type 0 where
  pub config : same ≡ true
  pub edition : s.edition ≡ e
  pub zones : table_of s.table ≡ zs

module _ {C : Type 0} (s : TerminalOf C) (same : Bool) (e : ℕ) (zs : List Zone) (r : Run) where
  abbrev answered : Outcome
  answered = first_rule (base_rules s same e zs) (ended r)

  -- answered 0: no number applies, and the run has none either
  judged_well : answered.number ≡ 0 → Quiet (base_rules s same e zs) × ((ended r).number ≡ 0)
  unfolding base_rules first_rule
  judged_well h = by _ _ _ _ h
    where
      by : (u v w x : Bool)
          → (first_rule (plain 23 0 when u ∷ plain 24 0 when v ∷ plain 25 0 when w ∷ plain 26 0 when x ∷ [])
          (ended r)).number
          ≡ 0
          → ((u ≡ false) × ((v ≡ false) × ((w ≡ false) × ((x ≡ false) × Unit {0})))) × ((ended r).number ≡ 0)
      by true v w x h = absurd (omega arith)
      by false true w x h = absurd (omega arith)
      by false false true x h = absurd (omega arith)
      by false false false true h = absurd (omega arith)
      by false false false false h = ((refl, (refl, (refl, (refl, tt)))), h)

  ended_well : (ended r).number ≡ 0 → r.inner ≡ 0
  unfolding ended
  ended_well h = by (eqb r.inner 0) refl h
    where
      by : (t : Bool) → eqb r.inner 0 ≡ t → ◌≡◌ {A = ℕ} (cond t 0 27) 0 → r.inner ≡ 0
      by true h g = eqb-true _ _ h
      by false h g = absurd (omega arith)

  well_ended : r.inner ≡ 0 → ended r ≡ plain 0 r.place
  unfolding ended
  well_ended h = (λ i. record { number = cond (eqb (h i) 0) 0 27; place = r.place; inner = h i })

  pub accepted_base : answered.number ≡ 0 → SameBase s same e zs × (s.edition ≡ last_edition → ⊥) × (r.inner ≡ 0)
  unfolding base_rules test_of
  accepted_base h =
      let (q, well) = judged_well h in
      let none : (n : ℕ) → test_of (λ (o : Outcome). o.number) n (base_rules s same e zs) ≡ false =
      silent (λ o. o.number) (base_rules s same e zs) q in (
        record {
          config = not-false _ (none 23);
          edition = eqb-true _ _ (not-false _ (none 24));
          zones = same_list_law same_zone same_zone_law _ _ (not-false _ (none 26));
        },
        eqb-false _ _ (none 25),
        ended_well well,
      )

  -- for the base, below the last edition, it is what the run ended with
  pub base_judged : SameBase s same e zs → (s.edition ≡ last_edition → ⊥) → answered ≡ ended r
  unfolding base_rules
  base_judged b last =
      let z : same_list same_zone (table_of s.table) zs ≡ true =
      ap (λ (l : List Zone). same_list same_zone l zs) b.zones ∙ list_same same_zone zone_same zs in
      sym
      (quiet_answer (base_rules s same e zs) (ended r) (
        not_holds _ b.config,
        (not_holds _ (eq-eqb _ _ b.edition), (ne_eqb _ _ last, (not_holds _ z, tt))),
      ))

  pub base_accepted : SameBase s same e zs → (s.edition ≡ last_edition → ⊥) → r.inner ≡ 0
      → answered ≡ plain 0 r.place
  base_accepted b last inner = base_judged b last ∙ well_ended inner

-- what was settled: the answer as it is, and the state as it was or moved
module _ {C : Type 0} (l : Limits) (s : TerminalOf C) (o : Outcome) (r : Run) where
  either : Bool → AppliedOf C
  either b = cond b (record { outcome = o; state = moved l s r }) (record { outcome = o; state = s })

  pub outcome_by : (settled l s o r).outcome ≡ o
  unfolding settled either
  outcome_by = by (eqb o.number 0)
    where
      by : (b : Bool) → (either b).outcome ≡ o
      by true = refl
      by false = refl

  pub stays_by : ((settled l s o r).outcome.number ≡ 0 → ⊥) → (settled l s o r).state ≡ s
  unfolding settled either
  stays_by = by (eqb o.number 0) refl
    where
      by : (b : Bool) → eqb o.number 0 ≡ b → ((either b).outcome.number ≡ 0 → ⊥) → (either b).state ≡ s
      by true e ne = absurd (ne (eqb-true _ _ e))
      by false e ne = refl

  pub moves_by : (settled l s o r).outcome.number ≡ 0 → (settled l s o r).state ≡ moved l s r
  unfolding settled either
  moves_by = by (eqb o.number 0) refl
    where
      by : (b : Bool) → eqb o.number 0 ≡ b → (either b).outcome.number ≡ 0 → (either b).state ≡ moved l s r
      by true e z = refl
      by false e z = absurd (eqb-false _ _ e z)

  pub settled_keeps : (P : TerminalOf C → Type 0) → P s → P (moved l s r) → P (settled l s o r).state
  unfolding settled either
  settled_keeps P stay move = by (eqb o.number 0)
    where
      by : (b : Bool) → P (either b).state
      by true = move
      by false = stay

-- ---- what a terminal of any step rule answers, and where it leaves the state
module _ (m : StepRule) (s : Kept m) (b : List ℕ) where
  abbrev own : ℕ
  own = m.standing s.config s.table

  abbrev ran : m.Said → Run
  ran p = ran_by m s.config (table_of s.table) (m.asked p)

  abbrev answers : Bool → Out m.Said → AppliedOf m.Config
  answers x o = cond x (apply_read_by m s b o) (record { outcome = plain own 0; state = s })

  -- the state is unsound: 1 or 2, whatever the bytes are
  pub unsound_by : (own ≡ 0 → ⊥) → apply_by m s b ≡ record { outcome = plain own 0; state = s }
  unfolding apply_by
  unsound_by ne = ap (λ (x : Bool). answers x (m.read b)) (ne_eqb _ 0 ne)

  -- a refusal leaves the state
  pub refused_by : ((apply_by m s b).outcome.number ≡ 0 → ⊥) → (apply_by m s b).state ≡ s
  unfolding apply_by apply_read_by
  refused_by = by (eqb own 0) (m.read b)
    where
      by : (x : Bool) (o : Out m.Said) → ((answers x o).outcome.number ≡ 0 → ⊥) → (answers x o).state ≡ s
      by false o = λ ne. refl
      by true (bad k l) = λ ne. refl
      by true (got p l) = stays_by m.limits s (judged_by m s p (ran p)) (ran p)

  -- what is accepted, at a state that stands, moves it as a plan's requests say
  pub moved_by : ((k : ℕ) (l : List ℕ) → m.read b ≡ bad k l → k ≡ 0 → ⊥) → (apply_by m s b).outcome.number ≡ 0
      → (own ≡ 0) × (p : m.Said) × ((apply_by m s b).state ≡ moved m.limits s (ran p))
  unfolding apply_by apply_read_by
  moved_by refuses = by (eqb own 0) refl (m.read b) refl
    where
      by : (x : Bool) → eqb own 0 ≡ x → (o : Out m.Said) → m.read b ≡ o → (answers x o).outcome.number ≡ 0
          → (own ≡ 0) × (p : m.Said) × ((answers x o).state ≡ moved m.limits s (ran p))
      by false h o e z = absurd (eqb-false _ _ h z)
      by true h (bad k l) e z = absurd (refuses k l e z)
      by true h (got p l) e z =
          (eqb-true _ _ h, p, moves_by m.limits s (judged_by m s p (ran p)) (ran p) z)

  -- so what holds of the state and of all that it can be moved to holds afterwards
  pub apply_keeps : (P : Kept m → Type 0) → P s → ((p : m.Said) → P (moved m.limits s (ran p)))
      → P (apply_by m s b).state
  unfolding apply_by apply_read_by
  apply_keeps P stay move = by (eqb own 0) (m.read b)
    where
      by : (x : Bool) (o : Out m.Said) → P (answers x o).state
      by true (got p l) = settled_keeps m.limits s (judged_by m s p (ran p)) (ran p) P stay (move p)
      by true (bad k l) = stay
      by false o = stay
