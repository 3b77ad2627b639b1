-- What each return answers at document 01's terminals, and that a call is the act of the rules.
use Prim.Native.Nat.{ℕ, zero, suc, ◌+◌, ◌-◌, ◌%◌, ◌^◌, ◌<◌}
use native.Mathlib.Omega.{arith}
use mathlib.Core.Bool.{Bool, true, false, cond, not}
use mathlib.Core.List.{List}
use mathlib.Core.Path.{◌≡◌, refl, sym, ap, subst, ◌∙◌}
use borrow.Author.Tests.{eqb-true, eqb-false, eq-eqb}
use lib.Dec.{eqb}
use Rattle.std.proofs.Common.{Ok, Err}
use lib.ListN.{length, take, drop}
use Rattle.rules.specs.Applying.{plain_steps, apply, AppliedOf}
use Rattle.rules.specs.Configuration.{StoredConfig}
use Rattle.rules.specs.Limits.{limits}
use Rattle.rules.specs.Plan.{read_plan, Plan}
use Rattle.rules.specs.Requests.{standing_rules, standing}
use Rattle.rules.specs.Run.{run_answer}
use Rattle.rules.specs.Sizes.{zones_at}
use Rattle.rules.specs.Storing.{turn, filled}
use Rattle.rules.specs.Tables.{table_of}
use Rattle.rules.specs.declared.Outcome.{Outcome}
use Rattle.rules.proofs.Plan.{plan_refuses}
use Rattle.zones.specs.Run.{run_words, RanIn}
use Rattle.zones.specs.View.{stored_config, stored_table}
use Rattle.zones.specs.Words.{words_of}
use Rattle.plan.specs.Applying.{state_for, in_words, applied, state_in, AppliedIn}
use Rattle.plan.specs.Found.{found_in, PartsOf}
use Rattle.plan.specs.Steps.{away_with, base_number, kept_in, AppliedBy}
use Rattle.plan.specs.declared.finding.Found.{Found}
use Rattle.plan.specs.declared.finding.Parts.{Parts}
use Rattle.plan.proofs.Steps.{edition_kept}
use Rattle.storage.specs.Beside.{judged_before}
use Rattle.storage.specs.Storage.{slot_number, slots_of, CallIsTheAct, PreparedIn, StoredIn}
use Rattle.storage.specs.declared.Prepared.{Prepared}
use Rattle.storage.proofs.Beside.{prepared_accepted}

-- ---- which slot
twice : (h : Bool) → not (not h) ≡ h
twice true = refl
twice false = refl

pub slot_told : (e : ℕ) → e % 2 ≡ slot_number e
unfolding slot_number turn
slot_told zero = refl
slot_told (suc zero) = refl
slot_told (suc (suc e)) =
    let back : suc (suc e) % 2 ≡ e % 2 = omega arith in
    back ∙ slot_told e ∙ ap (λ (h : Bool). cond h 1 0) (sym (twice (turn e)))

-- ---- two slots
module _ (c x y : List ℕ) (e : ℕ) (b : List ℕ) (r : Prepared) (slot : ℕ) (told : slot ≡ slot_number e) where
  pub stored_first : (v : List ℕ) → slot ≡ 0 → PreparedIn c x y e b r v → StoredIn c x y e b r x v
  unfolding slot_number
  stored_first v z p = by (turn e) refl (sym told ∙ z)
    where
      by : (h : Bool) → turn e ≡ h → ◌≡◌ {A = ℕ} (cond h 1 0) 0 → StoredIn c x y e b r x v
      by true q z = absurd (omega arith)
      by false q z = record {
        prepared = subst (λ (h : Bool). PreparedIn c (cond h y x) (cond h x y) e b r (cond h x v)) (sym q) p;
        current = ap (λ (h : Bool). cond h v x) q ∙ sym (ap (λ (h : Bool). cond h y x) q);
      }

  pub stored_second : (u : List ℕ) → (slot ≡ 0 → ⊥) → PreparedIn c y x e b r u → StoredIn c x y e b r u y
  unfolding slot_number
  stored_second u ne p = by (turn e) refl (λ z. ne (told ∙ z))
    where
      by : (h : Bool) → turn e ≡ h → (◌≡◌ {A = ℕ} (cond h 1 0) 0 → ⊥) → StoredIn c x y e b r u y
      by false q ne = absurd (ne refl)
      by true q ne = record {
        prepared = subst (λ (h : Bool). PreparedIn c (cond h y x) (cond h x y) e b r (cond h u y)) (sym q) p;
        current = ap (λ (h : Bool). cond h y u) q ∙ sym (ap (λ (h : Bool). cond h y x) q);
      }

-- ---- a call is the act of the rules
-- by which slot is current
slots_after : (x y u v : List ℕ) (t : Bool) → cond t v u ≡ cond t y x → (h : Bool)
    → cond h v u ≡ (filled (slots_of x y) (not t) (cond t u v) h).words
unfolding filled
slots_after x y u v false kept false = kept
slots_after x y u v false kept true = refl
slots_after x y u v true kept false = refl
slots_after x y u v true kept true = kept

-- neither has changed
slots_same : (x y u v : List ℕ) (t : Bool) → cond t u v ≡ cond t x y → cond t v u ≡ cond t y x → (h : Bool)
    → cond h v u ≡ cond h y x
slots_same x y u v false other kept false = kept
slots_same x y u v false other kept true = other
slots_same x y u v true other kept false = other
slots_same x y u v true other kept true = kept

module _ (c t y : List ℕ) (e : ℕ) (b : List ℕ) (r : Prepared) (u : List ℕ) (p : PreparedIn c t y e b r u) where
  next_words : r.outcome.number ≡ 0
      → u ≡ words_of (table_of (apply limits (kept_in (plain_steps limits) (stored_config c) t e) b).state.table)
  unfolding apply
  next_words z =
      let yes : eqb r.outcome.number 0 ≡ true = eq-eqb _ 0 z in
      sym (ap (λ (x : Bool). cond x u t) yes)
      ∙ p.beside.applied.table
      ∙ ap (λ (x : Bool). cond x
      (words_of (table_of (apply limits (kept_in (plain_steps limits) (stored_config c) t e) b).state.table)) t) yes

  next_mark : r.mark ≡ cond (eqb r.outcome.number 0) (suc e) e
  next_mark = by (eqb r.outcome.number 0) refl
    where
      by : (h : Bool) → eqb r.outcome.number 0 ≡ h → r.mark ≡ cond h (suc e) e
      by true q =
          let up : e + 1 ≡ suc e = omega arith in
          p.mark ∙ sym (prepared_accepted (plain_steps limits) (stored_config c) t y e b r.outcome u p.beside (plan_refuses limits)
          (eqb-true _ _ q)).mark ∙ up
      by false q =
          p.mark ∙ sym (edition_kept (plain_steps limits) (stored_config c) t e b r.outcome _ p.beside.applied (eqb-false _ _ q))

pub call_is_the_act : CallIsTheAct
unfolding turn
call_is_the_act c x y e b r u v s = record {
  worked = slots_after x y u v (turn e) s.current;
  next = next_words c _ _ e b r _ s.prepared;
  none = λ j. slots_same x y u v (turn e) (s.prepared.beside.untouched j) s.current;
  mark = next_mark c _ _ e b r _ s.prepared;
}
