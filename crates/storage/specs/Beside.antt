-- A plan applied beside the current table, in the other slot, by any step rule: what is answered, what then lies in that
-- slot, and the mark to write.
use Rattle.std.specs.Prelude.{ℕ, Bool, true, false, cond, List, [], ◌∷◌, ◌≡◌, leb, eqb, get_or}
use Rattle.lists.specs.Tests.{all_of}
use Rattle.rules.specs.Applying.{apply_by}
use Rattle.rules.specs.Steps.{StepRule}
use Rattle.rules.specs.declared.Outcome.{Outcome}
use Rattle.plan.specs.Steps.{kept_in, AppliedBy, FoundBy}
use Rattle.storage.specs.declared.Prepared.{Prepared}

-- 20 to 26: bytes that are no plan, or a plan for another base
unfoldable pub judged_before : ℕ → Bool
judged_before n = all_of (leb 20 n ∷ leb n 26 ∷ [])

-- as C has it: the number; and three words, the mark to write, the place and the inner number
abbrev pub prepared_in : ℕ → List ℕ → Prepared
prepared_in n a = record {
  outcome = record { number = n; place = get_or a 1 0; inner = get_or a 2 0 };
  mark = get_or a 0 0;
}

module _ (m : StepRule) where
  -- a plan b at the configuration c, the current table t and the edition e: r is answered, and u lies in the other slot,
  -- where y lay
  pub record BesideBy (c : m.Config) (t y : List ℕ) (e : ℕ) (b : List ℕ) (r : Outcome) (u : List ℕ) : Type 0 where
    -- what is current afterwards, u after 0 and else t, is what applying the plan where the table lies would leave
    pub applied : AppliedBy m c t e b r (cond (eqb r.number 0) u t)
    -- 20 to 26 have not touched the other slot
    pub untouched : judged_before r.number ≡ true → u ≡ y

  -- the mark to write is the edition afterwards; and after a refusal that is none of these the other slot has the current
  -- table
  pub record PreparedBy (c : m.Config) (t y : List ℕ) (e : ℕ) (b : List ℕ) (r : Prepared) (u : List ℕ) : Type 0 where
    pub beside : BesideBy c t y e b r.outcome u
    pub copied : (r.outcome.number ≡ 0 → ⊥) → judged_before r.outcome.number ≡ false → u ≡ t
    pub mark : r.mark ≡ (apply_by m (kept_in m c t e) b).state.edition

  -- ---- how the code goes about it
  -- a plan that reads whole, by its base's number n
  pub record FoundBesideBy (c : m.Config) (t y : List ℕ) (n : ℕ) (b : List ℕ) (r : Outcome) (u : List ℕ) : Type 0 where
    pub found : FoundBy m c t n b r (cond (eqb r.number 0) u t)
    pub untouched : judged_before r.number ≡ true → u ≡ y
