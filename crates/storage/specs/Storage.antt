-- Document 01's terminals in storage: a call beside the current table, a call with both slots, and that it is the act of the
-- rules.
use Rattle.std.specs.Prelude.{ℕ, suc, Bool, true, false, cond, List, ◌≡◌, eqb}
use Rattle.rules.specs.Applying.{plain_steps, apply}
use Rattle.rules.specs.Limits.{limits}
use Rattle.rules.specs.Storing.{turn, other_slot, filled, Slot}
use Rattle.rules.specs.Tables.{table_of}
use Rattle.rules.specs.declared.Outcome.{Outcome}
use Rattle.zones.specs.View.{stored_config}
use Rattle.zones.specs.Words.{words_of}
use Rattle.plan.specs.Held.{config_held}
use Rattle.plan.specs.Steps.{base_number, kept_in}
use Rattle.plan.specs.declared.finding.Parts.{Parts}
use Rattle.storage.specs.Beside.{judged_before, BesideBy, PreparedBy, FoundBesideBy}
use Rattle.storage.specs.declared.Prepared.{Prepared}

abbrev pub BesideIn : List ℕ → List ℕ → List ℕ → ℕ → List ℕ → Outcome → List ℕ → Type 0
BesideIn c t y e b r u = BesideBy (plain_steps limits) (stored_config c) t y e b r u

abbrev pub PreparedIn : List ℕ → List ℕ → List ℕ → ℕ → List ℕ → Prepared → List ℕ → Type 0
PreparedIn c t y e b r u = PreparedBy (plain_steps limits) (stored_config c) t y e b r u

-- a plan that reads whole, by its parts
abbrev pub FoundBesideIn : List ℕ → List ℕ → List ℕ → ℕ → Parts → Outcome → List ℕ → Type 0
FoundBesideIn c t y e p r u =
    FoundBesideBy (plain_steps limits) (stored_config c) t y
    (base_number (config_held p.regions.now p.gic c) t e p.edition p.zones.now) p.requests.now r u

-- ---- two slots
-- the slot of an edition, as a number
unfoldable pub slot_number : ℕ → ℕ
slot_number e = cond (turn e) 1 0

-- x and y before and u and v afterwards: the current one is as it was
pub record StoredIn (c x y : List ℕ) (e : ℕ) (b : List ℕ) (r : Prepared) (u v : List ℕ) : Type 0 where
  pub prepared : PreparedIn c (cond (turn e) y x) (cond (turn e) x y) e b r (cond (turn e) u v)
  pub current : cond (turn e) v u ≡ cond (turn e) y x

-- ---- so a call is the act of the rules
abbrev pub slots_of : List ℕ → List ℕ → Bool → Slot (List ℕ)
slots_of x y h = record { words = cond h y x; lasts = true; due = false }

pub record ActIn (c x y : List ℕ) (e : ℕ) (b : List ℕ) (r : Prepared) (u v : List ℕ) : Type 0 where
  -- work in the other slot
  pub worked : (h : Bool) → cond h v u ≡ (filled (slots_of x y) (other_slot e) (cond (turn e) u v) h).words
  -- which after 0 has the words of the next table
  pub next : r.outcome.number ≡ 0
      → cond (turn e) u v
      ≡ words_of (table_of (apply limits (kept_in (plain_steps limits) (stored_config c) (cond (turn e) y x) e) b).state.table)
  -- and none after 20 to 26
  pub none : judged_before r.outcome.number ≡ true → (h : Bool) → cond h v u ≡ cond h y x
  -- the mark to write is the next one exactly after 0
  pub mark : r.mark ≡ cond (eqb r.outcome.number 0) (suc e) e

abbrev pub CallIsTheAct : Type 0
CallIsTheAct =
    (c x y : List ℕ) (e : ℕ) (b : List ℕ) (r : Prepared) (u v : List ℕ) → StoredIn c x y e b r u v
    → ActIn c x y e b r u v
