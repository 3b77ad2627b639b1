-- Calls about bases in numbers that C can hold: an outcome without its inner number, which is 0; where a plan's zones begin; and the place
-- and the two bytes where stretches differ.
use Prim.Native.Nat.{ℕ, ◌-◌, ◌≤◌}
use native.Mathlib.Omega.{arith}
use mathlib.Core.Bool.{Bool, true, false, cond, not}
use mathlib.Core.List.{List, [], ◌∷◌}
use mathlib.Core.Path.{◌≡◌, refl, ap, ◌∙◌}
use lib.Dec.{ltb, eqb}
use lib.ListN.{length, get_or, length-drop}
use Rattle.lists.specs.Alike.{alike}
use Rattle.lists.specs.Rules.{first_rule}
use Rattle.lists.proofs.Alike.{alike_is}
use Rattle.formats.specs.Formats.{Out, got, bad}
use Rattle.rules.specs.Applying.{plain}
use Rattle.rules.specs.Differing.{write_zones, zones_bytes, zones_of, lacking_part}
use Rattle.rules.specs.Filling.{fill_answer}
use Rattle.rules.specs.Limits.{limits}
use Rattle.rules.specs.Plan.{read_plan, Plan}
use Rattle.rules.specs.Requests.{standing}
use Rattle.rules.specs.declared.Outcome.{Outcome}
use Rattle.zones.specs.View.{stored_config, stored_table}
use Rattle.plan.specs.Found.{found_in}
use Rattle.plan.specs.declared.finding.Found.{Found}
use Rattle.plan.specs.Told.{Told, answer_by}
use Rattle.lent.specs.Lent.{told_number, told_by}
use Rattle.writer.specs.Writer.{writes_zones_in, WritesZonesIn}
use Rattle.agent.specs.Agent.{WritesZonesWords, WordsAreZones, base_at, base_stretch, reading_number, no_byte}

-- ---- a terminal's zones
pub zones_told : (c t w : List ℕ) (o : Outcome) (v a : List ℕ) → WritesZonesIn c t w o v → a ≡ o.place ∷ []
    → WritesZonesWords c t w o.number v a
zones_told c t w o v a h p = record {
  number = ap (λ (x : Outcome). x.number) h.answer;
  buffer = h.buffer;
  place = p ∙ ap (λ (x : Outcome). x.place ∷ []) h.answer;
}

no_inner : (c t w : List ℕ) → ◌≡◌ {A = ℕ} 0 (writes_zones_in c t w).outcome.inner
unfolding write_zones fill_answer first_rule
no_inner c t w =
    by (not (eqb (standing limits (stored_config c) (stored_table t)) 0))
    (ltb (length w) (length (zones_bytes limits (stored_table t))))
  where
    by : (x y : Bool)
        → ◌≡◌ {A = ℕ} 0
        (cond x (plain (standing limits (stored_config c) (stored_table t)) 0)
        (cond y (plain 28 0) (plain 0 (length (zones_bytes limits (stored_table t)))))).inner
    by true y = refl
    by false true = refl
    by false false = refl

pub words_are_zones : WordsAreZones
words_are_zones c t w n v a h = record {
  answer =
      (λ i. record {
        number = h.number i;
        place = get_or (h.place i) 0 0;
        inner = no_inner c t w i;
      });
  buffer = h.buffer;
}

-- ---- where a plan's zones begin, of what was found
begins : (n : ℕ) (o : Out Plan) → told_by (λ (f : Found). f.zones) (found_in n o) ≡ base_at n o
unfolding answer_by base_at
begins n (got p t) = refl
begins n (bad k t) = refl

-- r is what was found, and s the zones section
pub base_told : (b s : List ℕ) (r : Told Found) → s ≡ zones_of limits b → r ≡ found_in (length b) (read_plan limits b)
    → (told_number r ≡ reading_number b) × (told_by (λ (f : Found). f.zones) r ∷ length s ∷ [] ≡ base_stretch b)
unfolding base_stretch
base_told b s r es er =
    let z = ap (told_by (λ (f : Found). f.zones)) er ∙ begins (length b) (read_plan limits b) in
    (ap told_number er, λ i. z i ∷ length (es i) ∷ [])

-- ---- the place and the bytes: p is the part
module _ (b c p : List ℕ) (e : p ≡ lacking_part b c) where
  pub part_within : length p ≤ length b
  unfolding lacking_part
  part_within = omega (arith, ap length e, length-drop (alike b c) b)

  pub place_told : length b - length p ≡ alike b c
  unfolding lacking_part
  place_told = omega (arith, ap length e, length-drop (alike b c) b, (alike_is b c).within)

pub bytes_told : (b c : List ℕ) (k : ℕ) (u : List ℕ) (x y : ℕ) → u ≡ x ∷ y ∷ [] → x ≡ get_or b k no_byte → y ≡ get_or c k no_byte
    → u ≡ get_or b k no_byte ∷ get_or c k no_byte ∷ []
bytes_told b c k u x y e ex ey = e ∙ (λ i. ex i ∷ ey i ∷ [])
