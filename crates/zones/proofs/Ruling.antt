-- Answers by rules: the first stage of them refuses, or it leaves the answer to the stages after it.
use Prim.Native.Nat.{ℕ, ◌<◌}
use native.Mathlib.Omega.{arith}
use mathlib.Core.Bool.{true, false}
use mathlib.Core.List.{List, [], ◌∷◌, ◌++◌, append-nil}
use mathlib.Core.Logic.{◌⊎◌, inl, inr}
use mathlib.Core.Path.{◌≡◌, refl, sym, ap, subst, ◌∙◌}
use borrow.Author.Tests.{ltb-true}
use lib.Dec.{ltb}
use Rattle.std.specs.Prelude.{Result, Ok, Err}
use Rattle.lists.specs.First.{all}
use Rattle.lists.specs.Rules.{Rule, first_rule}
use Rattle.lists.proofs.Rules.{Quiet, above_zero}
use Rattle.lists.proofs.Tests.{both_true}
use Rattle.rules.specs.Numbers.{number, code}
use Rattle.rules.specs.declared.refusal.Refusal.{Refusal}
use Rattle.rules.specs.declared.refusal.Refusal.TheVariants.{UnsoundConfig, UnsoundTable, NoRequest, ZoneIdTooHigh, ZoneThere, NoZone, ZonesFull, ZoneInUse, Form, Reach, NotConfigured, TooManyRights, OverGic, RegionThere}
use Rattle.rules.specs.declared.refusal.Refusal.TheVariants.{PhysicalOverlap, GuestOverlap, SetFull, NoRegion, NotCovered, Cut, Count, Trailing, OtherConfig, OtherEdition, NoNextEdition, OtherZones, RequestRefused, BufferShort, TooManyRequests, FalseClaim}
use Rattle.zones.specs.Decide.{in_numbers, ruled}

module _ {A : Type 0} where
  -- the value of an answer that does not refuse, whatever is said of one that does
  abbrev value_or : A → Result A ℕ → A
  value_or d (Ok x) = x
  value_or d (Err n) = d

  abbrev pub number_or : ℕ → Result A ℕ → ℕ
  number_or d (Ok x) = d
  number_or d (Err n) = n

  pub same_value : (x y : A) → ◌≡◌ {A = Result A ℕ} (Ok x) (Ok y) → x ≡ y
  same_value x y e = ap (value_or x) e

  abbrev ok_or_not : Result A ℕ → Type 0
  ok_or_not (Ok x) = Unit {0}
  ok_or_not (Err n) = ⊥

  pub not_both : (x : A) (n : ℕ) → ◌≡◌ {A = Result A ℕ} (Ok x) (Err n) → ⊥
  not_both x n e = subst ok_or_not e tt

  -- rules that refuse nothing are silent, and the value is what was to be answered
  pub passed : (rs : List (Rule ℕ)) (x z : A) → Ok z ≡ ruled rs x → Quiet rs × (z ≡ x)
  unfolding first_rule
  passed [] x z e = (tt, same_value z x e)
  passed ((n, true) ∷ rs) x z e = absurd (not_both z n e)
  passed ((n, false) ∷ rs) x z e = let p = passed rs x z e in ((refl, p.0), p.1)

  pub code_or : (r : Result A Refusal) → code r ≡ number_or 0 (in_numbers r)
  code_or (Ok y) = refl
  code_or (Err w) = refl

  pub number_ruled : (rs : List (Rule ℕ)) (x : A) (n : ℕ) → Err n ≡ ruled rs x → n ≡ first_rule rs 0
  unfolding first_rule
  number_ruled rs x n e = ap (number_or 0) e ∙ of rs
    where
      of : (rs : List (Rule ℕ)) → number_or 0 (ruled rs x) ≡ first_rule rs 0
      of [] = refl
      of ((n, true) ∷ rs) = refl
      of ((n, false) ∷ rs) = of rs

  -- refused with the first number that applies, or answered
  pub refused_or_made : (rs : List (Rule ℕ)) (x : A) → above_zero rs ≡ true
      → ((first_rule rs 0 ≡ 0 → ⊥) × (ruled rs x ≡ Err (first_rule rs 0)))
      ⊎ ((first_rule rs 0 ≡ 0) × (ruled rs x ≡ Ok x))
  unfolding first_rule above_zero all
  refused_or_made [] x z = inr (refl, refl)
  refused_or_made ((n, true) ∷ rs) x z =
      inl ((λ e. let h : 0 < n = ltb-true _ _ (both_true (ltb 0 n) _ z).0 in omega arith), refl)
  refused_or_made ((n, false) ∷ rs) x z = refused_or_made rs x (both_true (ltb 0 n) _ z).1

-- ---- stages: a function judged the rules us, and answered
module _ {A B : Type 0} (us vs : List (Rule ℕ)) (x : A) (y : B) where
  pub stage_refuses : (n : ℕ) → Err n ≡ ruled us x → Err n ≡ ruled (us ++ vs) y
  unfolding first_rule
  stage_refuses n = first us
    where
      first : (ws : List (Rule ℕ)) → Err n ≡ ruled ws x → Err n ≡ ruled (ws ++ vs) y
      first [] e = absurd (not_both x n (sym e))
      first ((k, true) ∷ ws) e = ap (λ (m : ℕ). Err m) (ap (number_or 0) e)
      first ((k, false) ∷ ws) e = first ws e

  pub stage_passes : (z : A) (d : Result B ℕ) → Ok z ≡ ruled us x → d ≡ ruled vs y → d ≡ ruled (us ++ vs) y
  unfolding first_rule
  stage_passes z d e g = first us e
    where
      first : (ws : List (Rule ℕ)) → Ok z ≡ ruled ws x → d ≡ ruled (ws ++ vs) y
      first [] e = g
      first ((k, true) ∷ ws) e = absurd (not_both z k e)
      first ((k, false) ∷ ws) e = first ws e

-- the last stage
pub last_refuses : {A B : Type 0} (us : List (Rule ℕ)) (x : A) (y : B) (n : ℕ) → Err n ≡ ruled us x → Err n ≡ ruled us y
last_refuses us x y n e = rw append-nil at (stage_refuses us [] x y n e)

pub last_passes : {A B : Type 0} (us : List (Rule ℕ)) (x z : A) (y : B) → Ok z ≡ ruled us x → Ok y ≡ ruled us y
unfolding first_rule
last_passes us x z y e = rw append-nil at (stage_passes us [] x y z (Ok y) e refl)

-- the number of a refusal is not 0
pub number_some : (r : Refusal) → number r ≡ 0 → ⊥
number_some UnsoundConfig e = omega arith
number_some UnsoundTable e = omega arith
number_some NoRequest e = omega arith
number_some ZoneIdTooHigh e = omega arith
number_some ZoneThere e = omega arith
number_some NoZone e = omega arith
number_some ZonesFull e = omega arith
number_some ZoneInUse e = omega arith
number_some Form e = omega arith
number_some Reach e = omega arith
number_some NotConfigured e = omega arith
number_some TooManyRights e = omega arith
number_some OverGic e = omega arith
number_some RegionThere e = omega arith
number_some PhysicalOverlap e = omega arith
number_some GuestOverlap e = omega arith
number_some SetFull e = omega arith
number_some NoRegion e = omega arith
number_some NotCovered e = omega arith
number_some Cut e = omega arith
number_some Count e = omega arith
number_some Trailing e = omega arith
number_some OtherConfig e = omega arith
number_some OtherEdition e = omega arith
number_some NoNextEdition e = omega arith
number_some OtherZones e = omega arith
number_some RequestRefused e = omega arith
number_some BufferShort e = omega arith
number_some TooManyRequests e = omega arith
number_some FalseClaim e = omega arith
