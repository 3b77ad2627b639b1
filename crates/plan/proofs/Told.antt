-- A refusal that is passed on as it is, and what is answered of what the format reads.
use Prim.Native.Nat.{ℕ, ◌-◌}
use mathlib.Core.List.{List}
use mathlib.Core.Path.{◌≡◌, refl, ap, sym, subst, ◌∙◌}
use lib.ListN.{length}
use Rattle.std.proofs.Common.{Option, Result, Ok, Err, Some, None}
use Rattle.std.specs.Result.{IsErr, IsErrAnd, result_ok}
use Rattle.formats.specs.Formats.{Out, got, bad, then}
use Rattle.plan.specs.Told.{Told, told, by_reason, told_by, answer_by}
use Rattle.plan.specs.declared.refused.Refused.{Refused}

-- what a `?` returns
pub passed_on : {A E : Type 0} (r : Result A E) (e : E) → IsErr r × IsErrAnd r (λ y. y ≡ e) → r ≡ Err e
passed_on (Ok x) e h = absurd h.1
passed_on (Err y) e h = ap (λ (x : _). Err x) h.1

-- this crate's refusals are told by their reasons
pub by_reasons : {A : Type 0} (r : Result A Refused) → told_by by_reason r ≡ told r
by_reasons (Ok x) = refl
by_reasons (Err e) = refl

-- ---- a refusal of the first part of what is read is one of the whole
module _ {A B C : Type 0} (f : A → List ℕ → B) (n : ℕ) (o : Out A) (g : A → List ℕ → Out C) (h : C → List ℕ → B) where
  pub answer_stops : (e : ℕ × ℕ) → Err e ≡ answer_by f n o → Err e ≡ answer_by h n (then o g)
  unfolding answer_by then
  answer_stops e q = by o q
    where
      by : (o : Out A) → Err e ≡ answer_by f n o → Err e ≡ answer_by h n (then o g)
      by (got x t) q = absurd (cc)
      by (bad k t) q = q

-- the value seen as another
pub answer_as : {A B C : Type 0} (f : A → List ℕ → B) (h : C → List ℕ → B) (to : A → C)
    → ((x : A) (t : List ℕ) → f x t ≡ h (to x) t) → (n : ℕ) (o : Out A)
    → answer_by f n o ≡ answer_by h n (then o (λ x t. got (to x) t))
unfolding answer_by then
answer_as f h to same n (got x t) = ap (λ y. Ok y) (same x t)
answer_as f h to same n (bad k t) = refl

-- a refusal is that of another value too
pub answer_else : {A B C : Type 0} (f : A → List ℕ → B) (h : A → List ℕ → C) (n : ℕ) (o : Out A) (e : ℕ × ℕ)
    → Err e ≡ answer_by f n o → Err e ≡ answer_by h n o
unfolding answer_by
answer_else f h n (got x t) e q = absurd (cc)
answer_else f h n (bad k t) e q = let p : e ≡ (k, n - length t) = cc in ap (λ (x : ℕ × ℕ). Err x) p

-- ---- what `ok` keeps: q is its answer
some_ok : {A : Type 0} (r : Result A Refused) (x : A) → result_ok r ≡ Some x → r ≡ Ok x
some_ok (Ok y) x e = let q : y ≡ x = cc in ap (λ (z : _). Ok z) q
some_ok (Err y) x e = absurd (cc)

none_err : {A : Type 0} (r : Result A Refused) → result_ok r ≡ None → (e : Refused) × (r ≡ Err e)
none_err (Ok y) e = absurd (cc)
none_err (Err y) e = (y, refl)

module _ {A : Type 0} (P : Result A Refused → Type 0) (r : Result A Refused) (p : P r) (q : Option A) (h : q ≡ result_ok r) where
  pub kept_ok : (x : A) → q ≡ Some x → P (Ok x)
  kept_ok x e = subst P (some_ok r x (sym h ∙ e)) p

  pub kept_none : q ≡ None → (e : Refused) × P (Err e)
  kept_none e = let (x, f) = none_err r (sym h ∙ e) in (x, subst P f p)

module _ {A : Type 0} (o : Told A) (r : Result A Refused) (p : told r ≡ o) (q : Option A) (h : q ≡ result_ok r) where
  pub told_ok : (x : A) → q ≡ Some x → Ok x ≡ o
  told_ok = kept_ok (λ (y : Result A Refused). told y ≡ o) r p q h

  pub told_none : q ≡ None → (e : Refused) × (told (Err e) ≡ o)
  told_none = kept_none (λ (y : Result A Refused). told y ≡ o) r p q h
