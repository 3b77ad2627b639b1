-- Storing: each act of each task keeps that, however the mark is read, the slot of that edition lasts and holds what it
-- should, with no told edition above it; and so a cut anywhere keeps it.
use Prim.Native.Nat.{ℕ, zero, suc, ◌≤◌}
use native.Mathlib.Omega.{arith}
use mathlib.Core.Bool.{Bool, true, false, cond, not}
use mathlib.Core.List.{List, [], ◌∷◌, ◌++◌, append_assoc}
use mathlib.Core.Logic.{inl, inr}
use mathlib.Core.Path.{◌≡◌, refl, sym, ap, subst, ◌∙◌}
use borrow.Author.Tests.{eqb-true}
use lib.Dec.{eqb}
use lib.ListN.{length, take}
use lib.Seq.{take-length}
use Rattle.lists.specs.Runs.{runs}
use Rattle.formats.specs.Formats.{All}
use Rattle.rules.specs.Storing.{fills, marks, waits, tells, turn, filled, acted, told_by, other_slot, raising, staying, refusing}
use Rattle.rules.specs.Storing.{booting, delivering, readings, Among, Fine, Safe, SafeStart, SafeDelivery, Slot, Store, Act, Left, Ok}

-- ---- the two slots
module _ {W : Type 0} (s : Bool → Slot W) (x : W) where
  -- work in one slot leaves the other, and its own has the words
  pub filled_other : (h : Bool) → filled s (not h) x h ≡ s h
  unfolding filled
  filled_other false = refl
  filled_other true = refl

  pub filled_own : (h : Bool) → filled s h x h ≡ record { words = x; lasts = false; due = true }
  unfolding filled
  filled_own false = refl
  filled_own true = refl

-- what lasts still does after a wait
still : (c l : Bool) → l ≡ true → cond c true l ≡ true
still true l e = refl
still false l e = e

module _ {W : Type 0} (P : ℕ → W → Type 0) where
  -- ---- before each act, and after the last
  abbrev telling : Act W → List ℕ → List ℕ
  telling (fills h x) told = told
  telling (marks e) told = told
  telling waits told = told
  telling (tells e) told = e ∷ told

  abbrev Along : List ℕ → Store W → List (Act W) → Type 0
  Along told d [] = Fine P told d
  Along told d (a ∷ es) = Fine P told d × Along (telling a told) (acted d a) es

  along_take : (told : List ℕ) (d : Store W) (es : List (Act W)) (n : ℕ) → Along told d es
      → Fine P (told_by (take n es) ++ told) (runs acted d (take n es))
  unfolding told_by runs
  along_take told d [] zero f = f
  along_take told d [] (suc n) f = f
  along_take told d (a ∷ es) zero (f, g) = f
  along_take told d (fills h x ∷ es) (suc n) (f, g) = along_take told (acted d (fills h x)) es n g
  along_take told d (marks e ∷ es) (suc n) (f, g) = along_take told (acted d (marks e)) es n g
  along_take told d (waits ∷ es) (suc n) (f, g) = along_take told (acted d waits) es n g
  along_take told d (tells e ∷ es) (suc n) (f, g) =
      subst (λ (t : List ℕ). Fine P t (runs acted (acted d (tells e)) (take n es)))
      (sym (append_assoc (told_by (take n es)) (e ∷ []) told))
      (along_take (e ∷ told) (acted d (tells e)) es n g)

  -- ---- a cut
  module _ (told : List ℕ) (d u : Store W) (l : Left d u) where
    ok_left : (r : ℕ) → Ok P told d r → Ok P told u r
    ok_left r o = record {
      lasts = l.last (turn r) o.lasts;
      known = subst (P r) (sym (l.slots (turn r) o.lasts)) o.known;
      above = o.above;
    }

    ok_among : (r : ℕ) (rs : List ℕ) → Among r rs → All (Ok P told d) rs → Ok P told d r
    ok_among r [] a f = absurd a
    ok_among r (y ∷ ys) (inl e) (f, g) = subst (λ (z : ℕ). Ok P told d z) (sym e) f
    ok_among r (y ∷ ys) (inr a) (f, g) = ok_among r ys a g

    all_left : (rs us : List ℕ) → All (Ok P told d) rs → All (λ (e : ℕ). Among e rs) us → All (Ok P told u) us
    all_left rs [] f a = tt
    all_left rs (v ∷ vs) f (a, b) = (ok_left v (ok_among v rs a f), all_left rs vs f b)

  -- a task all of whose acts keep it is safe
  safe : (told : List ℕ) (d : Store W) (es : List (Act W)) → Along told d es → Safe P told d es
  safe told d es f = (
    λ n u l. all_left (told_by (take n es) ++ told) (runs acted d (take n es)) u l
        (readings (runs acted d (take n es))) (readings u) (along_take told d es n f) l.marks,
    subst (λ (l : List (Act W)). Fine P (told_by l ++ told) (runs acted d l)) (take-length es)
        (along_take told d es (length es) f),
  )

  -- a wait keeps what is kept
  ok_waits : (told : List ℕ) (d : Store W) (r : ℕ) → Ok P told d r → Ok P told (acted d waits) r
  unfolding acted
  ok_waits told d r o = record {
    lasts = still (d.slot (turn r)).due (d.slot (turn r)).lasts o.lasts;
    known = o.known;
    above = o.above;
  }

  -- so does the writing of a mark, of what it is not read as then
  ok_marks : (told : List ℕ) (d : Store W) (e r : ℕ) → Ok P told d r → Ok P told (acted d (marks e)) r
  unfolding acted
  ok_marks told d e r o = record { lasts = o.lasts; known = o.known; above = o.above }

  all_marks : (told : List ℕ) (d : Store W) (e : ℕ) (rs : List ℕ) → All (Ok P told d) rs
      → All (Ok P told (acted d (marks e))) rs
  all_marks told d e [] g = tt
  all_marks told d e (r ∷ rs) (g, h) = (ok_marks told d e r g, all_marks told d e rs h)

  -- and what is told of the edition that is read
  ok_tells : (told : List ℕ) (d : Store W) (r : ℕ) → Ok P told d r → Ok P (r ∷ told) d r
  ok_tells told d r o = record { lasts = o.lasts; known = o.known; above = (omega arith, o.above) }

  -- ---- a start
  boot_along : (told : List ℕ) (d : Store W) → Fine P told d → Along told d (booting d)
  unfolding booting acted
  boot_along told d f =
      let o : Ok P told (acted d (marks d.mark)) d.mark = ok_marks told d d.mark d.mark f.0 in
      let w : Ok P told (acted (acted d (marks d.mark)) waits) d.mark =
      ok_waits told (acted d (marks d.mark)) d.mark o in
      (f, ((o, all_marks told d d.mark (readings d) f), ((w, tt), (ok_tells told _ d.mark w, tt))))

  -- ---- a delivery
  module _ (told : List ℕ) (e : ℕ) (s : Bool → Slot W) (n : ℕ) (x : W) where
    abbrev at : Store W
    at = record { mark = e; wavers = []; due = false; slot = s }

    -- worked in, and waited for
    abbrev at₁ : Store W
    at₁ = acted at (fills (other_slot e) x)

    abbrev at₂ : Store W
    at₂ = acted at₁ waits

    abbrev at₃ : Store W
    at₃ = acted at₂ (marks (suc e))

    abbrev at₄ : Store W
    at₄ = acted at₃ waits

    higher : (l : List ℕ) → All (λ (i : ℕ). i ≤ e) l → All (λ (i : ℕ). i ≤ suc e) l
    higher [] a = tt
    higher (y ∷ ys) (a, c) = (omega arith, higher ys c)

    -- the current slot is as it was
    ok_worked : Ok P told at e → Ok P told at₁ e
    unfolding acted turn
    ok_worked o =
        let keeps : filled s (not (turn e)) x (turn e) ≡ s (turn e) = filled_other s x (turn e) in
        record {
          lasts = ap (λ (z : Slot W). z.lasts) keeps ∙ o.lasts;
          known = subst (λ (z : Slot W). P e z.words) (sym keeps) o.known;
          above = o.above;
        }

    -- the other lasts after the wait, with what was made there
    ok_next : Ok P told at e → P (suc e) x → Ok P told at₂ (suc e)
    unfolding acted turn
    ok_next o new =
        let own : filled s (not (turn e)) x (not (turn e)) ≡ record { words = x; lasts = false; due = true } =
        filled_own s x (not (turn e)) in
        record {
          lasts = ap (λ (z : Slot W). cond z.due true z.lasts) own;
          known = subst (λ (z : Slot W). P (suc e) z.words) (sym own) new;
          above = higher told o.above;
        }

    -- after 0, and after any other number
    raising_along : Ok P told at e → P (suc e) x → Along told at₁ (raising e)
    unfolding raising acted
    raising_along o next =
        let old : Ok P told at₂ e = ok_waits told at₁ e (ok_worked o) in
        let new : Ok P told at₃ (suc e) = ok_marks told at₂ (suc e) (suc e) (ok_next o next) in
        let last : Ok P told at₄ (suc e) = ok_waits told at₃ (suc e) new in (
          (ok_worked o, tt),
          (
            (old, tt),
            ((new, (ok_marks told at₂ (suc e) e old, tt)), ((last, tt), (ok_tells told at₄ (suc e) last, tt))),
          ),
        )

    staying_along : Ok P told at e → Along told at₁ (staying e)
    unfolding staying acted
    staying_along o = ((ok_worked o, tt), (ok_tells told at₁ e (ok_worked o), tt))

    -- with work in the other slot before, or with none
    refusing_along : Ok P told at e → (touched : Bool) → Along told at (refusing touched x e)
    unfolding refusing staying acted
    refusing_along o true = ((o, tt), staying_along o)
    refusing_along o false = ((o, tt), (ok_tells told at e o, tt))

    take_along : (touched : Bool) → Ok P told at e → (n ≡ 0 → P (suc e) x) → Along told at (delivering touched n x at)
    unfolding delivering
    take_along touched o next = by (eqb n 0) refl
      where
        by : (c : Bool) → eqb n 0 ≡ c
            → Along told at (cond c (fills (other_slot e) x ∷ raising e) (refusing touched x e))
        by true h = ((o, tt), raising_along o (next (eqb-true _ _ h)))
        by false h = refusing_along o touched

  pub safe_start : SafeStart P
  safe_start told d f = safe told d (booting d) (boot_along told d f)

  pub safe_delivery : SafeDelivery P
  safe_delivery told d touched n x (q, r) o next =
      safe told d (delivering touched n x d)
      (subst (λ (v : Store W). Along told v (delivering touched n x v))
      (λ i. record { mark = d.mark; wavers = sym q i; due = sym r i; slot = d.slot })
      (take_along told d.mark d.slot n x touched
      (record { lasts = o.lasts; known = o.known; above = o.above }) next))
