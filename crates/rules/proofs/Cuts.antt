-- Cuts by computation. The worst that a cut can leave: no table in a slot that does not last, and the mark read as the test
-- fails at.
use Prim.Native.Nat.{ℕ, zero, suc, ◌≤◌}
use mathlib.Core.Bool.{Bool, true, false, not, ◌&&◌}
use mathlib.Core.List.{List, [], ◌∷◌, ◌++◌, append_assoc}
use mathlib.Core.Logic.{inl, inr}
use mathlib.Core.Path.{◌≡◌, refl, sym, ap, subst, ◌∙◌}
use borrow.Author.Tests.{le-leb}
use lib.Dec.{leb, T}
use lib.ListN.{take}
use Rattle.lists.specs.First.{all}
use Rattle.lists.specs.Runs.{runs}
use Rattle.lists.specs.Tests.{all_of}
use Rattle.lists.proofs.Tests.{both_true, true_both, whole}
use Rattle.formats.specs.Formats.{All}
use Rattle.rules.specs.Cuts.{is_table, well, well_read, well_along, FailsAtACut, unsure, TasksAreWell, VariantsFail}
use Rattle.rules.specs.Cuts.{StartIsNeeded}
use Rattle.rules.specs.Storing.{turn, filled, acted, told_by, raising, staying, refusing, booting, delivering, readings}
use Rattle.rules.specs.Storing.{fills, marks, waits, tells, Among, Store, Act, Left, Ok}

no_test : false ≡ true → ⊥
no_test e = subst T (sym e) tt

-- ---- where the test fails
module _ (told : List ℕ) (d : Store Bool) where
  -- a reading at which it does
  failing : (rs : List ℕ) → all (well told d) rs ≡ false → (r : ℕ) × Among r rs × (well told d r ≡ false)
  unfolding all
  failing [] e = absurd (no_test (sym e))
  failing (r ∷ rs) e = by (well told d r) refl e (λ g. failing rs g)
    where
      by : (t : Bool) → well told d r ≡ t → (t && all (well told d) rs) ≡ false
          → (all (well told d) rs ≡ false → (s : ℕ) × Among s rs × (well told d s ≡ false))
          → (s : ℕ) × Among s (r ∷ rs) × (well told d s ≡ false)
      by false q e later = (r, inl refl, q)
      by true q e later = let (s, a, f) = later e in (s, inr a, f)

  -- the worst that a cut leaves
  abbrev worst : ℕ → Store Bool
  worst r = record {
    mark = r;
    wavers = [];
    due = false;
    slot = λ h. record { words = (d.slot h).lasts && (d.slot h).words; lasts = (d.slot h).lasts; due = false };
  }

  left_worst : (r : ℕ) → Among r (readings d) → Left d (worst r)
  left_worst r a = record {
    slots = λ h e. ap (λ (t : Bool). t && (d.slot h).words) e;
    last = λ h e. e;
    marks = (a, tt);
    none = refl;
    none_due = λ h. refl;
  }

  none_above : (r : ℕ) (es : List ℕ) → All (λ (e : ℕ). e ≤ r) es → all (λ (e : ℕ). leb e r) es ≡ true
  unfolding all
  none_above r [] a = refl
  none_above r (e ∷ es) (a, b) = true_both (leb e r) _ (le-leb e r a) (none_above r es b)

  worst_fails : (r : ℕ) → well told d r ≡ false → Ok is_table told (worst r) r → ⊥
  unfolding well
  worst_fails r f o =
      let words : (d.slot (turn r)).words ≡ true = (both_true (d.slot (turn r)).lasts _ o.known).1 in
      no_test (sym f ∙ whole _ (o.lasts, (words, (none_above r told o.above, tt))))

-- what is told by the first act comes first
told_on : (a : Act Bool) (es : List (Act Bool)) (told : List ℕ)
    → told_by es ++ (told_by (a ∷ []) ++ told) ≡ told_by (a ∷ es) ++ told
unfolding told_by
told_on (fills h x) es told = refl
told_on (marks e) es told = refl
told_on waits es told = refl
told_on (tells e) es told = sym (append_assoc (told_by es) (e ∷ []) told)

-- the acts after which it does
abbrev FailsIn : List ℕ → Store Bool → List (Act Bool) → Type 0
FailsIn told d es = (n : ℕ) × (well_read (told_by (take n es) ++ told) (runs acted d (take n es)) ≡ false)

at_a_cut : (told : List ℕ) (d : Store Bool) (es : List (Act Bool)) → well_along told d es ≡ false → FailsIn told d es
unfolding well_along runs told_by
at_a_cut told d [] e = (0, e)
at_a_cut told d (a ∷ es) e = by (well_read told d) refl e (λ g. at_a_cut (told_by (a ∷ []) ++ told) (acted d a) es g)
  where
    by : (t : Bool) → well_read told d ≡ t → (t && well_along (told_by (a ∷ []) ++ told) (acted d a) es) ≡ false
        → (well_along (told_by (a ∷ []) ++ told) (acted d a) es ≡ false
        → FailsIn (told_by (a ∷ []) ++ told) (acted d a) es)
        → FailsIn told d (a ∷ es)
    by false q e later = (0, q)
    by true q e later =
        let (n, f) = later e in (
          suc n,
          subst (λ (l : List ℕ). well_read l (runs acted (acted d a) (take n es)) ≡ false) (told_on a (take n es) told) f,
        )

pub fails_at_a_cut : FailsAtACut
unfolding well_read
fails_at_a_cut told d es e cuts =
    let (n, f) = at_a_cut told d es e in
    let (r, a, g) = failing (told_by (take n es) ++ told) (runs acted d (take n es)) _ f in
    worst_fails (told_by (take n es) ++ told) (runs acted d (take n es)) r g
    (cuts n _ (left_worst (told_by (take n es) ++ told) (runs acted d (take n es)) r a)).0

-- ---- what a terminal does, and what it must not do
pub tasks_are_well : TasksAreWell
unfolding well_along well_read well all all_of turn filled acted told_by booting delivering raising staying refusing
tasks_are_well = (refl, refl, refl, refl)

pub variants_fail : VariantsFail
unfolding well_along well_read well all all_of turn filled acted told_by
variants_fail = (
  (refl, fails_at_a_cut _ _ _ refl),
  (
    (refl, fails_at_a_cut _ _ _ refl),
    (
      (refl, fails_at_a_cut _ _ _ refl),
      (
        (refl, fails_at_a_cut _ _ _ refl),
        ((refl, fails_at_a_cut _ _ _ refl), ((refl, fails_at_a_cut _ _ _ refl), tt)),
      ),
    ),
  ),
)

pub start_is_needed : StartIsNeeded
unfolding well_along well_read well all all_of turn filled acted told_by delivering staying refusing
start_is_needed = (
  (record { lasts = refl; known = refl; above = tt }, (record { lasts = refl; known = refl; above = tt }, tt)),
  fails_at_a_cut [] unsure _ refl,
)
