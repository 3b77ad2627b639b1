-- Cuts by computation, where all that is known of a slot's words is whether they are a table: the acts of a start and of a
-- delivery stand every cut, and each other order that one might think of has a cut that it does not stand.
use Rattle.std.specs.Prelude.{ℕ, Bool, true, false, not, ◌&&◌, List, [], ◌∷◌, ◌++◌, ◌≡◌, leb}
use Rattle.lists.specs.First.{all}
use Rattle.lists.specs.Tests.{all_of}
use Rattle.formats.specs.Formats.{All}
use Rattle.rules.specs.Storing.{fills, marks, waits, tells, turn, acted, told_by, booting, delivering, readings}
use Rattle.rules.specs.Storing.{Fine, CutAnywhere, Store, Act}

-- words are a table, or are not
abbrev pub is_table : ℕ → Bool → Type 0
is_table e x = x ≡ true

-- ---- the test
-- where the mark is read as r: the slot of r lasts, it is a table, and no edition that was told is above r
unfoldable pub well : List ℕ → Store Bool → ℕ → Bool
well told d r = all_of ((d.slot (turn r)).lasts ∷ (d.slot (turn r)).words ∷ all (λ (e : ℕ). leb e r) told ∷ [])

-- however the mark is read
unfoldable pub well_read : List ℕ → Store Bool → Bool
well_read told d = all (well told d) (readings d)

-- before each act, and after the last
unfoldable pub well_along : List ℕ → Store Bool → List (Act Bool) → Bool
well_along told d [] = well_read told d
well_along told d (a ∷ es) = well_read told d && well_along (told_by (a ∷ []) ++ told) (acted d a) es

-- where it fails there is a cut, and something that it may leave, after which not all is well
abbrev pub FailsAtACut : Type 0
FailsAtACut =
    (told : List ℕ) (d : Store Bool) (es : List (Act Bool)) → well_along told d es ≡ false
    → CutAnywhere is_table told d es → ⊥

-- ---- the storage
-- at edition 0, which lasts, with no table in the other slot; and after a cut at the mark, which reads as 1 and may read
-- as 0, with a table in both
abbrev pub calm : Store Bool
calm = record { mark = 0; wavers = []; due = false; slot = λ h. record { words = not h; lasts = not h; due = false } }

abbrev pub unsure : Store Bool
unsure = record { mark = 1; wavers = 0 ∷ []; due = false; slot = λ h. record { words = true; lasts = true; due = false } }

-- ---- what a terminal does
-- an accepted plan, one that is refused after work in the other slot and one before, and a start
abbrev pub TasksAreWell : Type 0
TasksAreWell =
    (well_along [] calm (delivering true 0 true calm) ≡ true)
    × (well_along [] calm (delivering true 27 false calm) ≡ true)
    × (well_along [] calm (delivering false 24 false calm) ≡ true)
    × (well_along [] unsure (booting unsure) ≡ true)

-- ---- what it must not do
pub record Variant : Type 0 where
  pub before : Store Bool
  pub acts : List (Act Bool)

abbrev pub variants : List Variant
variants =
    -- the mark is written before the slot lasts
    record { before = calm; acts = fills true true ∷ marks 1 ∷ waits ∷ waits ∷ tells 1 ∷ [] }
    -- the answer is given before the mark lasts
    ∷ record { before = calm; acts = fills true true ∷ waits ∷ marks 1 ∷ tells 1 ∷ waits ∷ [] }
    -- the plan is applied in the current slot, or there is one slot for all editions
    ∷ record { before = calm; acts = fills false true ∷ waits ∷ marks 1 ∷ waits ∷ tells 1 ∷ [] }
    -- a refused plan raises the mark
    ∷ record { before = calm; acts = fills true false ∷ marks 1 ∷ [] }
    -- a start tells the edition before the mark lasts
    ∷ record { before = unsure; acts = marks 1 ∷ tells 1 ∷ waits ∷ [] }
    -- a start waits for a mark that it did not write
    ∷ record { before = unsure; acts = waits ∷ waits ∷ tells 1 ∷ [] }
    ∷ []

-- before each of them all is well; but a cut in it may leave storage that is read as half a table, or as an edition below
-- one that was told
abbrev pub VariantsFail : Type 0
VariantsFail =
    All (λ (v : Variant). (well_read [] v.before ≡ true) × (CutAnywhere is_table [] v.before v.acts → ⊥)) variants

-- and why a start writes the mark again: a plan that came before a start was done, even one that is refused, could leave
-- half a table under the mark that is then read
abbrev pub StartIsNeeded : Type 0
StartIsNeeded = Fine is_table [] unsure × (CutAnywhere is_table [] unsure (delivering true 27 false unsure) → ⊥)
